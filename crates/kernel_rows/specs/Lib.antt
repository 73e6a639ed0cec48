pub mod Literals
pub mod WorkedDumps
pub mod WorkedRuns
pub mod WorkedImages

pub mod Records
pub mod Stands
pub mod Kept
pub mod Finished
pub mod Zeros

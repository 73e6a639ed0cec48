pub mod WorkedScans
pub mod WorkedTexts
pub mod WorkedVerdicts

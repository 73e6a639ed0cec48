pub mod Parts
pub mod Urgency

pub mod Holes
pub mod Part
pub mod Walk

pub mod Bounds
pub mod Fate
pub mod Kinds
pub mod Verdict
pub mod Refusals
pub mod Operands

pub mod Starting
pub mod Formatting
pub mod Remaining

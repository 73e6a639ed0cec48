pub mod Matches
pub mod Calling

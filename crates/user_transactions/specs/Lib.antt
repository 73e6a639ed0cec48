pub mod Fates
pub mod Performed
pub mod Runs
pub mod Seen
pub mod Steps
pub mod Works

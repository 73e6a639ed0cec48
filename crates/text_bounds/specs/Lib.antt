pub mod Tally
pub mod Worked

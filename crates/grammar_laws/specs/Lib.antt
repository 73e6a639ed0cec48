pub mod Open
pub mod Shortest
pub mod Worked

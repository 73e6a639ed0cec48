pub mod NamesIn
pub mod Layout
pub mod Objects
pub mod Stops

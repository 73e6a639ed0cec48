pub mod Blank
pub mod Budget

pub mod Cells
pub mod Decoded
pub mod Shown
pub mod Initial
pub mod Declarations
pub mod Agree
pub mod Start
pub mod Unread

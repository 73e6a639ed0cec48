pub mod Form
pub mod Piece
pub mod Scan
pub mod Spelled
pub mod Spelling
pub mod Steps

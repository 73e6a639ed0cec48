pub mod Follows
pub mod Actions
pub mod Ends
pub mod Blocks

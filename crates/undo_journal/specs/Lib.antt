pub mod Lending
pub mod Undo

pub mod Callers
mod BlankWords

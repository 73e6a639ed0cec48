pub mod Callers
mod Chain
mod Changed
mod GivenBack
mod Held
mod Kept
mod Least
mod Lists
mod Parts
mod Places
mod Taken
mod Unique
mod Walks

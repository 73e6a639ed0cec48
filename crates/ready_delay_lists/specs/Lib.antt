pub mod Best
pub mod Lists

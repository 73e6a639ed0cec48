pub mod Causes
pub mod Written
pub mod Reading
pub mod Failing
pub mod SinkState
pub mod FilesState
pub mod DiskCounts
pub mod OutCounts

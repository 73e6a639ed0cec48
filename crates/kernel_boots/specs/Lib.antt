pub mod Boots
pub mod Courses

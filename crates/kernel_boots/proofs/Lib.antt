pub mod Callers
mod CourseLaws
mod SpentLaws

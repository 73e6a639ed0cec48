pub mod Callers
mod KindLaws
mod PieceLaws

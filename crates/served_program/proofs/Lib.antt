pub mod Callers
mod Steps
mod ServedLaws
mod StartLaws
mod DeclarationLaws
mod ActionLaws

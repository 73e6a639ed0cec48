mod Beginning
mod LawSets
mod Locals
mod Rows

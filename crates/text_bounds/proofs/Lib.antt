mod Agreement
mod Expressions
mod Statements
mod Rows
mod Types
mod Induction
mod First

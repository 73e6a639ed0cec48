pub mod Callers
mod Takes
mod Chains
mod Expressions
mod Follows
mod Lists
mod Openings
mod Layers
mod Calls
mod Transactions
mod Blocks
mod Declarations
mod WorkedRows
mod OneProgram

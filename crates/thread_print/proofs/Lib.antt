pub mod Callers
mod Contents
mod Again
mod AgainExpressions
mod AgainCalls
mod Layers
mod AgainTransactions
mod AgainBlocks
mod AgainDeclarations
mod TextLaws
mod Writer
mod Loops
mod Lines

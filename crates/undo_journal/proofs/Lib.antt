pub mod Callers
mod LawSets
mod Lending
mod Outside
mod Restoring
mod Settled
mod Undone

pub mod Callers
mod Agreeing
mod BestLaws
mod LawSets
mod LinkLaws
mod UnlistedLaws

pub mod Callers
mod WrittenLaws
mod ConsumedLaws
mod ReadSoFar
mod AppendedLaws

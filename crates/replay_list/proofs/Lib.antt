pub mod Callers
mod LawSets
mod ValueLaws
mod WordLaws
mod RecordLaws
mod AppendLaws
mod BothLaws
mod ShownLaws
mod LifeLaws
mod KeptLaws
mod CountLaws
mod RowLaws
mod StandsAt
mod StrictLaws
mod ZeroLaws

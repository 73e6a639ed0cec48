pub mod Callers
mod CellLaws
mod InitialLaws
mod InitialObjects
mod InitialRows
mod InitialShown
mod ItemLaws
mod LawSets
mod Frames
mod Lines
mod Listed
mod Packed
mod PartLaws
mod Sorted
mod StartLaws
mod StoreLaws
mod UnreadLaws
mod Walks

pub mod Callers
mod ConsoleBytes
mod ConsoleLines
mod Declarations
mod DumpParts
mod LawSets
mod Looped
mod ObjectLines
mod PutInParts
mod Spaced
mod ThreadLines
mod Urgencies

pub mod Canonical
pub mod CanonicalText
pub mod Rescanned
pub mod Wrote

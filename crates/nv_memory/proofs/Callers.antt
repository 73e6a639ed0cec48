-- What the crates above may cite of these proofs.
pub use Rattle.nv_memory.proofs.BlankWords.{slice_index-blank_words}

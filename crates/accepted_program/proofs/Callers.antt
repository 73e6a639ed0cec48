-- What the crates above may cite of these proofs.
pub use Rattle.accepted_program.proofs.OneProgram.{one_tree}

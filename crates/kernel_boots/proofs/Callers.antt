-- What the crates above may cite of these proofs.
pub use Rattle.kernel_boots.proofs.SpentLaws.{at-most-then, at-most-same}

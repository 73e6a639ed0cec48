-- What the crates above may cite of these proofs.
pub use Rattle.thread_print.proofs.Layers.{block_out, statement_out, tblock_out, tstatement_out}
pub use Rattle.thread_print.proofs.TextLaws.{was_read}

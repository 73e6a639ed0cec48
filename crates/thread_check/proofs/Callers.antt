-- What the crates above may cite of these proofs.
pub use Rattle.thread_check.proofs.ActionLaws.{actions_of_out, actions_in_out, actions_show, spots_in_shows, slice_get_behind, slice_get_before}
pub use Rattle.thread_check.proofs.DeclaredLaws.{found_within}
pub use Rattle.thread_check.proofs.GiveLaws.{block_gives_out, statement_gives_out}
pub use Rattle.thread_check.proofs.Induction.{each_block, each_tblock}
pub use Rattle.thread_check.proofs.KeptActions.{all_both, all_at}
pub use Rattle.thread_check.proofs.StatementLaws.{statement_rule_out, block_rule_out}
pub use Rattle.thread_check.proofs.Steps.{drop_at}
pub use Rattle.thread_check.proofs.TransactionLaws.{tstatement_rule_out, tblock_rule_out}
pub use Rattle.thread_check.proofs.WithinLaws.{within}

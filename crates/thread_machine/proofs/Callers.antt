-- What the crates above may cite of these proofs.
-- the action at which a context stands, and that none comes next at the end of a block
pub use Rattle.thread_machine.proofs.BindLemmas.{action_at, no_action_at_end}
-- a thread that stands at a persistent loop stands in its own frame
pub use Rattle.thread_machine.proofs.OwnLoopLemmas.{own_loop}

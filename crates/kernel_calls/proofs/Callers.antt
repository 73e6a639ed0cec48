-- What the crates above may cite of these proofs: the frame of all calls, and what becomes of a thread.
pub use Rattle.kernel_calls.proofs.PutLaws.{life_unlisted, matches-put, context_put, context_other}
pub use Rattle.kernel_calls.proofs.FrameLaws.{matches-same, matches-changed, matches-relisted, matches-open, matches-left, matches-ended, matches-parts, matches-fewer, matches-counted, itself, other_than, unchanged}
pub use Rattle.kernel_calls.proofs.KernelLaws.{stands-again, stands-timed_again, blocks-lives, sleeps-lives, served-settles, stops-changed, live_row, changed-lives, behind-lives}
pub use Rattle.kernel_calls.proofs.ResultLaws.{matches-woken, matches-served, listed_same, listed_finished, listed_recorded, context_held, unfinished_at}
pub use Rattle.kernel_calls.proofs.EventLaws.{begins, all_held, begins_all, open_held, all_open_held, arrives, stands_again}
pub use Rattle.kernel_calls.proofs.ServingLaws.{acted_serving, first_awaited}
pub use Rattle.kernel_calls.proofs.BlockLaws.{aside_left, matches-asleep, matches-blocked, awaited_listed, matches-awake}
pub use Rattle.kernel_calls.proofs.HoldLaws.{held-now, held-later, acted-answers, acted-blocks}

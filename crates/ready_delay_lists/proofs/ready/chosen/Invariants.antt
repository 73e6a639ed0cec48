-- The best of the rows so far.
use Rattle.std.specs.Prelude.{◌<◌, IfSome}
use Rattle.kernel_image.specs.Decoded.{image_in}
use Rattle.ready_delay_lists.specs.Best.{IsBest}
use Rattle.ready_delay_lists.proofs.ready.chosen.Given as goal

abbrev pub invariant-loop-thread : goal.invariant-loop-thread
invariant-loop-thread g l = IsBest (image_in (g.W.Words.present l.words)) l.thread l.best × IfSome l.best (λ t. t < 16)

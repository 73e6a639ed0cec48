use Rattle.std.proofs.Common.{◌≡◌, take, drop}
use Rattle.kernel_image.specs.Decoded.{image_in, row_at}
use Rattle.boot_recovery.proofs.restoring.words_at.Given as goal

abbrev pub invariant-loop-i : goal.invariant-loop-i
invariant-loop-i g l = l.results.items ≡ take l.i (drop l.from (row_at (image_in (g.W.Words.present l.words)) l.thread).records)

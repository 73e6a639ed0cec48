use Rattle.std.proofs.Common.{◌≡◌, take}
use Rattle.kernel_image.specs.Decoded.{image_in, row_at}
use Rattle.replay_list.proofs.starting.start_values.Given as goal

abbrev pub invariant-loop-i : goal.invariant-loop-i
invariant-loop-i g l = l.values.items ≡ take l.i (row_at (image_in (g.W.Words.present l.words)) l.thread).start_values

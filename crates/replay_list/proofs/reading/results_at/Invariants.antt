use Rattle.std.proofs.Common.{◌≡◌, take, drop, length}
use Rattle.kernel_image.specs.Decoded.{image_in, row_at}
use Rattle.replay_list.proofs.reading.results_at.Given as goal

abbrev pub invariant-loop-at : goal.invariant-loop-at
invariant-loop-at g l = record {
  items : l.results.items ≡ take l.at (drop l.from (row_at (image_in (g.W.Words.present l.words)) l.thread).records);
  many : length l.results.items ≡ l.at;
}

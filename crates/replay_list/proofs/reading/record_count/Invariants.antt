use Rattle.std.proofs.Common.{◌≡◌, ◌-◌, List}
use Rattle.thread_tree.specs.Relive as relive
use Rattle.kernel_image.specs.Decoded.{image_in, row_at}
use Rattle.replay_list.specs.Records.{encoded, recorded, AreFit}
use Rattle.replay_list.proofs.RecordLaws.{HasCounted}
use Rattle.replay_list.proofs.reading.record_count.Given as goal

abbrev pub invariant-loop-from : goal.invariant-loop-from
invariant-loop-from g l = (rs : List relive.Record) → recorded (row_at (image_in (g.W.Words.present l.words)) l.thread) ≡ encoded rs → AreFit rs → HasCounted rs l.count l.from

abbrev pub decreases-loop-from : goal.decreases-loop-from
decreases-loop-from g l = l.used - l.from

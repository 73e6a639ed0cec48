use Rattle.std.proofs.Common.{◌≤◌, ◌-◌, take, length}
use Rattle.std.specs.Io.KnownBytes.{Appends}
use Rattle.outer_world.proofs.out_sink.write_whole.Given as goal

abbrev pub invariant-pieces : goal.invariant-pieces
invariant-pieces g l =
    (l.written ≤ length l.piece)
    × Appends (g.W.Write.contents l.initial.out) (g.W.Write.contents l.out) (take l.written l.piece)

abbrev pub decreases-pieces : goal.decreases-pieces
decreases-pieces g l = length l.piece - l.written

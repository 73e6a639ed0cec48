use Rattle.std.proofs.Common.{◌+◌, ◌-◌, length}
use Rattle.outer_world.proofs.ReadSoFar.{ReadSoFar}
use Rattle.outer_world.proofs.disk_files.read_within.Given as goal

abbrev pub invariant-pieces : goal.invariant-pieces
invariant-pieces g l =
    ReadSoFar (g.F.Read.remaining l.initial.file) (g.F.Read.remaining l.file) l.limit l.into.items l.initial.taken l.taken

abbrev pub decreases-pieces : goal.decreases-pieces
decreases-pieces g l = l.limit + 1 - length l.into.items

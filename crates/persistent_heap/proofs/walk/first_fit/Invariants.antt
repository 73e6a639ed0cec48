use Rattle.std.proofs.Common.{◌-◌, ◌<◌}
use Rattle.undo_journal.specs.Undo.{outside}
use Rattle.persistent_heap.specs.Holes.{link_word}
use Rattle.persistent_heap.specs.Walk.{Passed}
use Rattle.persistent_heap.proofs.walk.first_fit.Given as goal

abbrev pub invariant-loop-hole : goal.invariant-loop-hole
invariant-loop-hole g l = Passed (outside (g.N.Nv.words l.tx)) l.link (λ hole. hole.size < l.words)

abbrev pub decreases-loop-hole : goal.decreases-loop-hole
decreases-loop-hole g l = 11904 - link_word l.link

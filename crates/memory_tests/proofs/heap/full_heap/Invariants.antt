use Rattle.undo_journal.specs.Undo.{outside}
use Rattle.persistent_heap.specs.Holes.{IsHeap, holes}
use Rattle.memory_tests.proofs.heap.full_heap.Given as goal

abbrev pub invariant-loop-block : goal.invariant-loop-block
invariant-loop-block g l = IsHeap (holes (outside l.tx.words.items))

use Rattle.undo_journal.specs.Undo.{outside}
use Rattle.persistent_heap.specs.Holes.{IsHeap, holes}
use Rattle.memory_tests.proofs.heap_reads.words_read.Given as goal

abbrev pub invariant-loop-block : goal.invariant-loop-block
invariant-loop-block g l = IsHeap (holes (outside l.tx.nv.words.items))

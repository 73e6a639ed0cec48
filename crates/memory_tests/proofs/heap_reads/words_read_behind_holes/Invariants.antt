use Rattle.std.proofs.Common.{ℕ, ◌+◌, ◌*◌, ◌<◌, ◌≤◌}
use Rattle.undo_journal.specs.Undo.{outside}
use Rattle.persistent_heap.specs.Holes.{IsHeap, IsTaken, holes, free}
use Rattle.memory_tests.proofs.heap_reads.words_read_behind_holes.Given as goal

abbrev pub invariant-loop-hole : goal.invariant-loop-hole
invariant-loop-hole g l = record {
  heap : IsHeap (holes (outside l.tx.nv.words.items));
  taken : (k : ℕ) → k < l.hole → IsTaken (free (outside l.tx.nv.words.items)) (2 + 4 * k) 2;
}

abbrev pub invariant-loop-hole-2 : goal.invariant-loop-hole-2
invariant-loop-hole-2 g l = record {
  heap : IsHeap (holes (outside l.tx.nv.words.items));
  taken : (k : ℕ) → l.hole ≤ k → k < 100 → IsTaken (free (outside l.tx.nv.words.items)) (2 + 4 * k) 2;
}

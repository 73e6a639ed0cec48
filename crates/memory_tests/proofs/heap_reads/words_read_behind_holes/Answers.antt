use Rattle.std.proofs.Common.{ℕ, ◌+◌, ◌*◌, ◌<◌, arith, below_more}
use Rattle.undo_journal.specs.Undo.{outside}
use Rattle.persistent_heap.specs.Holes.{IsTaken, free}
use Rattle.memory_tests.proofs.heap_reads.words_read_behind_holes.Goals as goal

pub loop-hole-preserved : goal.loop-hole-preserved
loop-hole-preserved g c =
    let some : 0 < 2 + 4 * c.loop-hole.hole = omega arith in
    let Taken : ℕ → Type 0 = λ first. IsTaken (free (outside c.taken_at-in-loop-hole.new.tx.nv.words.items)) first 2 in
    record {
      heap = c.taken_at-in-loop-hole.ensures.heap;
      taken = below_more (λ k. Taken (2 + 4 * k)) c.loop-hole.hole
          (λ k lt. c.taken_at-in-loop-hole.ensures.others _ _ (c.taken_at.ensures.others _ _ (c.loop-hole.invariant.taken k lt)))
          (c.taken_at-in-loop-hole.ensures.others _ _ (c.taken_at.ensures.block some));
    }

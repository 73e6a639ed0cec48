-- Undoing the journal, entry by entry.
use Rattle.std.proofs.Common.{◌≡◌, ℕ, ◌-◌, ◌<◌, List, refl, sym, ap, slice_index, slice_set, ◌∙◌}
use Rattle.nv_memory.specs.Budget.{spent}
use Rattle.nv_memory.specs.declared.nv.Nv.{Ghosts}
use Rattle.undo_journal.specs.Undo.{restored, undone, outside, durable, IsJournalled}
use Rattle.undo_journal.specs.Lending.{IsLent}
use Rattle.undo_journal.proofs.Undone.{undone-journalled, durable-journalled}

-- the entries from k on were restored, each by one write
pub record IsRestoring {N : Type 0} (g : Ghosts N) (first now : N) (k : ℕ) : Type 0 where
  pub journalled : IsJournalled (g.words now)
  pub count : slice_index (g.words now) 4 ≡ slice_index (g.words first) 4
  pub rest : restored k (g.words now) ≡ restored (slice_index (g.words first) 4) (g.words first)
  pub left : g.left now ≡ spent (g.left first) (slice_index (g.words first) 4 - k)
  pub lent : IsLent g first now

pub restored-zero : (words : List ℕ) → restored 0 words ≡ words
unfolding restored
restored-zero words = refl

-- once all were, clearing the count gives the undone words
pub set_count-restored : {N : Type 0} (g : Ghosts N) (first now : N) → IsJournalled (g.words first) → 0 < slice_index (g.words first) 4 → IsRestoring g first now 0 → slice_set (g.words now) 4 0 ≡ undone (g.words first)
set_count-restored g first now journalled some restoring =
    ap (λ (words : List ℕ). slice_set words 4 0) (sym (restored-zero (g.words now)) ∙ restoring.rest) ∙ sym (undone-journalled (g.words first) journalled some)

-- and outside the journal they are there already
pub outside-restored : {N : Type 0} (g : Ghosts N) (first now : N) → IsJournalled (g.words first) → IsRestoring g first now 0 → outside (g.words now) ≡ durable (g.words first)
outside-restored g first now journalled restoring =
    ap outside (sym (restored-zero (g.words now)) ∙ restoring.rest) ∙ sym (durable-journalled (g.words first) journalled)

-- When words are kept for a kernel.
use Rattle.std.proofs.Common.{◌≡◌, ℕ, ◌==◌, List, ap, sym, subst, ◌∙◌, eqb-true, eq-eqb}
use Rattle.std.proofs.lemmas.Bool.{cond_both, false≢true}
use Rattle.std.specs.Prelude.{slice_index}
use Rattle.undo_journal.specs.Undo.{magic, durable, IsAtRest, IsJournalled}
use Rattle.undo_journal.proofs.Callers.{durable-at_rest, IsJournalled-at_rest}
use Rattle.thread_tree.specs.Program.{Program}
use Rattle.kernel_model.specs.Kernel.{State}
use Rattle.kernel_model.specs.Run.{initial}
use Rattle.kernel_image.specs.Cells.{cells}
use Rattle.kernel_image.specs.Decoded.{decoded_of, image_in, saved_image_in}
use Rattle.replay_list.specs.Stands.{Stands}
use Rattle.replay_list.specs.Kept.{IsKept, counter_of}

-- words at rest that stand for a kernel
pub kept_at_rest : (p : Program) (words : List ℕ) (K : State) → IsAtRest words → Stands p (image_in words) K → IsKept p words K
kept_at_rest p words K rest stands = record {
  saved = λ formatted. record {
    journalled = IsJournalled-at_rest words rest;
    stands = subst (λ (h : ℕ → ℕ). Stands p (decoded_of (cells h)) K) (sym (durable-at_rest words rest)) stands;
  };
  blank = λ other. absurd (other rest.formatted);
}

-- other words that come to the same with the journal undone
pub kept_durable : (p : Program) (old new : List ℕ) (K : State) → durable new ≡ durable old → IsJournalled new → slice_index old 0 ≡ magic → IsKept p old K → IsKept p new K
kept_durable p old new K same journalled formatted kept = record {
  saved = λ e. record {
    journalled = journalled;
    stands = subst (λ (h : ℕ → ℕ). Stands p (decoded_of (cells h)) K) (sym same) (kept.saved formatted).stands;
  };
  blank = λ other. absurd (other journalled.formatted);
}

-- the events that kept words show
pub kept_counter : (p : Program) (words : List ℕ) (K : State) → IsKept p words K → counter_of words ≡ K.events
unfolding counter_of initial
kept_counter p words K kept = cond_both (slice_index words 0 == magic) (saved_image_in words).events 0 (λ (n : ℕ). n ≡ K.events)
    (λ formatted. (kept.saved (eqb-true (slice_index words 0) magic formatted)).stands.events)
    (λ other. sym (ap (λ (k : State). k.events) (kept.blank (λ e. false≢true (sym other ∙ eq-eqb (slice_index words 0) magic e))).initial))

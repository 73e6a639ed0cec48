-- The life of a row with one record more.
use Rattle.std.proofs.Common.{◌≡◌, ℕ, ◌≤◌, ◌++◌, List, [], ◌∷◌, ap, sym, subst, ◌∙◌, arith, append_assoc, append-nil}
use Rattle.std.proofs.lemmas.List.Sums.{sum_by_push}
use Rattle.thread_tree.specs.Program.{Program}
use Rattle.thread_tree.specs.Ahead.{Ahead}
use Rattle.thread_tree.specs.Relive.{Start, Record}
use Rattle.kernel_model.specs.Kernel.{Thread}
use Rattle.kernel_model.specs.Kernel.Row.{Ended, Live}
use Rattle.kernel_model.specs.Relived.{words_in, IsRelived}
use Rattle.kernel_model.specs.Run.{arrived}
use Rattle.kernel_model.specs.Serve.{served}
use Rattle.kernel_image.specs.Agree.{Agrees, IsThread}
use Rattle.kernel_image.specs.Decoded.{RowWords}
use Rattle.replay_list.specs.Records.{encoded, recorded, start_in, IsRecorded}
use Rattle.replay_list.specs.Stands.{IsLife}

pub encoded_more : (rs : List Record) (r : Record) → encoded (rs ++ r ∷ []) ≡ encoded rs ++ r.kind ∷ r.results
encoded_more [] r = ap (λ (ws : List ℕ). r.kind ∷ ws) (append-nil r.results)
encoded_more (x ∷ rs) r =
    ap (λ (ws : List ℕ). x.kind ∷ (x.results ++ ws)) (encoded_more rs r)
    ∙ ap (λ (ws : List ℕ). x.kind ∷ ws) (sym (append_assoc x.results (encoded rs) (r.kind ∷ r.results)))

-- a thread that is given back with one record more has the life of the row with that record
pub life_more : (p : Program) (old new : RowWords) (thread later : Thread) (r : Record) (life : IsLife p old thread) → IsRecorded r.kind r.results old new →
    IsRelived p (start_in old) (life.records ++ r ∷ []) later → IsLife p new later
life_more p old new thread later r life more relived =
    let same : start_in new ≡ start_in old = ap start_in more.rest in
    let pushed = sum_by_push words_in life.records r in
    let count = ap (λ (row : RowWords). row.start_count) more.rest in
    record {
      records = life.records ++ r ∷ [];
      words = more.words ∙ ap (λ (ws : List ℕ). ws ++ r.kind ∷ r.results) life.words ∙ sym (encoded_more life.records r);
      relived = subst (λ (start : Start). IsRelived p start (life.records ++ r ∷ []) later) (sym same) relived;
      used = omega (arith, more.used, life.used, life.relived.owes, relived.owes, pushed);
      few = omega (arith, count, life.few);
    }

-- the life of a row depends on its start and its records alone; its start values are few
pub life_kept : (p : Program) (old new : RowWords) (thread : Thread) → start_in new ≡ start_in old → recorded new ≡ recorded old → new.used ≡ old.used → new.start_count ≤ 16 → IsLife p old thread → IsLife p new thread
life_kept p old new thread start words used few life = record {
  records = life.records;
  words = words ∙ life.words;
  relived = subst (λ (start : Start). IsRelived p start life.records thread) (sym start) life.relived;
  used = used ∙ life.used;
  few = omega (arith, few);
}

-- a row with one record more agrees with the thread that was served
pub agrees_recorded : (p : Program) (old new : RowWords) (thread : Thread) (a : Ahead) (kind : ℕ) (results : List ℕ) → Agrees old (Live thread) → IsRecorded kind results old new → Agrees new (Live (served p results (arrived a thread)))
agrees_recorded p old new thread a kind results agrees more =
    let h : IsThread (record new { used = old.used; records = old.records }) thread = subst (λ (row : RowWords). IsThread row thread) (sym more.rest) agrees in
    record { template = h.template; priority = h.priority; stamp = h.stamp; does = h.does }

-- a row whose thread ended agrees with the end
pub agrees_ended : (old new : RowWords) (thread : Thread) (cause : ℕ) → Agrees old (Live thread) → new ≡ record old { state = 4; code = cause } → Agrees new (Ended thread.template thread.priority cause)
agrees_ended old new thread cause agrees is = record {
  state = ap (λ (row : RowWords). row.state) is;
  template = ap (λ (row : RowWords). row.template) is ∙ agrees.template;
  priority = ap (λ (row : RowWords). row.priority) is ∙ agrees.priority;
  code = ap (λ (row : RowWords). row.code) is;
}

-- The row and the context of a live thread.
use Rattle.std.proofs.Common.{◌≡◌, ℕ, zero, suc, ◌<◌, ◌≤◌, length, arith, List, [], ◌∷◌, Option, Some, None, refl, sym, subst}
use Rattle.std.specs.Prelude.{slice_get, slice_index_or, slice_set, option_and_then}
use Rattle.thread_machine.specs.declared.context.Ctx.{Ctx}
use Rattle.thread_tree.specs.Program.{Program}
use Rattle.kernel_model.specs.Kernel as kernel
use Rattle.kernel_model.specs.Kernel.{State, Thread, live_in, thread_of}
use Rattle.kernel_model.specs.Kernel.Row.{Free, Ended, Live}
use Rattle.kernel_model.specs.Sound.{IsSoundRow}
use Rattle.kernel_image.specs.Agree.{Both}
use Rattle.kernel_image.specs.Decoded.{Decoded, RowWords, blank_row, row_at}
use Rattle.replay_list.specs.Stands.{Stands, IsLife, IsRow, HasContext, IsContextOf}
use Rattle.replay_list.specs.Records.{HasRecords}
use Rattle.replay_list.proofs.CountLaws.{counts_records}
use Rattle.replay_list.proofs.BothLaws.{both_set}

-- the row of a live thread
live-row : (p : Program) (row : RowWords) (r : kernel.Row) (thread : Thread) → IsRow p row r → live_in r ≡ Some thread → IsRow p row (Live thread)
live-row p row Free thread is e = absurd (let f : ◌≡◌ {A = Option Thread} None (Some thread) = e in cc)
live-row p row (Ended template priority code) thread is e = absurd (let f : ◌≡◌ {A = Option Thread} None (Some thread) = e in cc)
live-row p row (Live own) thread is e =
    let f : ◌≡◌ {A = Option Thread} (Some own) (Some thread) = e in
    let same : own ≡ thread = cc in
    subst (λ (t : Thread). IsRow p row (Live t)) same is

pub row_live : (p : Program) (rows : List RowWords) (krows : List kernel.Row) (t : ℕ) (thread : Thread) → Both (IsRow p) rows krows → live_in (slice_index_or krows t Free) ≡ Some thread → IsRow p (slice_index_or rows t blank_row) (Live thread)
row_live p [] [] t thread both e = absurd (let f : ◌≡◌ {A = Option Thread} None (Some thread) = e in cc)
row_live p [] (k ∷ krows) t thread both e = absurd both
row_live p (row ∷ rows) [] t thread both e = absurd both
row_live p (row ∷ rows) (k ∷ krows) zero thread both e = live-row p row k thread both.0 e
row_live p (row ∷ rows) (k ∷ krows) (suc t) thread both e = row_live p rows krows t thread both.1 e

-- the context of a live thread
pub record IsThere (p : Program) (found : Option Ctx) (thread : Thread) : Type 0 where
  pub ctx : Ctx
  pub is : found ≡ Some ctx
  pub context : IsContextOf p ctx thread

live-context : (p : Program) (found : Option Ctx) (r : kernel.Row) (thread : Thread) → HasContext p found r → live_in r ≡ Some thread → IsThere p found thread
live-context p None Free thread has e = absurd (let f : ◌≡◌ {A = Option Thread} None (Some thread) = e in cc)
live-context p None (Ended template priority code) thread has e = absurd (let f : ◌≡◌ {A = Option Thread} None (Some thread) = e in cc)
live-context p None (Live own) thread has e = absurd has
live-context p (Some ctx) Free thread has e = absurd has
live-context p (Some ctx) (Ended template priority code) thread has e = absurd has
live-context p (Some ctx) (Live own) thread has e =
    let f : ◌≡◌ {A = Option Thread} (Some own) (Some thread) = e in
    let same : own ≡ thread = cc in
    record { ctx = ctx; is = refl; context = subst (λ (t : Thread). IsContextOf p ctx t) same has }

pub context_live : (p : Program) (contexts : List (Option Ctx)) (krows : List kernel.Row) (t : ℕ) (thread : Thread) → Both (HasContext p) contexts krows → live_in (slice_index_or krows t Free) ≡ Some thread → IsThere p (option_and_then (λ ctx. ctx) (slice_get contexts t)) thread
context_live p [] [] t thread both e = absurd (let f : ◌≡◌ {A = Option Thread} None (Some thread) = e in cc)
context_live p [] (k ∷ krows) t thread both e = absurd both
context_live p (found ∷ contexts) [] t thread both e = absurd both
context_live p (found ∷ contexts) (k ∷ krows) zero thread both e = live-context p found k thread both.0 e
context_live p (found ∷ contexts) (k ∷ krows) (suc t) thread both e = context_live p contexts krows t thread both.1 e

-- the context of a thread that was served, and none where no thread lives
pub context_served : (p : Program) (contexts : List (Option Ctx)) (krows : List kernel.Row) (t : ℕ) (ctx : Ctx) (thread : Thread) → Both (HasContext p) contexts krows → IsContextOf p ctx thread → Both (HasContext p) (slice_set contexts t (Some ctx)) (slice_set krows t (Live thread))
context_served p contexts krows t ctx thread both is = both_set (HasContext p) contexts krows t (Some ctx) (Live thread) both is

none-there : (p : Program) (r : kernel.Row) → live_in r ≡ None → HasContext p None r
none-there p Free e = tt
none-there p (Ended template priority code) e = tt
none-there p (Live thread) e = absurd (let f : ◌≡◌ {A = Option Thread} None (Some thread) = sym e in cc)

pub context_ended : (p : Program) (contexts : List (Option Ctx)) (krows : List kernel.Row) (t : ℕ) (r : kernel.Row) → Both (HasContext p) contexts krows → live_in r ≡ None → Both (HasContext p) (slice_set contexts t None) (slice_set krows t r)
context_ended p contexts krows t r both e = both_set (HasContext p) contexts krows t None r both (none-there p r e)

-- a live thread is one of the rows
pub live_within : (krows : List kernel.Row) (t : ℕ) (thread : Thread) → live_in (slice_index_or krows t Free) ≡ Some thread → t < length krows
live_within [] t thread e = absurd (let f : ◌≡◌ {A = Option Thread} None (Some thread) = e in cc)
live_within (k ∷ krows) zero thread e = omega arith
live_within (k ∷ krows) (suc t) thread e = let rest = live_within krows t thread e in omega (arith, rest)

-- a live thread of a kernel owes no more than the records have room for
live-paid : (p : Program) (ticks : ℕ) (queues : List (List ℕ)) (counts : List ℕ) (r : kernel.Row) (thread : Thread) → IsSoundRow p ticks queues counts r → live_in r ≡ Some thread → thread.debt ≤ 256
live-paid p ticks queues counts Free thread sound e = absurd (let f : ◌≡◌ {A = Option Thread} None (Some thread) = e in cc)
live-paid p ticks queues counts (Ended template priority code) thread sound e = absurd (let f : ◌≡◌ {A = Option Thread} None (Some thread) = e in cc)
live-paid p ticks queues counts (Live own) thread sound e =
    let f : ◌≡◌ {A = Option Thread} (Some own) (Some thread) = e in
    let same : own ≡ thread = cc in
    subst (λ (t : Thread). t.debt ≤ 256) same sound.paid

-- the records of a live thread of the kernel that an image stands for
pub records_live : (p : Program) (d : Decoded) (K : State) (t : ℕ) (thread : Thread) → Stands p d K → thread_of K t ≡ Some thread → HasRecords (row_at d t) thread.passed
records_live p d K t thread stands e =
    let life : IsLife p (row_at d t) thread = (row_live p d.rows K.rows t thread stands.rows e).1 in
    let law = counts_records p (row_at d t) thread life in
    let paid = live-paid p K.ticks K.queues K.counts (slice_index_or K.rows t Free) thread (stands.sound.rows.each t Free (live_within K.rows t thread e)) e in
    record {
      records = life.records;
      words = life.words;
      fit = law.0;
      many = law.1;
      few = omega (arith, life.used, paid);
    }

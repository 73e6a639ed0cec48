-- The lines and the records of the rows, out of the words and the contexts.
use Rattle.std.proofs.Common.{◌≡◌, ℕ, zero, suc, ◌+◌, ◌<◌, ◌≤◌, List, [], ◌∷◌, ◌++◌, Option, Some, None, length, take, refl, sym, ◌∙◌, ap, subst, arith, length-append}
use Rattle.std.specs.List.{range_with_len}
use Rattle.std.specs.Prelude.{flat_map, option_and_then, slice_get, slice_index_or, IfSome}
use Rattle.thread_tree.specs.declared.local.Local.{Local}
use Rattle.thread_tree.specs.LocalState.{locals_of}
use Rattle.thread_tree.specs.Program.{Program}
use Rattle.thread_tree.specs.Relive as relive
use Rattle.thread_machine.specs.declared.context.Ctx.{Ctx}
use Rattle.thread_machine.specs.Context.{local_of}
use Rattle.thread_machine.specs.Reached.{IsContext}
use Rattle.kernel_model.specs.Kernel as kernel
use Rattle.kernel_model.specs.Kernel.{State, Thread, row_of, thread_of}
use Rattle.kernel_model.specs.Kernel.Row.{Free, Ended, Live}
use Rattle.kernel_image.specs.Agree.{Both}
use Rattle.kernel_image.specs.Decoded.{Decoded, RowWords, blank_row, row_at}
use Rattle.replay_list.specs.Records.{encoded, recorded, HasRecords}
use Rattle.replay_list.specs.Stands.{IsRow, HasContext, KernelStands}
use Rattle.replay_list.proofs.Callers.{both_get_or}
use Rattle.boot_report.specs.Lines.{passed_in, row_lines, thread_line, thread_lines}
use Rattle.boot_report.specs.Parts.{found_in, line_by, lines_by}

-- the context of a thread stands at its place
found-at : (contexts : List (Option Ctx)) (t : ℕ) → found_in contexts t ≡ slice_index_or contexts t None
found-at [] t = refl
found-at (found ∷ contexts) zero = refl
found-at (found ∷ contexts) (suc t) = found-at contexts t

module _ (p : Program) (d : Decoded) (contexts : List (Option Ctx)) (K : State) (stands : KernelStands p d contexts K) (t : ℕ) (low : t < 16) where
  within : t < length K.rows
  within = omega (arith, low, stands.image.sound.rows.sixteen)

  has-context : HasContext p (found_in contexts t) (row_of K t)
  has-context = subst (λ (found : Option Ctx). HasContext p found (row_of K t)) (sym (found-at contexts t)) (both_get_or (HasContext p) contexts K.rows t None Free stands.restored within)

  is-row : IsRow p (row_at d t) (row_of K t)
  is-row = both_get_or (IsRow p) d.rows K.rows t blank_row Free stands.image.rows within

-- a context is one of the program
context-of : (p : Program) (found : Option Ctx) (r : kernel.Row) → HasContext p found r → IfSome found (IsContext p)
context-of p None r has = tt
context-of p (Some ctx) Free has = absurd has
context-of p (Some ctx) (Ended template priority code) has = absurd has
context-of p (Some ctx) (Live thread) has = has.context

pub context-at : (p : Program) (d : Decoded) (contexts : List (Option Ctx)) (K : State) → KernelStands p d contexts K → (t : ℕ) → t < 16 → IfSome (found_in contexts t) (IsContext p)
context-at p d contexts K stands t low = context-of p (found_in contexts t) (row_of K t) (has-context p d contexts K stands t low)

-- the line of a row
lines-of : (number : ℕ) (p : Program) (t : ℕ) (row : RowWords) (found : Option Ctx) (r : kernel.Row) → IsRow p row r → HasContext p found r → lines_by number p t row.template found ≡ row_lines number p t r
unfolding thread_line line_by
lines-of number p t row None Free is has = refl
lines-of number p t row None (Ended template priority code) is has = refl
lines-of number p t row None (Live thread) is has = absurd has
lines-of number p t row (Some ctx) Free is has = absurd has
lines-of number p t row (Some ctx) (Ended template priority code) is has = absurd has
lines-of number p t row (Some ctx) (Live thread) is has =
    ap (λ (template : ℕ). line_by number p t template (locals_of (local_of p ctx)) ∷ []) is.0.template
    ∙ ap (λ s. line_by number p t thread.template (locals_of s) ∷ []) has.local

-- the lines of a thread of the image
abbrev pub lines_at : ℕ → Program → Decoded → List (Option Ctx) → ℕ → List (List ℕ)
lines_at number p d contexts t = lines_by number p t (row_at d t).template (found_in contexts t)

row-lines : (number : ℕ) (p : Program) (d : Decoded) (contexts : List (Option Ctx)) (K : State) → KernelStands p d contexts K → (t : ℕ) → t < 16 → lines_at number p d contexts t ≡ row_lines number p t (row_of K t)
row-lines number p d contexts K stands t low =
    lines-of number p t (row_at d t) (found_in contexts t) (row_of K t) (is-row p d contexts K stands t low) (has-context p d contexts K stands t low)

-- the lines of numbered rows
lines-numbered : (f : ℕ → List (List ℕ)) (number : ℕ) (p : Program) (t : ℕ) (rows : List kernel.Row)
    → ((k : ℕ) → k < length rows → f (t + k) ≡ row_lines number p (t + k) (slice_index_or rows k Free))
    → flat_map f (range_with_len t (length rows)) ≡ thread_lines number p t rows
lines-numbered f number p t [] same = refl
lines-numbered f number p t (row ∷ rows) same =
    let here : t + 0 ≡ t = omega arith in
    let first : f t ≡ row_lines number p t row = subst (λ (n : ℕ). f n ≡ row_lines number p n row) here (same 0 (omega arith)) in
    let rest = lines-numbered f number p (t + 1) rows (λ k low.
    let next : t + suc k ≡ t + 1 + k = omega arith in
    subst (λ (n : ℕ). f n ≡ row_lines number p n (slice_index_or rows k Free)) next (same (suc k) (omega (arith, low)))) in
    ap (λ (lines : List (List ℕ)). lines ++ flat_map f (range_with_len (t + 1) (length rows))) first
    ∙ ap (λ (lines : List (List ℕ)). row_lines number p t row ++ lines) rest

pub thread_lines_are : (number : ℕ) (p : Program) (d : Decoded) (contexts : List (Option Ctx)) (K : State) → KernelStands p d contexts K
    → flat_map (lines_at number p d contexts) (range_with_len 0 16) ≡ thread_lines number p 0 K.rows
thread_lines_are number p d contexts K stands =
    let sixteen : 16 ≡ length K.rows = sym stands.image.sound.rows.sixteen in
    ap (λ (n : ℕ). flat_map (lines_at number p d contexts) (range_with_len 0 n)) sixteen
    ∙ lines-numbered (lines_at number p d contexts) number p 0 K.rows (λ k low.
    let none : k ≡ 0 + k = omega arith in
    subst (λ (n : ℕ). lines_at number p d contexts n ≡ row_lines number p n (slice_index_or K.rows k Free)) none
    (row-lines number p d contexts K stands k (omega (arith, low, sixteen))))

-- no records where there is no context
none-passed : (p : Program) (r : kernel.Row) → HasContext p None r → passed_in r ≡ 0
none-passed p Free has = refl
none-passed p (Ended template priority code) has = refl
none-passed p (Live thread) has = absurd has

pub passed-none : (p : Program) (d : Decoded) (contexts : List (Option Ctx)) (K : State) → KernelStands p d contexts K → (t : ℕ) → t < 16 → found_in contexts t ≡ None → passed_in (row_of K t) ≡ 0
passed-none p d contexts K stands t low none =
    none-passed p (row_of K t) (subst (λ (found : Option Ctx). HasContext p found (row_of K t)) none (has-context p d contexts K stands t low))

-- the thread that has a context
pub record IsLive (K : State) (t : ℕ) : Type 0 where
  pub thread : Thread
  pub lives : thread_of K t ≡ Some thread
  pub passed : passed_in (row_of K t) ≡ thread.passed

live-with : (p : Program) (ctx : Ctx) (r : kernel.Row) → HasContext p (Some ctx) r → (thread : Thread) × (r ≡ Live thread)
live-with p ctx Free has = absurd has
live-with p ctx (Ended template priority code) has = absurd has
live-with p ctx (Live thread) has = (thread, refl)

pub live-at : (p : Program) (d : Decoded) (contexts : List (Option Ctx)) (K : State) → KernelStands p d contexts K → (t : ℕ) → t < 16 → (ctx : Ctx) → found_in contexts t ≡ Some ctx → IsLive K t
live-at p d contexts K stands t low ctx is =
    let live = live-with p ctx (row_of K t) (subst (λ (found : Option Ctx). HasContext p found (row_of K t)) is (has-context p d contexts K stands t low)) in
    record { thread = live.0; lives = ap kernel.live_in live.1; passed = ap passed_in live.1 }

-- records have a word each at least
records-many : (rs : List relive.Record) → length rs ≤ length (encoded rs)
records-many [] = omega arith
records-many (r ∷ rs) = let rest = records-many rs in omega (arith, rest, length-append r.results (encoded rs))

pub records-few : (row : RowWords) (count : ℕ) → HasRecords row count → count ≤ 256
records-few row count has =
    let words = ap (λ (ws : List ℕ). length ws) has.words in
    omega (arith, has.many, has.few, records-many has.records, words, taken-few row.used row.records)
  where
    taken-few : (n : ℕ) (ws : List ℕ) → length (take n ws) ≤ n
    taken-few zero ws = omega arith
    taken-few (suc n) [] = omega arith
    taken-few (suc n) (w ∷ ws) = let rest = taken-few n ws in omega (arith, rest)

-- Rows and contexts, one by one.
use Rattle.std.proofs.Common.{◌≡◌, ℕ, zero, suc, ◌+◌, ◌<◌, ◌≤◌, List, [], ◌∷◌, ◌++◌, length, take, refl, ap, sym, subst, ◌∙◌, arith}
use Rattle.std.proofs.lemmas.List.{take_all, take_more, take_more_set}
use Rattle.std.specs.Prelude.{slice_index_or, slice_set, Option, Some, None}
use Rattle.thread_tree.specs.Program.{Program}
use Rattle.thread_machine.specs.declared.context.Ctx.{Ctx}
use Rattle.kernel_model.specs.Kernel as kernel
use Rattle.kernel_model.specs.Kernel.{Activity, Thread}
use Rattle.kernel_model.specs.Kernel.Activity.{Ready, Delayed, Waiting}
use Rattle.kernel_model.specs.Kernel.Row.{Free, Ended, Live}
use Rattle.kernel_image.specs.Agree.{Both, Does}
use Rattle.kernel_image.specs.Decoded.{RowWords, decoded_of, row_at, blank_row}
use Rattle.kernel_image.specs.declared.cell.Cell.{Cell}
use Rattle.boot_recovery.proofs.RowLaws.{length_rows}
use Rattle.replay_list.specs.Stands.{IsRow, HasContext, IsContextOf}
use Rattle.boot_recovery.specs.Remaining.{age_in}

-- the state of a live thread's row
live_least : (row : RowWords) (activity : Activity) → Does row activity → 1 ≤ row.state
live_least row Ready does = omega (arith, does)
live_least row (Delayed wake) does = let at = does.0 in omega (arith, at)
live_least row (Waiting wait) does = let at = does.0 in omega (arith, at)

live_most : (row : RowWords) (activity : Activity) → Does row activity → row.state ≤ 3
live_most row Ready does = omega (arith, does)
live_most row (Delayed wake) does = let at = does.0 in omega (arith, at)
live_most row (Waiting wait) does = let at = does.0 in omega (arith, at)

-- a row where no live thread is
pub no_context : (p : Program) (row : RowWords) (known : kernel.Row) → IsRow p row known → (1 ≤ row.state → 3 < row.state) → HasContext p None known
no_context p row Free is none = tt
no_context p row (Ended template priority code) is none = tt
no_context p row (Live thread) is none =
    let least = live_least row thread.activity is.0.does in
    let most = live_most row thread.activity is.0.does in
    let more = none least in
    absurd (omega (arith, most, more))

pub no_age : (p : Program) (row : RowWords) (known : kernel.Row) → IsRow p row known → (1 ≤ row.state → 3 < row.state) → age_in known ≡ 0
no_age p row Free is none = refl
no_age p row (Ended template priority code) is none = refl
no_age p row (Live thread) is none =
    let least = live_least row thread.activity is.0.does in
    let most = live_most row thread.activity is.0.does in
    let more = none least in
    absurd (omega (arith, most, more))

-- a row where one is
pub some_thread : (p : Program) (row : RowWords) (known : kernel.Row) → IsRow p row known → 1 ≤ row.state → row.state ≤ 3 → (thread : Thread) × IsRow p row (Live thread)
some_thread p row Free is least most = let free = is.0 in absurd (omega (arith, free, least))
some_thread p row (Ended template priority code) is least most = let ended = is.0.state in absurd (omega (arith, ended, most))
some_thread p row (Live thread) is least most = (thread, is)

pub some_context : (p : Program) (row : RowWords) (ctx : Ctx) (known : kernel.Row) → IsRow p row known → 1 ≤ row.state → row.state ≤ 3 → ((thread : Thread) → IsRow p row (Live thread) → IsContextOf p ctx thread) → HasContext p (Some ctx) known
some_context p row ctx Free is least most restored = let free = is.0 in absurd (omega (arith, free, least))
some_context p row ctx (Ended template priority code) is least most restored = let ended = is.0.state in absurd (omega (arith, ended, most))
some_context p row ctx (Live thread) is least most restored = restored thread is

pub some_age : (p : Program) (row : RowWords) (old new : ℕ) (known : kernel.Row) → IsRow p row known → 1 ≤ row.state → row.state ≤ 3 → ((thread : Thread) → IsRow p row (Live thread) → new ≡ old + thread.age) → new ≡ old + age_in known
some_age p row old new Free is least most stepped = let free = is.0 in absurd (omega (arith, free, least))
some_age p row old new (Ended template priority code) is least most stepped = let ended = is.0.state in absurd (omega (arith, ended, most))
some_age p row old new (Live thread) is least most stepped = stepped thread is

-- lists that stand for each other
pub both_length : {X Y : Type 0} (R : X → Y → Type 0) (xs : List X) (ys : List Y) → Both R xs ys → length xs ≡ length ys
both_length R [] [] both = refl
both_length R [] (y ∷ ys) both = absurd both
both_length R (x ∷ xs) [] both = absurd both
both_length R (x ∷ xs) (y ∷ ys) both = ap (λ (n : ℕ). suc n) (both_length R xs ys both.1)

pub both_at : {X Y : Type 0} (R : X → Y → Type 0) (xs : List X) (ys : List Y) (i : ℕ) (x : X) (y : Y) → Both R xs ys → i < length ys → R (slice_index_or xs i x) (slice_index_or ys i y)
both_at R [] [] i x y both low = absurd (omega (arith, low))
both_at R [] (b ∷ ys) i x y both low = absurd both
both_at R (a ∷ xs) [] i x y both low = absurd both
both_at R (a ∷ xs) (b ∷ ys) zero x y both low = both.0
both_at R (a ∷ xs) (b ∷ ys) (suc i) x y both low = both_at R xs ys i x y both.1 (omega (arith, low))

both_push : {X Y : Type 0} (R : X → Y → Type 0) (xs : List X) (ys : List Y) (x : X) (y : Y) → Both R xs ys → R x y → Both R (xs ++ x ∷ []) (ys ++ y ∷ [])
both_push R [] [] x y both is = (is, tt)
both_push R [] (b ∷ ys) x y both is = absurd both
both_push R (a ∷ xs) [] x y both is = absurd both
both_push R (a ∷ xs) (b ∷ ys) x y both is = (both.0, both_push R xs ys x y both.1 is)

-- one context more is set
pub both_more : (p : Program) (contexts : List (Option Ctx)) (rows : List kernel.Row) (i : ℕ) (ctx : Option Ctx) → i < length contexts → i < length rows → Both (HasContext p) (take i contexts) (take i rows) → HasContext p ctx (slice_index_or rows i Free) → Both (HasContext p) (take (i + 1) (slice_set contexts i ctx)) (take (i + 1) rows)
both_more p contexts rows i ctx low less both is =
    subst (λ (cs : List (Option Ctx)). Both (HasContext p) cs (take (i + 1) rows)) (sym (take_more_set contexts i ctx low))
    (subst (λ (rs : List kernel.Row). Both (HasContext p) (take i contexts ++ ctx ∷ []) rs) (sym (take_more rows i Free less))
    (both_push (HasContext p) (take i contexts) (take i rows) ctx (slice_index_or rows i Free) both is))

pub both_all : (p : Program) (contexts : List (Option Ctx)) (rows : List kernel.Row) (i : ℕ) → length contexts ≤ i → length rows ≤ i → Both (HasContext p) (take i contexts) (take i rows) → Both (HasContext p) contexts rows
both_all p contexts rows i low less both =
    subst (λ (cs : List (Option Ctx)). Both (HasContext p) cs rows) (take_all i contexts low)
    (subst (λ (rs : List kernel.Row). Both (HasContext p) (take i contexts) rs) (take_all i rows less) both)

-- the rows of an image, one by one
pub rows_in : (p : Program) (word : Cell → ℕ) (rows : List kernel.Row) → Both (IsRow p) (decoded_of word).rows rows → length rows ≡ 16
rows_in p word rows both = sym (both_length (IsRow p) (decoded_of word).rows rows both) ∙ length_rows word

pub row_in : (p : Program) (word : Cell → ℕ) (rows : List kernel.Row) (t : ℕ) → Both (IsRow p) (decoded_of word).rows rows → t < 16 → IsRow p (row_at (decoded_of word) t) (slice_index_or rows t Free)
row_in p word rows t both low = both_at (IsRow p) (decoded_of word).rows rows t blank_row Free both (let sized = rows_in p word rows both in omega (arith, sized, low))

-- Levels along cursors.
use Rattle.std.proofs.Common.{◌≡◌, ◌≢◌, ℕ, suc, ◌+◌, ◌-◌, ◌<◌, ◌≤◌, List, [], ◌∷◌, ◌++◌, length, take, get_or, Some, None, ◌⊎◌, ⊎_elim, refl, ap, ◌∙◌, arith}
use Rattle.std.specs.Prelude.{slice_get, option_and_then}
use Rattle.std.proofs.lemmas.List.{take_more, take_all}
use Rattle.std.proofs.lemmas.List.Sums.{fold-append}
use Rattle.thread_tree.specs.declared.block.Stmt.{Stmt}
use Rattle.thread_tree.specs.Program.{Program}
use Rattle.thread_machine.specs.declared.context.Cursor.{Cursor}
use Rattle.thread_machine.specs.declared.context.Way.{Way}
use Rattle.thread_machine.specs.declared.context.Way.TheVariants as way
use Rattle.thread_machine.specs.Context.{Level, level_along, level_in, level_by, outermost, statements, block_inside, block_in}

-- one cursor more
pub level_along-snoc : (p : Program) (template : ℕ) (cs : List Cursor) (c : Cursor) → level_along p template (cs ++ c ∷ []) ≡ level_in p (level_along p template cs) c
unfolding level_along
level_along-snoc p template cs c = fold-append (level_in p) (outermost p template) cs (c ∷ [])

-- no cursor
pub level_along-none : (p : Program) (template : ℕ) → level_along p template [] ≡ outermost p template
unfolding level_along
level_along-none p template = refl

-- the statements of the level that a cursor enters
pub level_by-stmts : (p : Program) (l : Level) (at keep : ℕ) (way : Way) → (level_by p l at keep way).stmts ≡ statements (option_and_then (block_inside p way) (slice_get l.stmts at))
level_by-stmts p l at keep way.First = refl
level_by-stmts p l at keep way.Else = refl
level_by-stmts p l at keep way.Call = refl

-- the statements along the first cursors
unfoldable pub stmts_along : Program → ℕ → List Cursor → ℕ → List Stmt
stmts_along p template cs n = (level_along p template (take n cs)).stmts

pub stmts_along-more : (p : Program) (template : ℕ) (cs : List Cursor) (n : ℕ) (d : Cursor) → n < length cs → stmts_along p template cs (n + 1) ≡ statements (option_and_then (block_inside p (get_or cs n d).way) (slice_get (stmts_along p template cs n) (get_or cs n d).at))
unfolding stmts_along
stmts_along-more p template cs n d lt =
    let c = get_or cs n d in
    ap (λ xs. (level_along p template xs).stmts) (take_more cs n d lt)
    ∙ ap (λ (l : Level). l.stmts) (level_along-snoc p template (take n cs) c)
    ∙ level_by-stmts p (level_along p template (take n cs)) c.at c.keep c.way

pub stmts_along-none : (p : Program) (template : ℕ) (cs : List Cursor) → stmts_along p template cs 0 ≡ statements (block_in (slice_get p.bodies template))
unfolding stmts_along level_along
stmts_along-none p template cs = refl

pub stmts_along-all : (p : Program) (template : ℕ) (cs : List Cursor) (n : ℕ) → length cs ≤ n → stmts_along p template cs n ≡ (level_along p template cs).stmts
unfolding stmts_along
stmts_along-all p template cs n past = ap (λ xs. (level_along p template xs).stmts) (take_all n cs past)

pub ruleset walk_laws = (stmts_along-more, stmts_along-none, stmts_along-all)

-- a list that has a last item
pub last_is : {X : Type 0} (xs : List X) (x : X) → slice_get xs (length xs - 1) ≡ Some x → xs ≡ take (length xs - 1) xs ++ x ∷ []
last_is [] x is = cc
last_is (y ∷ []) x is = cc
last_is (y ∷ (z ∷ zs)) x is =
    let e : length (y ∷ (z ∷ zs)) - 1 ≡ suc (length (z ∷ zs) - 1) = omega arith in
    let rest : slice_get (z ∷ zs) (length (z ∷ zs) - 1) ≡ Some x = rw e at is in
    rw e (ap (λ ws. y ∷ ws) (last_is (z ∷ zs) x rest))

-- a list that has no last item
pub last_none : {X : Type 0} (xs : List X) → slice_get xs (length xs - 1) ≡ None → xs ≡ []
last_none [] is = refl
last_none (y ∷ []) is = cc
last_none (y ∷ (z ∷ zs)) is =
    let e : length (y ∷ (z ∷ zs)) - 1 ≡ suc (length (z ∷ zs) - 1) = omega arith in
    let rest : slice_get (z ∷ zs) (length (z ∷ zs) - 1) ≡ None = rw e at is in
    let none = last_none (z ∷ zs) rest in cc

-- nothing is behind a body's statements
pub behind_none : (p : Program) (template : ℕ) (cs : List Cursor) → slice_get cs (length cs - 1) ≡ None → (level_along p template cs).behind ≡ []
unfolding level_along
behind_none p template cs is = rw (last_none cs is) refl

behind_call_at : (p : Program) (l : Level) (at keep : ℕ) (w : Way) → w ≡ way.Call → (level_by p l at keep w).behind ≡ []
behind_call_at p l at keep w is = rw is refl

pub behind_call : (p : Program) (template : ℕ) (cs : List Cursor) (c : Cursor) → slice_get cs (length cs - 1) ≡ Some c → c.way ≡ way.Call → (level_along p template cs).behind ≡ []
behind_call p template cs c is call =
    let front = take (length cs - 1) cs in
    ap (λ xs. (level_along p template xs).behind) (last_is cs c is)
    ∙ ap (λ (l : Level). l.behind) (level_along-snoc p template front c)
    ∙ behind_call_at p (level_along p template front) c.at c.keep c.way call

-- a block's cursor changes neither the frames that wait nor the name for the result
pub kept_waiting : (p : Program) (l : Level) (at keep : ℕ) (w : Way) → w ≢ way.Call → (level_by p l at keep w).waiting ≡ l.waiting
kept_waiting p l at keep way.First is_block = refl
kept_waiting p l at keep way.Else is_block = refl
kept_waiting p l at keep way.Call is_block = absurd (is_block refl)

pub kept_result : (p : Program) (l : Level) (at keep : ℕ) (w : Way) → w ≢ way.Call → (level_by p l at keep w).result ≡ l.result
kept_result p l at keep way.First is_block = refl
kept_result p l at keep way.Else is_block = refl
kept_result p l at keep way.Call is_block = absurd (is_block refl)

pub popped_waiting : (p : Program) (template : ℕ) (cs less : List Cursor) (c : Cursor) → cs ≡ less ++ c ∷ [] → c.way ≢ way.Call → (level_along p template cs).waiting ≡ (level_along p template less).waiting
popped_waiting p template cs less c is is_block =
    ap (λ xs. (level_along p template xs).waiting) is
    ∙ ap (λ (l : Level). l.waiting) (level_along-snoc p template less c)
    ∙ kept_waiting p (level_along p template less) c.at c.keep c.way is_block

pub popped_result : (p : Program) (template : ℕ) (cs less : List Cursor) (c : Cursor) → cs ≡ less ++ c ∷ [] → c.way ≢ way.Call → (level_along p template cs).result ≡ (level_along p template less).result
popped_result p template cs less c is is_block =
    ap (λ xs. (level_along p template xs).result) is
    ∙ ap (λ (l : Level). l.result) (level_along-snoc p template less c)
    ∙ kept_result p (level_along p template less) c.at c.keep c.way is_block

pub no_call : (w : Way) → (w ≡ way.First) ⊎ (w ≡ way.Else) → w ≢ way.Call
no_call w either call = ⊎_elim (λ first. cc) (λ other. cc) either

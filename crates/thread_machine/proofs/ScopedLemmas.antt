-- The names in scope along cursors: one cursor or one statement more.
use Rattle.std.proofs.Common.{◌≡◌, ◌≢◌, ℕ, zero, suc, ◌+◌, List, [], ◌∷◌, ◌++◌, take, Some, refl, ap, sym, ◌∙◌, arith}
use Rattle.std.specs.Prelude.{slice_get, fold}
use Rattle.std.proofs.lemmas.List.{append-nil, append_assoc}
use Rattle.std.proofs.lemmas.List.Sums.{fold-append}
use Rattle.thread_tree.specs.declared.block.Stmt.{Stmt, out-Stmt}
use Rattle.thread_tree.specs.Actions.{declared_by}
use Rattle.thread_tree.specs.Program.{Program}
use Rattle.thread_machine.specs.declared.context.Cursor.{Cursor}
use Rattle.thread_machine.specs.declared.context.Way.{Way}
use Rattle.thread_machine.specs.declared.context.Way.TheVariants as way
use Rattle.thread_machine.specs.Context.{Level, level_along, level_in}
use Rattle.thread_machine.specs.Scope.{AreKept, IsKept, Opened, begin_of, declared_in, opened_along, opened_in, outer_by, scope_at, scope_by}

-- one cursor more
pub opened_along-snoc : (p : Program) (body : ℕ) (cs : List Cursor) (c : Cursor) → opened_along p body (cs ++ c ∷ []) ≡ opened_in p (opened_along p body cs) c
unfolding opened_along
opened_along-snoc p body cs c = fold-append (opened_in p) (begin_of p body) cs (c ∷ [])

-- no cursor
pub opened_along-none : (p : Program) (body : ℕ) → opened_along p body [] ≡ begin_of p body
unfolding opened_along
opened_along-none p body = refl

level_from : (p : Program) (o : Opened) (cs : List Cursor) → (fold (opened_in p) o cs).level ≡ fold (level_in p) o.level cs
level_from p o [] = refl
level_from p o (c ∷ cs) = level_from p (opened_in p o c) cs

-- the open block is the innermost level
pub opened_level : (p : Program) (body : ℕ) (cs : List Cursor) → (opened_along p body cs).level ≡ level_along p body cs
unfolding opened_along level_along
opened_level p body cs = level_from p (begin_of p body) cs

-- its statement at a place
pub opened_statement : (p : Program) (body : ℕ) (cs : List Cursor) (at : ℕ) → slice_get (opened_along p body cs).level.stmts at ≡ slice_get (level_along p body cs).stmts at
opened_statement p body cs at = ap (λ (l : Level). slice_get l.stmts at) (opened_level p body cs)

kept_snoc_from : (p : Program) (o : Opened) (cs : List Cursor) (c : Cursor) → AreKept p o cs → IsKept (fold (opened_in p) o cs) c → AreKept p o (cs ++ c ∷ [])
kept_snoc_from p o [] c kept one = (one, tt)
kept_snoc_from p o (d ∷ cs) c kept one = (kept.0, kept_snoc_from p (opened_in p o d) cs c kept.1 one)

kept_front_from : (p : Program) (o : Opened) (cs : List Cursor) (c : Cursor) → AreKept p o (cs ++ c ∷ []) → AreKept p o cs
kept_front_from p o [] c kept = tt
kept_front_from p o (d ∷ cs) c kept = (kept.0, kept_front_from p (opened_in p o d) cs c kept.1)

kept_last_from : (p : Program) (o : Opened) (cs : List Cursor) (c : Cursor) → AreKept p o (cs ++ c ∷ []) → IsKept (fold (opened_in p) o cs) c
kept_last_from p o [] c kept = kept.0
kept_last_from p o (d ∷ cs) c kept = kept_last_from p (opened_in p o d) cs c kept.1

-- one cursor more that keeps its locals
pub kept_snoc : (p : Program) (body : ℕ) (cs : List Cursor) (c : Cursor) → AreKept p (begin_of p body) cs → IsKept (opened_along p body cs) c → AreKept p (begin_of p body) (cs ++ c ∷ [])
unfolding opened_along
kept_snoc p body cs c kept one = kept_snoc_from p (begin_of p body) cs c kept one

-- the cursors before the last do
pub kept_front : (p : Program) (body : ℕ) (cs : List Cursor) (c : Cursor) → AreKept p (begin_of p body) (cs ++ c ∷ []) → AreKept p (begin_of p body) cs
kept_front p body cs c kept = kept_front_from p (begin_of p body) cs c kept

-- the last one does
pub kept_last : (p : Program) (body : ℕ) (cs : List Cursor) (c : Cursor) → AreKept p (begin_of p body) (cs ++ c ∷ []) → IsKept (opened_along p body cs) c
unfolding opened_along
kept_last p body cs c kept = kept_last_from p (begin_of p body) cs c kept

-- a block is entered with the frames that wait, and with the names in scope at its statement
pub outer_block : (o : Opened) (at : ℕ) (w : Way) → w ≢ way.Call → outer_by o at w ≡ o.outer
outer_block o at way.First block = refl
outer_block o at way.Else block = refl
outer_block o at way.Call block = absurd (block refl)

pub scope_block : (p : Program) (o : Opened) (at : ℕ) (w : Way) → w ≢ way.Call → scope_by p o at w ≡ scope_at o at
scope_block p o at way.First block = refl
scope_block p o at way.Else block = refl
scope_block p o at way.Call block = absurd (block refl)

declared_more : (ss : List Stmt) (n : ℕ) (s : Stmt) → slice_get ss n ≡ Some s → declared_in (take (n + 1) ss) ≡ declared_in (take n ss) ++ declared_by (out-Stmt s)
declared_more [] n s is = cc
declared_more (t ∷ ss) zero s is =
    let e : t ≡ s = cc in append-nil (declared_by (out-Stmt t)) ∙ ap (λ x. declared_by (out-Stmt x)) e
declared_more (t ∷ ss) (suc n) s is =
    let e : suc n + 1 ≡ suc (n + 1) = omega arith in
    rw e (ap (λ xs. declared_by (out-Stmt t) ++ xs) (declared_more ss n s is) ∙ sym (append_assoc (declared_by (out-Stmt t)) (declared_in (take n ss)) (declared_by (out-Stmt s))))

-- behind a statement the name that it declares is in scope too
pub scope_more : (o : Opened) (at : ℕ) (s : Stmt) → slice_get o.level.stmts at ≡ Some s → scope_at o (at + 1) ≡ scope_at o at ++ declared_by (out-Stmt s)
scope_more o at s is =
    ap (λ xs. o.scope ++ xs) (declared_more o.level.stmts at s is) ∙ sym (append_assoc o.scope (declared_in (take at o.level.stmts)) (declared_by (out-Stmt s)))

-- behind one that declares nothing the same names are
pub scope_same : (o : Opened) (at : ℕ) (s : Stmt) → slice_get o.level.stmts at ≡ Some s → declared_by (out-Stmt s) ≡ [] → scope_at o (at + 1) ≡ scope_at o at
scope_same o at s is none = scope_more o at s is ∙ ap (λ xs. scope_at o at ++ xs) none ∙ append-nil (scope_at o at)

-- at the begin of a block its own scope is
pub scope_begins : (o : Opened) → scope_at o 0 ≡ o.scope
scope_begins o = append-nil o.scope

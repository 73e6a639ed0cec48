-- Where the actions of a part stand among those of the whole.
use Rattle.std.proofs.Common.{◌≡◌, ℕ, zero, suc, ◌+◌, ◌≤◌, List, [], ◌∷◌, ◌++◌, length, take, Some, refl, ap, sym, subst, ◌∙◌, arith}
use Rattle.std.specs.Prelude.{slice_get}
use Rattle.std.proofs.lemmas.List.{length-append, append-nil}
use Rattle.thread_tree.specs.declared.block.Stmt.{Stmt}
use Rattle.thread_tree.specs.declared.tree.Decl.{Decl}
use Rattle.thread_check.specs.ActionLists.{actions_of, actions_in_turn, actions_of_declaration, actions_of_declarations}
use Rattle.thread_machine.specs.Parts.{IsPart}
use Rattle.thread_check.proofs.Callers.{slice_get_behind, slice_get_before}

-- a part of a part
pub part_of_part : {A : Type 0} (xs ys zs : List A) (a b : ℕ) → IsPart xs ys a → IsPart ys zs b → IsPart xs zs (b + a)
part_of_part xs ys zs a b inner outer = record {
  fits = omega (arith, inner.fits, outer.fits);
  items = λ i s is. let e : b + a + i ≡ b + (a + i) = omega arith in rw e (outer.items (a + i) s (inner.items i s is));
}

-- the middle of three lists
pub part_between : {A : Type 0} (before part behind : List A) → IsPart part (before ++ (part ++ behind)) (length before)
part_between before part behind = record {
  fits = omega (arith, length-append before (part ++ behind), length-append part behind);
  items = λ i s is. slice_get_behind before (part ++ behind) (length before + i) i refl ∙ slice_get_before part behind i s is;
}

-- nothing stands anywhere
pub part_none : {A : Type 0} (whole : List A) (offset : ℕ) → offset ≤ length whole → IsPart [] whole offset
part_none whole offset le = record { fits = omega arith; items = λ i s is. cc }

-- all of it
pub part_all : {A : Type 0} (whole : List A) → IsPart whole whole 0
part_all whole = record { fits = omega arith; items = λ i s is. let e : 0 + i ≡ i = omega arith in rw e is }

-- nothing stands at the begin
pub part_zero : {A : Type 0} (whole : List A) → IsPart [] whole 0
part_zero whole = part_none whole 0 (omega arith)

-- the first and the second of two lists
pub part_first : {A : Type 0} (part behind : List A) → IsPart part (part ++ behind) 0
part_first part behind = part_between [] part behind

pub part_second : {A : Type 0} (before part : List A) → IsPart part (before ++ part) (length before)
part_second before part = rw append-nil at (part_between before part [])

-- the same part at the same offset
pub part_is : {A : Type 0} (part other whole : List A) (a b : ℕ) → part ≡ other → a ≡ b → IsPart part whole a → IsPart other whole b
part_is part other whole a b same at is = subst (λ xs. IsPart xs whole b) same (subst (λ n. IsPart part whole n) at is)

-- the actions of a statement among those of statements one after another
pub part_at : (stmts : List Stmt) (n : ℕ) (s : Stmt) → slice_get stmts n ≡ Some s → IsPart (actions_of s) (actions_in_turn stmts) (length (actions_in_turn (take n stmts)))
part_at [] n s is = cc
part_at (t ∷ stmts) zero s is = let e : t ≡ s = cc in subst (λ u. IsPart (actions_of s) (actions_of u ++ actions_in_turn stmts) 0) (sym e) (part_between [] (actions_of s) (actions_in_turn stmts))
part_at (t ∷ stmts) (suc n) s is =
    let rest = part_at stmts n s is in
    let behind = part_between (actions_of t) (actions_in_turn stmts) [] in
    let whole : IsPart (actions_in_turn stmts) (actions_of t ++ actions_in_turn stmts) (length (actions_of t)) = rw append-nil at behind in
    rw (length-append (actions_of t) (actions_in_turn (take n stmts)))
    (part_of_part (actions_of s) (actions_in_turn stmts) (actions_of t ++ actions_in_turn stmts) (length (actions_in_turn (take n stmts))) (length (actions_of t)) rest whole)

-- the actions of a declaration among those of declarations
pub part_of_declaration : (ds : List Decl) (n : ℕ) (d : Decl) → slice_get ds n ≡ Some d → IsPart (actions_of_declaration d) (actions_of_declarations ds) (length (actions_of_declarations (take n ds)))
part_of_declaration [] n d is = cc
part_of_declaration (t ∷ ds) zero d is = let e : t ≡ d = cc in subst (λ u. IsPart (actions_of_declaration d) (actions_of_declaration u ++ actions_of_declarations ds) 0) (sym e) (part_between [] (actions_of_declaration d) (actions_of_declarations ds))
part_of_declaration (t ∷ ds) (suc n) d is =
    let rest = part_of_declaration ds n d is in
    let behind = part_between (actions_of_declaration t) (actions_of_declarations ds) [] in
    let whole : IsPart (actions_of_declarations ds) (actions_of_declaration t ++ actions_of_declarations ds) (length (actions_of_declaration t)) = rw append-nil at behind in
    rw (length-append (actions_of_declaration t) (actions_of_declarations (take n ds)))
    (part_of_part (actions_of_declaration d) (actions_of_declarations ds) (actions_of_declaration t ++ actions_of_declarations ds) (length (actions_of_declarations (take n ds))) (length (actions_of_declaration t)) rest whole)

-- the actions of a part, up to one place more
pub length_more : (stmts : List Stmt) (n : ℕ) (s : Stmt) → slice_get stmts n ≡ Some s → length (actions_in_turn (take (n + 1) stmts)) ≡ length (actions_in_turn (take n stmts)) + length (actions_of s)
length_more [] n s is = cc
length_more (t ∷ stmts) zero s is = let e : t ≡ s = cc in omega (arith, length-append (actions_of t) [], ap (λ u. length (actions_of u)) e)
length_more (t ∷ stmts) (suc n) s is =
    let e : suc n + 1 ≡ suc (n + 1) = omega arith in
    rw e (omega (arith, length-append (actions_of t) (actions_in_turn (take (n + 1) stmts)), length-append (actions_of t) (actions_in_turn (take n stmts)), length_more stmts n s is))

pub length_more_declared : (ds : List Decl) (n : ℕ) (d : Decl) → slice_get ds n ≡ Some d → length (actions_of_declarations (take (n + 1) ds)) ≡ length (actions_of_declarations (take n ds)) + length (actions_of_declaration d)
length_more_declared [] n d is = cc
length_more_declared (t ∷ ds) zero d is = let e : t ≡ d = cc in omega (arith, length-append (actions_of_declaration t) [], ap (λ u. length (actions_of_declaration u)) e)
length_more_declared (t ∷ ds) (suc n) d is =
    let e : suc n + 1 ≡ suc (n + 1) = omega arith in
    rw e (omega (arith, length-append (actions_of_declaration t) (actions_of_declarations (take (n + 1) ds)), length-append (actions_of_declaration t) (actions_of_declarations (take n ds)), length_more_declared ds n d is))

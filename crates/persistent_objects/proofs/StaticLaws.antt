-- The static object of a number, in a walk over the declarations.
use Rattle.std.proofs.Common.{◌≡◌, ℕ, zero, suc, ◌+◌, ◌-◌, ◌*◌, ◌<◌, ◌≤◌, List, [], ◌∷◌, refl, ap, subst, sym, ◌∙◌, arith, length}
use Rattle.std.proofs.lemmas.List.{length-map}
use Rattle.std.proofs.lemmas.Option.{unwrap_or-slice_get}
use Rattle.std.specs.Prelude.{slice_get, slice_index_or, unwrap_or, Option, Some, None}
use Rattle.kernel_model.specs.Visible.{Object}
use Rattle.thread_tree.specs.Numbers.{kind_number, fields_of}
use Rattle.kernel_model.specs.Objects.{block_size, static_objects}
use Rattle.thread_tree.specs.declared.tree.Decl.{Decl}
use Rattle.thread_tree.specs.declared.tree.Tree.{Tree}
use Rattle.thread_tree.specs.Program as program
use Rattle.thread_tree.specs.Program.{Program, program_of}
use Rattle.thread_tree.specs.Limits.{IsWithinLimits}
use Rattle.persistent_objects.specs.declared.what.What.TheVariants.{ObjectKinds}
use Rattle.persistent_objects.specs.NamesIn.{name_in, names_in, no_object}
use Rattle.persistent_objects.proofs.Given.{given_from, given_from-zero, given_from-some, given_from-none, given_from-past}
use Rattle.persistent_objects.proofs.NumberLaws.{names-object_kinds}
use Rattle.kernel_image.proofs.Callers.{packed, static_at, size_of, static_objects-of}

-- the static objects by the names of their types
named : (tree : Tree) → IsWithinLimits (program_of tree) → static_objects (program_of tree) ≡ packed (program_of tree) 2 (names_in ObjectKinds tree.decls)
named tree within = static_objects-of (program_of tree) within ∙ ap (λ (names : List ℕ). packed (program_of tree) 2 names) (names-object_kinds tree.decls)

-- the objects to come lie packed from a place on, and fit; the sought one is among them if it is there
pub record IsAheadIn (tree : Tree) (number next left : ℕ) (names : List ℕ) : Type 0 where
  pub sought : slice_get (packed (program_of tree) next names) left ≡ slice_get (static_objects (program_of tree)) number
  pub fits : next + 12 * length names ≤ 770

abbrev pub IsAhead : Tree → ℕ → ℕ → ℕ → ℕ → Type 0
IsAhead tree number next left k = IsAheadIn tree number next left (given_from (name_in ObjectKinds) tree.decls k)

pub IsAhead-start : (tree : Tree) (number : ℕ) → IsWithinLimits (program_of tree) → IsAhead tree number 2 number 0
IsAhead-start tree number within =
    let first = given_from-zero (name_in ObjectKinds) tree.decls in
    let long = length-map (program_of tree).objects (λ (o : program.Object). o.kind) in
    let same = ap length (names-object_kinds tree.decls ∙ sym first) in
    record {
      sought = ap (λ (os : List Object). slice_get os number) (ap (λ (names : List ℕ). packed (program_of tree) 2 names) first ∙ sym (named tree within));
      fits = omega (arith, long, same, within.objects);
    }

-- a declaration of another sort
pub IsAhead-other : (tree : Tree) (number next left k : ℕ) (d : Decl) → IsAhead tree number next left k → slice_get tree.decls k ≡ Some d → name_in ObjectKinds d ≡ None → IsAhead tree number next left (k + 1)
IsAhead-other tree number next left k d so_far is gives =
    subst (λ (names : List ℕ). IsAheadIn tree number next left names) (given_from-none (name_in ObjectKinds) tree.decls k d is gives) so_far

-- another object before the sought one
packed-behind : (p : Program) (next name left : ℕ) (names : List ℕ) → 0 < left → slice_get (packed p next (name ∷ names)) left ≡ slice_get (packed p (next + size_of p name) names) (left - 1)
unfolding packed
packed-behind p next name zero names some = absurd (omega arith)
packed-behind p next name (suc left) names some = let less : suc left - 1 ≡ left = omega arith in ap (λ (n : ℕ). slice_get (packed p (next + size_of p name) names) n) (sym less)

passed : (tree : Tree) (number next left name size : ℕ) (names : List ℕ) → IsAheadIn tree number next left (name ∷ names) → 0 < left → size ≡ size_of (program_of tree) name → size ≤ 12 → IsAheadIn tree number (next + size) (left - 1) names
passed tree number next left name size names now some is few = record {
  sought = ap (λ (n : ℕ). slice_get (packed (program_of tree) (next + n) names) (left - 1)) is ∙ sym (packed-behind (program_of tree) next name left names some) ∙ now.sought;
  fits = omega (arith, now.fits, few);
}

pub IsAhead-passed : (tree : Tree) (number next left k : ℕ) (d : Decl) (name kind size : ℕ) → IsAhead tree number next left k → slice_get tree.decls k ≡ Some d → name_in ObjectKinds d ≡ Some name → kind ≡ kind_number (program_of tree) name → size ≡ block_size (length (fields_of (program_of tree) kind)) → size ≤ 12 → 0 < left → IsAhead tree number (next + size) (left - 1) (k + 1)
IsAhead-passed tree number next left k d name kind size so_far is gives kind_is size_is few some =
    let now = subst (λ (names : List ℕ). IsAheadIn tree number next left names) (given_from-some (name_in ObjectKinds) tree.decls k d name is gives) so_far in
    passed tree number next left name size (given_from (name_in ObjectKinds) tree.decls (k + 1)) now some
    (size_is ∙ ap (λ (n : ℕ). block_size (length (fields_of (program_of tree) n))) kind_is) few

-- the sought object
packed-first : (p : Program) (next name : ℕ) (names : List ℕ) → slice_get (packed p next (name ∷ names)) 0 ≡ Some (static_at p next name)
unfolding packed
packed-first p next name names = refl

pub IsAhead-here : (tree : Tree) (number next k : ℕ) (d : Decl) (name : ℕ) → IsAhead tree number next 0 k → slice_get tree.decls k ≡ Some d → name_in ObjectKinds d ≡ Some name → slice_index_or (static_objects (program_of tree)) number no_object ≡ static_at (program_of tree) next name
IsAhead-here tree number next k d name so_far is gives =
    let now = subst (λ (names : List ℕ). IsAheadIn tree number next 0 names) (given_from-some (name_in ObjectKinds) tree.decls k d name is gives) so_far in
    sym (unwrap_or-slice_get (static_objects (program_of tree)) number no_object)
    ∙ ap (λ (o : Option Object). unwrap_or o no_object) (sym now.sought ∙ packed-first (program_of tree) next name (given_from (name_in ObjectKinds) tree.decls (k + 1)))

-- no object is left
packed-none : (p : Program) (next left : ℕ) → slice_get (packed p next []) left ≡ None
unfolding packed
packed-none p next left = refl

pub IsAhead-none : (tree : Tree) (number next left k : ℕ) → IsAhead tree number next left k → length tree.decls ≤ k → slice_index_or (static_objects (program_of tree)) number no_object ≡ no_object
IsAhead-none tree number next left k so_far past =
    let now = subst (λ (names : List ℕ). IsAheadIn tree number next left names) (given_from-past (name_in ObjectKinds) tree.decls k past) so_far in
    sym (unwrap_or-slice_get (static_objects (program_of tree)) number no_object)
    ∙ ap (λ (o : Option Object). unwrap_or o no_object) (sym now.sought ∙ packed-none (program_of tree) next left)

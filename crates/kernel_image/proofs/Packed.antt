-- Static objects lie one after another from the first place on.
use Rattle.std.proofs.Common.{◌≡◌, ℕ, zero, suc, ◌+◌, ◌*◌, ◌<◌, ◌≤◌, List, [], ◌∷◌, ◌++◌, true, false, refl, ap, subst, sym, ◌∙◌, ◌==◌, arith, length, drop, append_assoc, slice_index_or}
use Rattle.std.proofs.lemmas.Bool.Decides.{nat_tests}
use Rattle.std.proofs.Math.ListN.{drop_of_length-le}
use Rattle.std.specs.List.{cons_option}
use Rattle.std.specs.Prelude.{map, fold, filter_map, nat_le, slice_get, All, Option, Some, None, IsSome, option_map}
use Rattle.std.proofs.lemmas.List.{length-map, length-replicate, append-nil}
use Rattle.kernel_model.specs.Visible.{Object}
use Rattle.thread_tree.specs.Numbers.{kind_number, fields_of}
use Rattle.kernel_model.specs.Objects.{block_size, end_of, least_from, least, place_for, blank_object, object_at, with_static, static_objects}
use Rattle.thread_tree.specs.declared.tree.Decl.{Decl}
use Rattle.thread_tree.specs.declared.tree.Decl.TheVariants as decl
use Rattle.thread_tree.specs.declared.tree.Tree.{Tree}
use Rattle.thread_tree.specs.Program as program
use Rattle.thread_tree.specs.Program.{Program, program_of, sorted}
use Rattle.thread_tree.specs.Limits.{IsWithinLimits, kind_named}
use Rattle.kernel_model.proofs.Callers.{found}
use Rattle.std.specs.List.{AllByRecursion}
use Rattle.std.proofs.lemmas.List.Elements.{recursion_from_All}
use Rattle.std.proofs.lemmas.Option.{get_or_from_slice_get}
use Rattle.kernel_image.specs.Declarations.{kind_name_in}
use Rattle.kernel_image.specs.Initial.{end_after, first_hole}
use Rattle.kernel_image.proofs.Walks.{rest_from}

-- the size of an object of the type of a name
abbrev pub size_of : Program → ℕ → ℕ
size_of p name = block_size (length (fields_of p (kind_number p name)))

-- the static object of the type of a name at a place
abbrev pub static_at : Program → ℕ → ℕ → Object
static_at p place name = blank_object p (kind_number p name) true place

-- objects of the types of these names, one after another from a place on
unfoldable pub packed : Program → ℕ → List ℕ → List Object
packed p place [] = []
packed p place (name ∷ names) = static_at p place name ∷ packed p (place + size_of p name) names

-- objects lie one after another from a place on
abbrev pub IsPacked : ℕ → List Object → Type 0
IsPacked place [] = Unit {0}
IsPacked place (object ∷ objects) = (object.place ≡ place) × IsPacked (end_of object) objects

-- the least place behind packed objects
least_from-packed : (place size : ℕ) (objects : List Object) → IsPacked place objects → 0 < size → end_after place objects + size ≤ 4096 → least_from place size objects ≡ end_after place objects
least_from-packed place size [] packed some fits = let test : nat_le (place + size) 4096 ≡ true = grind (arith, nat_tests) in rw test refl
least_from-packed place size (object ∷ objects) packed some fits =
    let here : object.place ≡ place = packed.0 in
    let test : nat_le (place + size) object.place ≡ false = grind (arith, nat_tests) in
    rw test (least_from-packed (end_of object) size objects packed.1 some fits)

-- one object more
IsPacked-snoc : (place : ℕ) (objects : List Object) (object : Object) → IsPacked place objects → object.place ≡ end_after place objects → IsPacked place (objects ++ object ∷ [])
IsPacked-snoc place [] object packed here = (here, tt)
IsPacked-snoc place (first ∷ objects) object packed here = (packed.0, IsPacked-snoc (end_of first) objects object packed.1 here)

end_after-snoc : (place : ℕ) (objects : List Object) (object : Object) → end_after place (objects ++ object ∷ []) ≡ end_of object
end_after-snoc place [] object = refl
end_after-snoc place (first ∷ objects) object = end_after-snoc (end_of first) objects object

-- the place after a static object
pub end_of-static : (p : Program) (place name : ℕ) → end_of (static_at p place name) ≡ place + size_of p name
end_of-static p place name = ap (λ (n : ℕ). place + block_size n) (length-replicate (length (fields_of p (kind_number p name))) 0)

-- each type has few fields
abbrev pub HasFewFields : Program → Type 0
HasFewFields p = (kind : ℕ) → length (fields_of p kind) ≤ 10

pub size_of-few : (p : Program) (name : ℕ) → HasFewFields p → size_of p name ≤ 12
size_of-few p name few = let low = few (kind_number p name) in omega (arith, low)

size_of-some : (p : Program) (name : ℕ) → 0 < size_of p name
size_of-some p name = omega arith

-- the place for an object of a type that the program declares
place-known : (p : Program) (objects : List Object) (name : ℕ) → IsSome (kind_named p name) → place_for p objects (kind_number p name) ≡ least_from 2 (size_of p name) objects
place-known p objects name known = go (slice_get p.kinds (kind_number p name)) refl (subst (λ (o : Option program.Kind). IsSome o) (sym (found (λ (kind : program.Kind). kind.name == name) p.kinds)) known)
  where
    go : (o : Option program.Kind) → slice_get p.kinds (kind_number p name) ≡ o → IsSome o → (elim o [ None ↦ 0 | Some k ↦ least objects (length k.fields) ]) ≡ least_from 2 (size_of p name) objects
    go None is some = absurd (let e : false ≡ true = some in cc)
    go (Some k) is some = ap (λ (t : program.Kind). least objects (length t.fields)) (sym (get_or_from_slice_get p.kinds (kind_number p name) k (record { name = 0; fields = [] }) is))

-- the objects that declarations add to packed ones
fold-packed : (p : Program) (objects : List Object) (declared : List program.Object) → AllByRecursion (λ (o : program.Object). IsSome (kind_named p o.kind)) declared → HasFewFields p → IsPacked 2 objects → end_after 2 objects + 12 * length declared ≤ 4096 → fold (with_static p) objects declared ≡ objects ++ packed p (end_after 2 objects) (map (λ o. o.kind) declared)
unfolding packed
fold-packed p objects [] known few is fits = sym (append-nil objects)
fold-packed p objects (o ∷ declared) known few is fits =
    let small = size_of-few p o.kind few in
    let at : place_for p objects (kind_number p o.kind) ≡ end_after 2 objects = place-known p objects o.kind known.0 ∙ least_from-packed 2 (size_of p o.kind) objects is (size_of-some p o.kind) (omega (arith, fits, small)) in
    let more : with_static p objects o ≡ objects ++ static_at p (end_after 2 objects) o.kind ∷ [] = ap (λ (n : ℕ). objects ++ static_at p n o.kind ∷ []) at in
    let end : end_after 2 (objects ++ static_at p (end_after 2 objects) o.kind ∷ []) ≡ end_after 2 objects + size_of p o.kind = end_after-snoc 2 objects (static_at p (end_after 2 objects) o.kind) ∙ end_of-static p (end_after 2 objects) o.kind in
    let rest = fold-packed p (objects ++ static_at p (end_after 2 objects) o.kind ∷ []) declared known.1 few (IsPacked-snoc 2 objects (static_at p (end_after 2 objects) o.kind) is refl) (omega (arith, fits, small, end)) in
    ap (λ (os : List Object). fold (with_static p) os declared) more
    ∙ rest
    ∙ ap (λ (n : ℕ). (objects ++ static_at p (end_after 2 objects) o.kind ∷ []) ++ packed p n (map (λ d. d.kind) declared)) end
    ∙ append_assoc objects (static_at p (end_after 2 objects) o.kind ∷ []) (packed p (end_after 2 objects + size_of p o.kind) (map (λ d. d.kind) declared))

-- the type names of static objects, in order of declaration
kinds-objects : (ds : List Decl) → map (λ (o : program.Object). o.kind) (sorted ds).objects ≡ filter_map kind_name_in ds
kinds-objects [] = refl
kinds-objects ((decl.Kind at fields) ∷ ds) = kinds-objects ds
kinds-objects ((decl.Object at kind) ∷ ds) = λ i. kind.name ∷ kinds-objects ds i
kinds-objects ((decl.Queue at capacity channel) ∷ ds) = kinds-objects ds
kinds-objects ((decl.Semaphore at count maximum) ∷ ds) = kinds-objects ds
kinds-objects ((decl.Function at parameters body) ∷ ds) = kinds-objects ds
kinds-objects ((decl.Thread at parameters priority body) ∷ ds) = kinds-objects ds
kinds-objects ((decl.Start place at arguments) ∷ ds) = kinds-objects ds

-- within the limits each type has few fields
few_at : (kinds : List program.Kind) (n : ℕ) (d : program.Kind) → length d.fields ≤ 10 → All (λ (k : program.Kind). length k.fields ≤ 10) kinds → length (slice_index_or kinds n d).fields ≤ 10
few_at [] n d low all = low
few_at (k ∷ kinds) zero d low all = all 0 d (omega arith)
few_at (k ∷ kinds) (suc n) d low all = few_at kinds n d low (λ i e within. all (suc i) e (omega (arith, within)))

pub HasFewFields-within : (p : Program) → IsWithinLimits p → HasFewFields p
HasFewFields-within p within kind = few_at p.kinds kind (record { name = 0; fields = [] }) (omega arith) within.fields

-- the static objects of a program
pub static_objects-of : (p : Program) → IsWithinLimits p → static_objects p ≡ packed p 2 (map (λ (o : program.Object). o.kind) p.objects)
unfolding static_objects
static_objects-of p within = fold-packed p [] p.objects (recursion_from_All (λ (o : program.Object). IsSome (kind_named p o.kind)) p.objects within.object_kinds) (HasFewFields-within p within) tt (omega (arith, within.objects))

pub static_objects-packed : (tree : Tree) → IsWithinLimits (program_of tree) → static_objects (program_of tree) ≡ packed (program_of tree) 2 (filter_map kind_name_in tree.decls)
unfolding static_objects
static_objects-packed tree within =
    fold-packed (program_of tree) [] (program_of tree).objects (recursion_from_All (λ (o : program.Object). IsSome (kind_named (program_of tree) o.kind)) (program_of tree).objects within.object_kinds) (HasFewFields-within (program_of tree) within) tt (omega (arith, within.objects))
    ∙ ap (λ (names : List ℕ). packed (program_of tree) 2 names) (kinds-objects tree.decls)

-- the type names of the objects that are declared from the k-th declaration on
unfoldable pub names_from : List Decl → ℕ → List ℕ
names_from decls k = filter_map kind_name_in (drop k decls)

names_from-object : (decls : List Decl) (k : ℕ) (d : Decl) (name : ℕ) → slice_get decls k ≡ Some d → kind_name_in d ≡ Some name → names_from decls k ≡ name ∷ names_from decls (k + 1)
unfolding names_from
names_from-object decls k d name is object =
    ap (filter_map kind_name_in) (rest_from decls k d is) ∙ ap (λ (o : Option ℕ). cons_option o (filter_map kind_name_in (drop (k + 1) decls))) object

names_from-other : (decls : List Decl) (k : ℕ) (d : Decl) → slice_get decls k ≡ Some d → kind_name_in d ≡ None → names_from decls k ≡ names_from decls (k + 1)
unfolding names_from
names_from-other decls k d is other =
    ap (filter_map kind_name_in) (rest_from decls k d is) ∙ ap (λ (o : Option ℕ). cons_option o (filter_map kind_name_in (drop (k + 1) decls))) other

names_from-past : (decls : List Decl) (k : ℕ) → length decls ≤ k → names_from decls k ≡ []
unfolding names_from
names_from-past decls k past = ap (filter_map kind_name_in) (drop_of_length-le decls past)

-- there are as many names as objects
length-kind_names : (ds : List Decl) → length (filter_map kind_name_in ds) ≡ length (sorted ds).objects
length-kind_names ds = sym (ap length (kinds-objects ds)) ∙ length-map (sorted ds).objects (λ (o : program.Object). o.kind)

-- the type names are those of all objects at the start, and few
names_from-start : (tree : Tree) → IsWithinLimits (program_of tree) → static_objects (program_of tree) ≡ packed (program_of tree) 2 (names_from tree.decls 0)
unfolding names_from
names_from-start tree within = static_objects-packed tree within

names_from-few : (tree : Tree) → IsWithinLimits (program_of tree) → 2 + 12 * length (names_from tree.decls 0) ≤ 770
unfolding names_from
names_from-few tree within = let few = length-kind_names tree.decls in omega (arith, few, within.objects)

-- the objects to come lie packed from a place on, and fit; the sought one is among them if it is there
pub record IsSoughtIn (tree : Tree) (place next : ℕ) (names : List ℕ) : Type 0 where
  pub sought : object_at (packed (program_of tree) next names) place ≡ object_at (static_objects (program_of tree)) place
  pub fits : next + 12 * length names ≤ 770

abbrev pub IsSought : Tree → ℕ → ℕ → ℕ → Type 0
IsSought tree place next k = IsSoughtIn tree place next (names_from tree.decls k)

pub IsSought-start : (tree : Tree) (place : ℕ) → IsWithinLimits (program_of tree) → IsSought tree place 2 0
IsSought-start tree place within = record {
  sought = ap (λ (os : List Object). object_at os place) (sym (names_from-start tree within));
  fits = names_from-few tree within;
}

-- the first of packed objects, and the others
packed-here : (p : Program) (next name : ℕ) (names : List ℕ) (place : ℕ) → (next == place) ≡ true → option_map (λ (o : Object). o.kind) (object_at (packed p next (name ∷ names)) place) ≡ Some (kind_number p name)
unfolding packed
packed-here p next name names place test = rw test refl

packed-behind : (p : Program) (next name : ℕ) (names : List ℕ) (place : ℕ) → (next == place) ≡ false → object_at (packed p next (name ∷ names)) place ≡ object_at (packed p (next + size_of p name) names) place
unfolding packed
packed-behind p next name names place test = rw test refl

packed-none : (p : Program) (next place : ℕ) → None ≡ object_at (packed p next []) place
unfolding packed
packed-none p next place = refl

sought_behind : (tree : Tree) (place next name : ℕ) (names : List ℕ) → IsSoughtIn tree place next (name ∷ names) → (next == place) ≡ false → size_of (program_of tree) name ≤ 12 → IsSoughtIn tree place (next + size_of (program_of tree) name) names
sought_behind tree place next name names now other few = record {
  sought = sym (packed-behind (program_of tree) next name names place other) ∙ now.sought;
  fits = omega (arith, now.fits, few);
}

-- a declaration of another sort
pub IsSought-other : (tree : Tree) (place next k : ℕ) (d : Decl) → IsSought tree place next k → slice_get tree.decls k ≡ Some d → kind_name_in d ≡ None → IsSought tree place next (k + 1)
IsSought-other tree place next k d so_far is other =
    subst (λ (names : List ℕ). IsSoughtIn tree place next names) (names_from-other tree.decls k d is other) so_far

-- an object at another place
pub IsSought-passed : (tree : Tree) (place next k : ℕ) (d : Decl) (name kind size : ℕ) → IsSought tree place next k → slice_get tree.decls k ≡ Some d → kind_name_in d ≡ Some name → kind ≡ kind_number (program_of tree) name → size ≡ block_size (length (fields_of (program_of tree) kind)) → size ≤ 12 → (next == place) ≡ false → IsSought tree place (next + size) (k + 1)
IsSought-passed tree place next k d name kind size so_far is object kind_is size_is few other =
    let now = subst (λ (names : List ℕ). IsSoughtIn tree place next names) (names_from-object tree.decls k d name is object) so_far in
    let same : next + size_of (program_of tree) name ≡ next + size = ap (λ (n : ℕ). next + block_size (length (fields_of (program_of tree) n))) (sym kind_is) ∙ ap (λ (n : ℕ). next + n) (sym size_is) in
    subst (λ (n : ℕ). IsSoughtIn tree place n (names_from tree.decls (k + 1))) same
    (sought_behind tree place next name (names_from tree.decls (k + 1)) now other (omega (arith, few, same)))

-- an object at the place
pub IsSought-here : (tree : Tree) (place next k : ℕ) (d : Decl) (name kind : ℕ) → IsSought tree place next k → slice_get tree.decls k ≡ Some d → kind_name_in d ≡ Some name → kind ≡ kind_number (program_of tree) name → next ≡ place → Some kind ≡ option_map (λ (o : Object). o.kind) (object_at (static_objects (program_of tree)) place)
IsSought-here tree place next k d name kind so_far is object kind_is here =
    let now = subst (λ (names : List ℕ). IsSoughtIn tree place next names) (names_from-object tree.decls k d name is object) so_far in
    let test : (next == place) ≡ true = grind (arith, nat_tests) in
    ap (λ (n : ℕ). Some n) kind_is ∙ sym (packed-here (program_of tree) next name (names_from tree.decls (k + 1)) place test)
    ∙ ap (option_map (λ (o : Object). o.kind)) now.sought

-- no object is left
pub IsSought-none : (tree : Tree) (place next k : ℕ) → IsSought tree place next k → length tree.decls ≤ k → None ≡ option_map (λ (o : Object). o.kind) (object_at (static_objects (program_of tree)) place)
IsSought-none tree place next k so_far past =
    let now = subst (λ (names : List ℕ). IsSoughtIn tree place next names) (names_from-past tree.decls k past) so_far in
    (ap (option_map (λ (o : Object). o.kind)) (packed-none (program_of tree) next place)) ∙ ap (option_map (λ (o : Object). o.kind)) now.sought

-- the objects to come end where the hole begins
pub record IsEndingIn (tree : Tree) (next : ℕ) (names : List ℕ) : Type 0 where
  pub end : end_after next (packed (program_of tree) next names) ≡ first_hole (program_of tree)
  pub fits : next + 12 * length names ≤ 770

abbrev pub IsEnding : Tree → ℕ → ℕ → Type 0
IsEnding tree next k = IsEndingIn tree next (names_from tree.decls k)

pub IsEnding-start : (tree : Tree) → IsWithinLimits (program_of tree) → IsEnding tree 2 0
IsEnding-start tree within = record {
  end = ap (end_after 2) (sym (names_from-start tree within));
  fits = names_from-few tree within;
}

pub IsEnding-other : (tree : Tree) (next k : ℕ) (d : Decl) → IsEnding tree next k → slice_get tree.decls k ≡ Some d → kind_name_in d ≡ None → IsEnding tree next (k + 1)
IsEnding-other tree next k d so_far is other =
    subst (λ (names : List ℕ). IsEndingIn tree next names) (names_from-other tree.decls k d is other) so_far

end_after-packed : (p : Program) (next name : ℕ) (names : List ℕ) → end_after next (packed p next (name ∷ names)) ≡ end_after (next + size_of p name) (packed p (next + size_of p name) names)
unfolding packed
end_after-packed p next name names = ap (λ (n : ℕ). end_after n (packed p (next + size_of p name) names)) (end_of-static p next name)

ending_behind : (tree : Tree) (next name : ℕ) (names : List ℕ) → IsEndingIn tree next (name ∷ names) → size_of (program_of tree) name ≤ 12 → IsEndingIn tree (next + size_of (program_of tree) name) names
ending_behind tree next name names now few = record {
  end = sym (end_after-packed (program_of tree) next name names) ∙ now.end;
  fits = omega (arith, now.fits, few);
}

pub IsEnding-passed : (tree : Tree) (next k : ℕ) (d : Decl) (name kind size : ℕ) → IsEnding tree next k → slice_get tree.decls k ≡ Some d → kind_name_in d ≡ Some name → kind ≡ kind_number (program_of tree) name → size ≡ block_size (length (fields_of (program_of tree) kind)) → size ≤ 12 → IsEnding tree (next + size) (k + 1)
IsEnding-passed tree next k d name kind size so_far is object kind_is size_is few =
    let now = subst (λ (names : List ℕ). IsEndingIn tree next names) (names_from-object tree.decls k d name is object) so_far in
    let same : next + size_of (program_of tree) name ≡ next + size = ap (λ (n : ℕ). next + block_size (length (fields_of (program_of tree) n))) (sym kind_is) ∙ ap (λ (n : ℕ). next + n) (sym size_is) in
    subst (λ (n : ℕ). IsEndingIn tree n (names_from tree.decls (k + 1))) same
    (ending_behind tree next name (names_from tree.decls (k + 1)) now (omega (arith, few, same)))

end_after-none : (p : Program) (next : ℕ) → next ≡ end_after next (packed p next [])
unfolding packed
end_after-none p next = refl

pub IsEnding-all : (tree : Tree) (next k : ℕ) → IsEnding tree next k → length tree.decls ≤ k → next ≡ first_hole (program_of tree)
IsEnding-all tree next k so_far past =
    let now = subst (λ (names : List ℕ). IsEndingIn tree next names) (names_from-past tree.decls k past) so_far in
    end_after-none (program_of tree) next ∙ now.end

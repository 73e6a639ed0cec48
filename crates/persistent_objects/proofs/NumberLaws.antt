-- Numbers by name, and the fields of a type, as the declarations give them.
use Rattle.std.proofs.Common.{◌≡◌, ℕ, ◌+◌, ◌≤◌, ◌==◌, List, [], ◌∷◌, Bool, true, false, refl, ap, sym, ◌∙◌, arith, length, drop}
use Rattle.std.proofs.Math.ListN.{drop_of_length-le}
use Rattle.std.proofs.lemmas.List.{length-map}
use Rattle.std.proofs.lemmas.Option.{unwrap_or-slice_get, none-some}
use Rattle.std.specs.Prelude.{if◌then◌else◌, not, map, filter_map, slice_get, slice_index_or, unwrap_or, Option, Some, None, option_map}
use Rattle.std.specs.List.{position_or_len}
use Rattle.thread_tree.specs.declared.place.At.{At}
use Rattle.thread_tree.specs.declared.tree.Decl.{Decl}
use Rattle.thread_tree.specs.declared.tree.Decl.TheVariants as decl
use Rattle.thread_tree.specs.declared.tree.Tree.{Tree}
use Rattle.thread_tree.specs.Program as program
use Rattle.thread_tree.specs.Program.{Kind, program_of, sorted, names_of}
use Rattle.thread_tree.specs.Limits.{IsWithinLimits}
use Rattle.thread_tree.specs.Numbers.{object_number, kind_number, field_number, fields_of}
use Rattle.kernel_image.specs.Declarations.{kind_in}
use Rattle.persistent_objects.specs.declared.what.What.TheVariants.{Kinds, Objects, ObjectKinds}
use Rattle.persistent_objects.specs.NamesIn.{names_in, is_name, kind_fields}
use Rattle.persistent_objects.proofs.Given.{rest_from, position-few}
use Rattle.kernel_image.proofs.Callers.{HasFewFields-within}

-- a place by what elements have is one among what they have
position-map : {X Y : Type 0} (f : X → Y) (test : Y → Bool) (xs : List X) → position_or_len (λ x. test (f x)) xs ≡ position_or_len test (map f xs)
position-map f test [] = refl
position-map f test (x ∷ xs) = ap (λ (n : ℕ). if not (test (f x)) then 1 + n else 0) (position-map f test xs)

-- the names of types, of objects and of their types
names-kinds : (ds : List Decl) → map (λ (k : Kind). k.name) (sorted ds).kinds ≡ names_in Kinds ds
names-kinds [] = refl
names-kinds ((decl.Kind at fields) ∷ ds) = λ i. at.name ∷ names-kinds ds i
names-kinds ((decl.Object at kind) ∷ ds) = names-kinds ds
names-kinds ((decl.Queue at capacity channel) ∷ ds) = names-kinds ds
names-kinds ((decl.Semaphore at count maximum) ∷ ds) = names-kinds ds
names-kinds ((decl.Function at parameters body) ∷ ds) = names-kinds ds
names-kinds ((decl.Thread at parameters priority body) ∷ ds) = names-kinds ds
names-kinds ((decl.Start place at arguments) ∷ ds) = names-kinds ds

names-objects : (ds : List Decl) → map (λ (o : program.Object). o.name) (sorted ds).objects ≡ names_in Objects ds
names-objects [] = refl
names-objects ((decl.Kind at fields) ∷ ds) = names-objects ds
names-objects ((decl.Object at kind) ∷ ds) = λ i. at.name ∷ names-objects ds i
names-objects ((decl.Queue at capacity channel) ∷ ds) = names-objects ds
names-objects ((decl.Semaphore at count maximum) ∷ ds) = names-objects ds
names-objects ((decl.Function at parameters body) ∷ ds) = names-objects ds
names-objects ((decl.Thread at parameters priority body) ∷ ds) = names-objects ds
names-objects ((decl.Start place at arguments) ∷ ds) = names-objects ds

pub names-object_kinds : (ds : List Decl) → map (λ (o : program.Object). o.kind) (sorted ds).objects ≡ names_in ObjectKinds ds
names-object_kinds [] = refl
names-object_kinds ((decl.Kind at fields) ∷ ds) = names-object_kinds ds
names-object_kinds ((decl.Object at kind) ∷ ds) = λ i. kind.name ∷ names-object_kinds ds i
names-object_kinds ((decl.Queue at capacity channel) ∷ ds) = names-object_kinds ds
names-object_kinds ((decl.Semaphore at count maximum) ∷ ds) = names-object_kinds ds
names-object_kinds ((decl.Function at parameters body) ∷ ds) = names-object_kinds ds
names-object_kinds ((decl.Thread at parameters priority body) ∷ ds) = names-object_kinds ds
names-object_kinds ((decl.Start place at arguments) ∷ ds) = names-object_kinds ds

-- the number of a type, and of an object
pub kind_number_is : (tree : Tree) (name : ℕ) → kind_number (program_of tree) name ≡ position_or_len (is_name name) (names_in Kinds tree.decls)
kind_number_is tree name =
    position-map (λ (k : Kind). k.name) (is_name name) (program_of tree).kinds
    ∙ ap (λ (names : List ℕ). position_or_len (is_name name) names) (names-kinds tree.decls)

pub object_number_is : (tree : Tree) (name : ℕ) → object_number (program_of tree) name ≡ position_or_len (is_name name) (names_in Objects tree.decls)
object_number_is tree name =
    position-map (λ (o : program.Object). o.name) (is_name name) (program_of tree).objects
    ∙ ap (λ (names : List ℕ). position_or_len (is_name name) names) (names-objects tree.decls)

-- they are few
pub kind_number_few : (tree : Tree) (name : ℕ) → IsWithinLimits (program_of tree) → position_or_len (is_name name) (names_in Kinds tree.decls) ≤ 32
kind_number_few tree name within =
    let low = position-few (λ (k : Kind). k.name == name) (program_of tree).kinds in
    let same = kind_number_is tree name in
    omega (arith, low, same, within.kinds)

pub object_number_few : (tree : Tree) (name : ℕ) → IsWithinLimits (program_of tree) → position_or_len (is_name name) (names_in Objects tree.decls) ≤ 64
object_number_few tree name within =
    let low = position-few (λ (o : program.Object). o.name == name) (program_of tree).objects in
    let same = object_number_is tree name in
    omega (arith, low, same, within.objects)

-- the types are what the declarations give
kinds_given : (ds : List Decl) → (sorted ds).kinds ≡ filter_map kind_in ds
kinds_given [] = refl
kinds_given ((decl.Kind at fields) ∷ ds) = λ i. record { name = at.name; fields = names_of fields } ∷ kinds_given ds i
kinds_given ((decl.Object at kind) ∷ ds) = kinds_given ds
kinds_given ((decl.Queue at capacity channel) ∷ ds) = kinds_given ds
kinds_given ((decl.Semaphore at count maximum) ∷ ds) = kinds_given ds
kinds_given ((decl.Function at parameters body) ∷ ds) = kinds_given ds
kinds_given ((decl.Thread at parameters priority body) ∷ ds) = kinds_given ds
kinds_given ((decl.Start place at arguments) ∷ ds) = kinds_given ds

-- the fields of an element that is there, and of one that isn't
abbrev no_kind : Kind
no_kind = record { name = 0; fields = [] }

abbrev some_of : {X : Type 0} → X → Option X → X
some_of d None = d
some_of d (Some x) = x

fields-some : (o : Option Kind) (fields : List ℕ) → Some fields ≡ option_map kind_fields o → (unwrap_or o no_kind).fields ≡ fields
fields-some None fields is = absurd (none-some _ (sym is))
fields-some (Some kind) fields is = ap (λ (o : Option (List ℕ)). some_of [] o) (sym is)

fields-none : (o : Option Kind) → None ≡ option_map kind_fields o → (unwrap_or o no_kind).fields ≡ []
fields-none None is = refl
fields-none (Some kind) is = absurd (none-some _ is)

fields-given : (tree : Tree) (kind : ℕ) → fields_of (program_of tree) kind ≡ (unwrap_or (slice_get (filter_map kind_in tree.decls) kind) no_kind).fields
fields-given tree kind =
    ap (λ (kinds : List Kind). (slice_index_or kinds kind no_kind).fields) (kinds_given tree.decls)
    ∙ ap (λ (k : Kind). k.fields) (sym (unwrap_or-slice_get (filter_map kind_in tree.decls) kind no_kind))

pub fields_of_some : (tree : Tree) (kind : ℕ) (fields : List ℕ) → Some fields ≡ option_map kind_fields (slice_get (filter_map kind_in tree.decls) kind) → fields_of (program_of tree) kind ≡ fields
fields_of_some tree kind fields is = fields-given tree kind ∙ fields-some (slice_get (filter_map kind_in tree.decls) kind) fields is

pub fields_of_none : (tree : Tree) (kind : ℕ) → None ≡ option_map kind_fields (slice_get (filter_map kind_in tree.decls) kind) → fields_of (program_of tree) kind ≡ []
fields_of_none tree kind is = fields-given tree kind ∙ fields-none (slice_get (filter_map kind_in tree.decls) kind) is

-- they are few
pub fields_of_few : (tree : Tree) (kind : ℕ) → IsWithinLimits (program_of tree) → length (fields_of (program_of tree) kind) ≤ 10
fields_of_few tree kind within = HasFewFields-within (program_of tree) within kind

pub fields_few : (tree : Tree) (kind : ℕ) (fields : List At) → IsWithinLimits (program_of tree) → Some (names_of fields) ≡ option_map kind_fields (slice_get (filter_map kind_in tree.decls) kind) → length fields ≤ 10
fields_few tree kind fields within is =
    let few = fields_of_few tree kind within in
    let same = ap length (fields_of_some tree kind (names_of fields) is) in
    let long = length-map fields (λ (at : At). at.name) in
    omega (arith, few, same, long)

-- none of the first k fields has the name
pub record IsBefore (name : ℕ) (fields : List At) (k : ℕ) : Type 0 where
  pub rest : k + position_or_len (is_name name) (names_of (drop k fields)) ≡ position_or_len (is_name name) (names_of fields)

pub IsBefore-start : (name : ℕ) (fields : List At) → IsBefore name fields 0
IsBefore-start name fields = record { rest = omega arith }

pub IsBefore-other : (name : ℕ) (fields : List At) (k : ℕ) (at : At) → IsBefore name fields k → slice_get fields k ≡ Some at → is_name name at.name ≡ false → IsBefore name fields (k + 1)
IsBefore-other name fields k at before is other =
    let rest = ap (λ (ats : List At). k + position_or_len (is_name name) (names_of ats)) (rest_from fields k at is) in
    let step : position_or_len (is_name name) (names_of (at ∷ drop (k + 1) fields)) ≡ position_or_len (is_name name) (names_of (drop (k + 1) fields)) + 1 = rw other (omega arith) in
    record { rest = omega (arith, before.rest, rest, step) }

pub IsBefore-here : (name : ℕ) (fields : List At) (k : ℕ) (at : At) → IsBefore name fields k → slice_get fields k ≡ Some at → is_name name at.name ≡ true → k ≡ position_or_len (is_name name) (names_of fields)
IsBefore-here name fields k at before is here =
    let rest = ap (λ (ats : List At). k + position_or_len (is_name name) (names_of ats)) (rest_from fields k at is) in
    let step : position_or_len (is_name name) (names_of (at ∷ drop (k + 1) fields)) ≡ 0 = rw here refl in
    omega (arith, before.rest, rest, step)

pub IsBefore-all : (name : ℕ) (fields : List At) (k : ℕ) → length fields ≤ k → IsBefore name fields k → k ≡ position_or_len (is_name name) (names_of fields)
IsBefore-all name fields k past before =
    let rest = ap (λ (ats : List At). k + position_or_len (is_name name) (names_of ats)) (drop_of_length-le fields past) in
    omega (arith, before.rest, rest)

-- the number of a field
pub field_number_some : (tree : Tree) (kind name : ℕ) (fields : List At) → Some (names_of fields) ≡ option_map kind_fields (slice_get (filter_map kind_in tree.decls) kind) → field_number (program_of tree) kind name ≡ position_or_len (is_name name) (names_of fields)
field_number_some tree kind name fields is = ap (λ (names : List ℕ). position_or_len (is_name name) names) (fields_of_some tree kind (names_of fields) is)

pub field_number_none : (tree : Tree) (kind name : ℕ) → None ≡ option_map kind_fields (slice_get (filter_map kind_in tree.decls) kind) → field_number (program_of tree) kind name ≡ 0
field_number_none tree kind name is = ap (λ (names : List ℕ). position_or_len (is_name name) names) (fields_of_none tree kind is)

pub field_number_few : (tree : Tree) (kind name : ℕ) (fields : List At) → IsWithinLimits (program_of tree) → Some (names_of fields) ≡ option_map kind_fields (slice_get (filter_map kind_in tree.decls) kind) → position_or_len (is_name name) (names_of fields) ≤ 10
field_number_few tree kind name fields within is =
    let low = position-few (is_name name) (names_of fields) in
    let few = fields_few tree kind fields within is in
    let long = length-map fields (λ (at : At). at.name) in
    omega (arith, low, few, long)

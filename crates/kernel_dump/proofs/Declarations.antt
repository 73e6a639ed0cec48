-- The names of a program's parts are those of its declarations by their sort.
use Rattle.std.proofs.Common.{◌≡◌, ℕ, zero, suc, ◌≤◌, List, [], ◌∷◌, length, refl, ap, sym, ◌∙◌, arith}
use Rattle.std.proofs.lemmas.Option.{none-some, slice_get_within, get_or_from_slice_get}
use Rattle.std.proofs.lemmas.List.Elements.{All-get_or}
use Rattle.std.specs.Prelude.{filter, map, slice_get, slice_index, slice_index_or, Some, None}
use Rattle.thread_tree.specs.declared.name.Name.{Name}
use Rattle.thread_tree.specs.declared.place.At.{At}
use Rattle.thread_tree.specs.declared.tree.Decl.{Decl}
use Rattle.thread_tree.specs.declared.tree.Decl.TheVariants as decl
use Rattle.thread_tree.specs.declared.tree.Tree.{Tree}
use Rattle.thread_tree.specs.Program as program
use Rattle.thread_tree.specs.Program.{Program, sorted, program_of}
use Rattle.thread_tree.specs.Limits.{IsWithinLimits}
use Rattle.kernel_image.specs.Declarations.{name_of as declared_name}
use Rattle.kernel_model.specs.Names.{Kind, kind_of, name_of}
use Rattle.thread_tree.specs.Numbers.{fields_of}
use Rattle.kernel_model.specs.Show.{bytes_of, names_of}
use Rattle.kernel_dump.specs.declared.sort.Sort.{Sort}
use Rattle.kernel_dump.specs.declared.sort.Sort.TheVariants as sort
use Rattle.kernel_dump.specs.Parts.{is_of, list_of, fields_in}

-- what a function gives at a place, and behind the last one
pub map_at : {X Y : Type 0} (f : X → Y) (xs : List X) (n : ℕ) (x : X) (d : Y) → slice_get xs n ≡ Some x → slice_index_or (map f xs) n d ≡ f x
map_at f [] n x d is = absurd (none-some _ is)
map_at f (y ∷ ys) zero x d is = ap f (get_or_from_slice_get (y ∷ ys) zero x x is)
map_at f (y ∷ ys) (suc n) x d is = map_at f ys n x d is

pub map_past : {X Y : Type 0} (f : X → Y) (xs : List X) (n : ℕ) (d : Y) → slice_get xs n ≡ None → slice_index_or (map f xs) n d ≡ d
map_past f [] n d none = refl
map_past f (y ∷ ys) zero d none = absurd (none-some _ (sym none))
map_past f (y ∷ ys) (suc n) d none = map_past f ys n d none

pub past : {X Y : Type 0} (f : X → Y) (xs : List X) (n : ℕ) (d : Y) → length xs ≤ n → slice_index_or (map f xs) n d ≡ d
past f [] n d h = refl
past f (y ∷ ys) zero d h = absurd (omega arith)
past f (y ∷ ys) (suc n) d h = past f ys n d (omega arith)

-- the bytes of a name
pub bytes_of_at : (tree : Tree) (name : ℕ) (n : Name) → slice_get tree.names name ≡ Some n → bytes_of (program_of tree) name ≡ n.bytes.items
bytes_of_at tree name n is = map_at (λ (n : Name). n.bytes.items) tree.names name n [] is

pub bytes_of_past : (tree : Tree) (name : ℕ) → length tree.names ≤ name → bytes_of (program_of tree) name ≡ []
bytes_of_past tree name h = past (λ (n : Name). n.bytes.items) tree.names name [] h

-- templates, queues and semaphores by a function of their names
named_templates : (f : ℕ → List ℕ) (ds : List Decl) → map (λ template. f template.name) (sorted ds).templates ≡ map (λ d. f (declared_name d)) (filter (is_of sort.Template) ds)
named_templates f [] = refl
named_templates f ((decl.Kind name fields) ∷ ds) = named_templates f ds
named_templates f ((decl.Object name kind) ∷ ds) = named_templates f ds
named_templates f ((decl.Queue name capacity channel) ∷ ds) = named_templates f ds
named_templates f ((decl.Semaphore name count maximum) ∷ ds) = named_templates f ds
named_templates f ((decl.Function name parameters body) ∷ ds) = named_templates f ds
named_templates f ((decl.Thread name parameters priority body) ∷ ds) = λ i. f name.name ∷ named_templates f ds i
named_templates f ((decl.Start place name arguments) ∷ ds) = named_templates f ds

named_queues : (f : ℕ → List ℕ) (ds : List Decl) → map (λ queue. f queue.name) (sorted ds).queues ≡ map (λ d. f (declared_name d)) (filter (is_of sort.Queue) ds)
named_queues f [] = refl
named_queues f ((decl.Kind name fields) ∷ ds) = named_queues f ds
named_queues f ((decl.Object name kind) ∷ ds) = named_queues f ds
named_queues f ((decl.Queue name capacity channel) ∷ ds) = λ i. f name.name ∷ named_queues f ds i
named_queues f ((decl.Semaphore name count maximum) ∷ ds) = named_queues f ds
named_queues f ((decl.Function name parameters body) ∷ ds) = named_queues f ds
named_queues f ((decl.Thread name parameters priority body) ∷ ds) = named_queues f ds
named_queues f ((decl.Start place name arguments) ∷ ds) = named_queues f ds

named_semaphores : (f : ℕ → List ℕ) (ds : List Decl) → map (λ semaphore. f semaphore.name) (sorted ds).semaphores ≡ map (λ d. f (declared_name d)) (filter (is_of sort.Semaphore) ds)
named_semaphores f [] = refl
named_semaphores f ((decl.Kind name fields) ∷ ds) = named_semaphores f ds
named_semaphores f ((decl.Object name kind) ∷ ds) = named_semaphores f ds
named_semaphores f ((decl.Queue name capacity channel) ∷ ds) = named_semaphores f ds
named_semaphores f ((decl.Semaphore name count maximum) ∷ ds) = λ i. f name.name ∷ named_semaphores f ds i
named_semaphores f ((decl.Function name parameters body) ∷ ds) = named_semaphores f ds
named_semaphores f ((decl.Thread name parameters priority body) ∷ ds) = named_semaphores f ds
named_semaphores f ((decl.Start place name arguments) ∷ ds) = named_semaphores f ds

-- types
declared_kind : Decl → program.Kind
declared_kind d = record { name = declared_name d; fields = fields_in d }

named_kinds : (ds : List Decl) → (sorted ds).kinds ≡ map declared_kind (filter (is_of sort.Kind) ds)
unfolding declared_kind
named_kinds [] = refl
named_kinds ((decl.Kind name fields) ∷ ds) = λ i. record { name = name.name; fields = program.names_of fields } ∷ named_kinds ds i
named_kinds ((decl.Object name kind) ∷ ds) = named_kinds ds
named_kinds ((decl.Queue name capacity channel) ∷ ds) = named_kinds ds
named_kinds ((decl.Semaphore name count maximum) ∷ ds) = named_kinds ds
named_kinds ((decl.Function name parameters body) ∷ ds) = named_kinds ds
named_kinds ((decl.Thread name parameters priority body) ∷ ds) = named_kinds ds
named_kinds ((decl.Start place name arguments) ∷ ds) = named_kinds ds

-- one function after another
map_twice : {X Y Z : Type 0} (g : Y → Z) (f : X → Y) (xs : List X) → map g (map f xs) ≡ map (λ x. g (f x)) xs
map_twice g f [] = refl
map_twice g f (x ∷ xs) = λ i. g (f x) ∷ map_twice g f xs i

-- the names of a sort
names_are : (tree : Tree) (s : Sort) → list_of s (names_of (program_of tree)) ≡ map (λ d. bytes_of (program_of tree) (declared_name d)) (filter (is_of s) tree.decls)
unfolding declared_kind
names_are tree sort.Template = named_templates (bytes_of (program_of tree)) tree.decls
names_are tree sort.Queue = named_queues (bytes_of (program_of tree)) tree.decls
names_are tree sort.Semaphore = named_semaphores (bytes_of (program_of tree)) tree.decls
names_are tree sort.Kind =
    map_twice (λ (kind : Kind). kind.name) _ (sorted tree.decls).kinds
    ∙ ap (map (λ (kind : program.Kind). bytes_of (program_of tree) kind.name)) (named_kinds tree.decls)
    ∙ map_twice (λ (kind : program.Kind). bytes_of (program_of tree) kind.name) declared_kind (filter (is_of sort.Kind) tree.decls)

pub name_of_found : (tree : Tree) (s : Sort) (n : ℕ) (d : Decl) → slice_get (filter (is_of s) tree.decls) n ≡ Some d → name_of (list_of s (names_of (program_of tree))) n ≡ bytes_of (program_of tree) (declared_name d)
name_of_found tree s n d is =
    ap (λ (names : List (List ℕ)). name_of names n) (names_are tree s) ∙ map_at (λ (d : Decl). bytes_of (program_of tree) (declared_name d)) (filter (is_of s) tree.decls) n d [] is

pub name_of_none : (tree : Tree) (s : Sort) (n : ℕ) → slice_get (filter (is_of s) tree.decls) n ≡ None → name_of (list_of s (names_of (program_of tree))) n ≡ []
name_of_none tree s n none =
    ap (λ (names : List (List ℕ)). name_of names n) (names_are tree s) ∙ map_past (λ (d : Decl). bytes_of (program_of tree) (declared_name d)) (filter (is_of s) tree.decls) n [] none

-- the name of a field
pub field_name_at : (fields : List At) (n : ℕ) (at : At) → slice_get fields n ≡ Some at → slice_index (program.names_of fields) n ≡ at.name
field_name_at fields n at is = map_at (λ (at : At). at.name) fields n at 0 is

pub field_count_is : (fields : List At) → length (program.names_of fields) ≡ length fields
field_count_is [] = refl
field_count_is (at ∷ fields) = ap (λ (n : ℕ). suc n) (field_count_is fields)

-- the type of a number
kind_names : Program → program.Kind → Kind
kind_names p kind = record { name = bytes_of p kind.name; fields = map (bytes_of p) kind.fields }

types_are : (tree : Tree) → (names_of (program_of tree)).types ≡ map (λ d. kind_names (program_of tree) (declared_kind d)) (filter (is_of sort.Kind) tree.decls)
unfolding kind_names
types_are tree = ap (map (kind_names (program_of tree))) (named_kinds tree.decls) ∙ map_twice (kind_names (program_of tree)) declared_kind (filter (is_of sort.Kind) tree.decls)

pub kind_of_found : (tree : Tree) (n : ℕ) (d : Decl) → slice_get (filter (is_of sort.Kind) tree.decls) n ≡ Some d
    → kind_of (names_of (program_of tree)) n ≡ record { name = bytes_of (program_of tree) (declared_name d); fields = map (bytes_of (program_of tree)) (fields_in d) }
unfolding kind_names declared_kind
kind_of_found tree n d is =
    ap (λ (types : List Kind). slice_index_or types n (record { name = []; fields = [] })) (types_are tree)
    ∙ map_at (λ (d : Decl). kind_names (program_of tree) (declared_kind d)) (filter (is_of sort.Kind) tree.decls) n d (record { name = []; fields = [] }) is

pub kind_of_none : (tree : Tree) (n : ℕ) → slice_get (filter (is_of sort.Kind) tree.decls) n ≡ None → kind_of (names_of (program_of tree)) n ≡ record { name = []; fields = [] }
kind_of_none tree n none =
    ap (λ (types : List Kind). slice_index_or types n (record { name = []; fields = [] })) (types_are tree)
    ∙ map_past (λ (d : Decl). kind_names (program_of tree) (declared_kind d)) (filter (is_of sort.Kind) tree.decls) n (record { name = []; fields = [] }) none

declared_at : (tree : Tree) (n : ℕ) (d : Decl) → slice_get (filter (is_of sort.Kind) tree.decls) n ≡ Some d
    → slice_index_or (program_of tree).kinds n (record { name = 0; fields = [] }) ≡ declared_kind d
declared_at tree n d is =
    ap (λ (kinds : List program.Kind). slice_index_or kinds n (record { name = 0; fields = [] })) (named_kinds tree.decls)
    ∙ map_at declared_kind (filter (is_of sort.Kind) tree.decls) n d (record { name = 0; fields = [] }) is

pub fields_of_found : (tree : Tree) (n : ℕ) (d : Decl) → slice_get (filter (is_of sort.Kind) tree.decls) n ≡ Some d → fields_of (program_of tree) n ≡ fields_in d
unfolding declared_kind
fields_of_found tree n d is = ap (λ (kind : program.Kind). kind.fields) (declared_at tree n d is)

-- a type has few fields
length_map : {X Y : Type 0} (f : X → Y) (xs : List X) → length (map f xs) ≡ length xs
length_map f [] = refl
length_map f (x ∷ xs) = ap (λ (n : ℕ). suc n) (length_map f xs)

pub fields_few : (tree : Tree) (n : ℕ) (d : Decl) → slice_get (filter (is_of sort.Kind) tree.decls) n ≡ Some d → IsWithinLimits (program_of tree) → length (fields_in d) ≤ 10
fields_few tree n d is within =
    let all = ap (λ (kinds : List program.Kind). length kinds) (named_kinds tree.decls) ∙ length_map declared_kind (filter (is_of sort.Kind) tree.decls) in
    let low = slice_get_within (filter (is_of sort.Kind) tree.decls) n d is in
    let few = All-get_or (λ (kind : program.Kind). length kind.fields ≤ 10) (program_of tree).kinds n (record { name = 0; fields = [] }) (omega (arith, all, low)) within.fields in
    let same = ap length (fields_of_found tree n d is) in
    omega (arith, few, same)

-- The names of the whole program that are in scope, and what is known of them.
use Rattle.std.specs.Prelude.{ℕ, ◌==◌, Bool, false, if◌then◌else◌, List, length, Option, Some, None, option_map, option_and_then, find}
use Rattle.std.specs.Option.{option_map_or}
use Rattle.std.specs.List.{list_any}
use Rattle.thread_tree.specs.declared.place.At.{At}
use Rattle.thread_tree.specs.declared.tree.Decl.{Decl}
use Rattle.thread_tree.specs.declared.tree.Decl.TheVariants as decl
use Rattle.thread_check.specs.declared.sort.Sort.{Sort}
use Rattle.thread_check.specs.declared.sort.Sort.TheVariants as sort
use Rattle.thread_check.specs.declared.peak.Peak.{Peak}
use Rattle.thread_check.specs.declared.peak.FunctionPeak.{FunctionPeak}
use Rattle.thread_check.specs.Scope.{Scope, is_local}

-- the declarations in scope in order of the text, the peaks of the functions among them from the
-- last to the first, and whether the body is a function's
pub record Names : Type 0 where
  pub declarations : List Decl
  pub functions : List FunctionPeak
  pub in_function : Bool

-- whether a declaration declares this name
unfoldable pub declares : ℕ → Decl → Bool
declares name (decl.Kind at fields) = at.name == name
declares name (decl.Object at kind) = at.name == name
declares name (decl.Queue at capacity channel) = at.name == name
declares name (decl.Semaphore at count maximum) = at.name == name
declares name (decl.Function at parameters body) = at.name == name
declares name (decl.Thread at parameters priority body) = at.name == name
declares name (decl.Start place at numbers) = false

-- the sort of what is declared
unfoldable pub sort_of_declaration : Decl → Sort
sort_of_declaration (decl.Kind at fields) = sort.Kind
sort_of_declaration (decl.Object at kind) = sort.Object
sort_of_declaration (decl.Queue at capacity channel) = sort.Queue
sort_of_declaration (decl.Semaphore at count maximum) = sort.Semaphore
sort_of_declaration (decl.Function at parameters body) = sort.Function
sort_of_declaration (decl.Thread at parameters priority body) = sort.Thread
sort_of_declaration (decl.Start place at numbers) = sort.Start

-- the declaration of a name in scope
abbrev pub declaration_of : Names → ℕ → Option Decl
declaration_of names name = find (declares name) names.declarations

-- the sort of a name in scope
unfoldable pub sort_of : Names → Scope → ℕ → Option Sort
sort_of names scope name =
    if is_local scope.locals name then Some sort.Local else option_map sort_of_declaration (declaration_of names name)

-- how many parameters a function or a thread has
unfoldable pub arity_of_declaration : Decl → ℕ
arity_of_declaration (decl.Kind at fields) = 0
arity_of_declaration (decl.Object at kind) = 0
arity_of_declaration (decl.Queue at capacity channel) = 0
arity_of_declaration (decl.Semaphore at count maximum) = 0
arity_of_declaration (decl.Function at parameters body) = length parameters
arity_of_declaration (decl.Thread at parameters priority body) = length parameters
arity_of_declaration (decl.Start place at numbers) = 0

-- how many parameters the function or thread of a name has
unfoldable pub arity : Names → ℕ → ℕ
arity names name = option_map_or arity_of_declaration (declaration_of names name) 0

-- whether one of these names is this one
abbrev pub is_among : ℕ → List At → Bool
is_among name ats = list_any (λ at. at.name == name) ats

-- whether a declaration is a type with this field
unfoldable pub declares_field : ℕ → Decl → Bool
declares_field field (decl.Kind at fields) = is_among field fields
declares_field field (decl.Object at kind) = false
declares_field field (decl.Queue at capacity channel) = false
declares_field field (decl.Semaphore at count maximum) = false
declares_field field (decl.Function at parameters body) = false
declares_field field (decl.Thread at parameters priority body) = false
declares_field field (decl.Start place at numbers) = false

-- whether the type of a name has this field
unfoldable pub has_field : Names → ℕ → ℕ → Bool
has_field names kind field = option_map_or (declares_field field) (declaration_of names kind) false

-- the name of the type that a static object has
unfoldable pub kind_of_declaration : Decl → Option ℕ
kind_of_declaration (decl.Kind at fields) = None
kind_of_declaration (decl.Object at kind) = Some kind.name
kind_of_declaration (decl.Queue at capacity channel) = None
kind_of_declaration (decl.Semaphore at count maximum) = None
kind_of_declaration (decl.Function at parameters body) = None
kind_of_declaration (decl.Thread at parameters priority body) = None
kind_of_declaration (decl.Start place at numbers) = None

-- whether the static object of a name has this field
unfoldable pub object_has_field : Names → ℕ → ℕ → Bool
object_has_field names object field =
    option_map_or (λ kind. has_field names kind field) (option_and_then kind_of_declaration (declaration_of names object)) false

-- the peak of what declares and calls nothing
abbrev pub no_peak : Peak
no_peak = record { locals = 0; blocks = 0 }

-- the peak of the function of a name
unfoldable pub peak_of : Names → ℕ → Peak
peak_of names name =
    option_map_or (λ function. function.peak) (find (λ function. function.name == name) names.functions) no_peak

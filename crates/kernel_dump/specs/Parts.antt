-- The declarations that a dump names by their numbers.
use Rattle.std.specs.Prelude.{ℕ, ◌*◌, Bool, if◌then◌else◌, List, [], ◌∷◌, ◌++◌, map, flat_map, zip, codes}
use Rattle.std.specs.Fmt.{decimal}
use Rattle.thread_tree.specs.declared.tree.Decl.{Decl}
use Rattle.thread_tree.specs.declared.tree.Decl.TheVariants as decl
use Rattle.thread_tree.specs.Program as program
use Rattle.thread_tree.specs.Program.{Program}
use Rattle.kernel_model.specs.Dump.{object_line}
use Rattle.kernel_model.specs.Names.{Names, name_of}
use Rattle.kernel_image.specs.declared.sort.Sort.{Sort as Declared}
use Rattle.kernel_image.specs.declared.sort.Sort.TheVariants as of
use Rattle.kernel_image.specs.Declarations.{is_of as declares}
use Rattle.kernel_image.specs.Shown.{is_begun, object_at}
use Rattle.kernel_dump.specs.declared.sort.Sort.{Sort}
use Rattle.kernel_dump.specs.declared.sort.Sort.TheVariants as sort

-- the sort of the declarations that give the names of this one
abbrev pub declared : Sort → Declared
declared sort.Kind = of.Kind
declared sort.Queue = of.Queue
declared sort.Semaphore = of.Semaphore
declared sort.Template = of.Thread

-- whether a declaration gives a name of this sort
abbrev pub is_of : Sort → Decl → Bool
is_of s = declares (declared s)

-- the names of this sort by their numbers
abbrev pub list_of : Sort → Names → List (List ℕ)
list_of sort.Kind names = map (λ kind. kind.name) names.types
list_of sort.Queue names = names.queues
list_of sort.Semaphore names = names.semaphores
list_of sort.Template names = names.templates

-- the names of the fields of the type that a declaration declares
abbrev pub fields_in : Decl → List ℕ
fields_in (decl.Kind name fields) = program.names_of fields
fields_in d = []

-- each field with its value
abbrev pub fields_text : List (List ℕ) → List ℕ → List ℕ
fields_text fields values = flat_map (λ (field, value). codes " " ++ field ++ codes "=" ++ decimal value) (zip fields values)

-- the line of an object but for its fields
abbrev pub object_head : Names → ℕ → ℕ → Bool → List ℕ
object_head names place kind is_static =
    codes "object " ++ decimal place ++ codes " " ++ name_of (list_of sort.Kind names) kind ++ (if is_static then codes " static" else codes " made")

-- the line of the object that begins at the place of this even number, if one does
abbrev pub lines_at : Names → Program → List ℕ → List ℕ → ℕ → List (List ℕ)
lines_at names p heap live half = if is_begun live (2 * half) then object_line names (object_at p heap (2 * half)) ∷ [] else []

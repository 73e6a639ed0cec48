-- What a program declares, by its names.
use Rattle.std.specs.Prelude.{ℕ, ◌==◌, Bool, true, List, [], filter_map, Option, Some, None}
use Rattle.thread_tree.specs.declared.tree.Decl.{Decl}
use Rattle.thread_tree.specs.declared.tree.Decl.TheVariants as decl
use Rattle.thread_tree.specs.Program.{Kind}
use Rattle.kernel_model.specs.Visible.{Object}
use Rattle.persistent_objects.specs.declared.what.What.{What}
use Rattle.persistent_objects.specs.declared.what.What.TheVariants.{Kinds, Objects, ObjectKinds}

-- the name of the type that a declaration declares
abbrev pub kind_name : Decl → Option ℕ
kind_name (decl.Kind name fields) = Some name.name
kind_name (decl.Object name kind) = None
kind_name (decl.Queue name capacity channel) = None
kind_name (decl.Semaphore name count maximum) = None
kind_name (decl.Function name parameters body) = None
kind_name (decl.Thread name parameters priority body) = None
kind_name (decl.Start place name arguments) = None

-- the name of the object that a declaration declares
abbrev pub object_name : Decl → Option ℕ
object_name (decl.Kind name fields) = None
object_name (decl.Object name kind) = Some name.name
object_name (decl.Queue name capacity channel) = None
object_name (decl.Semaphore name count maximum) = None
object_name (decl.Function name parameters body) = None
object_name (decl.Thread name parameters priority body) = None
object_name (decl.Start place name arguments) = None

-- the name of the type of that object
abbrev pub object_kind_name : Decl → Option ℕ
object_kind_name (decl.Kind name fields) = None
object_kind_name (decl.Object name kind) = Some kind.name
object_kind_name (decl.Queue name capacity channel) = None
object_kind_name (decl.Semaphore name count maximum) = None
object_kind_name (decl.Function name parameters body) = None
object_kind_name (decl.Thread name parameters priority body) = None
object_kind_name (decl.Start place name arguments) = None

-- a name of this sort in a declaration
abbrev pub name_in : What → Decl → Option ℕ
name_in Kinds d = kind_name d
name_in Objects d = object_name d
name_in ObjectKinds d = object_kind_name d

-- the names of a sort in declarations
abbrev pub names_in : What → List Decl → List ℕ
names_in what decls = filter_map (name_in what) decls

-- whether a name is this one
abbrev pub is_name : ℕ → ℕ → Bool
is_name name other = other == name

-- what stands for a static object that isn't declared
abbrev pub no_object : Object
no_object = record { place = 0; kind = 0; is_static = true; values = [] }

-- the names of a type's fields
abbrev pub kind_fields : Kind → List ℕ
kind_fields kind = kind.fields

-- The declarations of a program by their sort.
use Rattle.std.specs.Prelude.{ℕ, ◌==◌, Bool, true, false, length, slice_index, Option, Some, None, option_map}
use Rattle.thread_tree.specs.declared.tree.Decl.{Decl}
use Rattle.thread_tree.specs.declared.tree.Decl.TheVariants as decl
use Rattle.thread_tree.specs.Program.{Kind, Object, Queue, Semaphore, Template, Start, names_of, values_of}
use Rattle.kernel_image.specs.declared.sort.Sort.{Sort}
use Rattle.kernel_image.specs.declared.sort.Sort.TheVariants as sort

-- whether a declaration declares this
abbrev pub is_of : Sort → Decl → Bool
is_of sort.Kind (decl.Kind name fields) = true
is_of sort.Object (decl.Object name kind) = true
is_of sort.Queue (decl.Queue name capacity channel) = true
is_of sort.Semaphore (decl.Semaphore name count maximum) = true
is_of sort.Thread (decl.Thread name parameters priority body) = true
is_of sort.Start (decl.Start place name arguments) = true
is_of sort d = false

-- the name that a declaration declares; of a start that of its template
abbrev pub name_of : Decl → ℕ
name_of (decl.Kind name fields) = name.name
name_of (decl.Object name kind) = name.name
name_of (decl.Queue name capacity channel) = name.name
name_of (decl.Semaphore name count maximum) = name.name
name_of (decl.Function name parameters body) = name.name
name_of (decl.Thread name parameters priority body) = name.name
name_of (decl.Start place name arguments) = name.name

-- whether a declaration has this name
abbrev pub has_name : ℕ → Decl → Bool
has_name name d = name_of d == name

-- the type that a declaration declares
abbrev pub kind_in : Decl → Option Kind
kind_in (decl.Kind name fields) = Some (record { name = name.name; fields = names_of fields })
kind_in d = None

-- the object that a declaration declares
abbrev pub object_in : Decl → Option Object
object_in (decl.Object name kind) = Some (record { name = name.name; kind = kind.name })
object_in d = None

-- the queue that a declaration declares
abbrev pub queue_in : Decl → Option Queue
queue_in (decl.Queue name capacity channel) = Some (record { name = name.name; capacity = capacity.value; channel = option_map (λ number. number.value) channel })
queue_in d = None

-- the semaphore that a declaration declares
abbrev pub semaphore_in : Decl → Option Semaphore
semaphore_in (decl.Semaphore name count maximum) = Some (record { name = name.name; count = count.value; maximum = maximum.value })
semaphore_in d = None

-- the template that a declaration declares
abbrev pub template_in : Decl → Option Template
template_in (decl.Thread name parameters priority body) = Some (record { name = name.name; parameters = names_of parameters; priority = priority.value; body = body })
template_in d = None

-- the start that a declaration declares
abbrev pub start_in : Decl → Option Start
start_in (decl.Start place name arguments) = Some (record { template = name.name; arguments = values_of arguments })
start_in d = None

-- the capacity of a queue that is declared
abbrev pub capacity_in : Decl → ℕ
capacity_in d = elim (queue_in d) [ None ↦ 0 | Some queue ↦ queue.capacity ]

-- the count at the start of a semaphore that is declared
abbrev pub count_in : Decl → ℕ
count_in d = elim (semaphore_in d) [ None ↦ 0 | Some semaphore ↦ semaphore.count ]

-- the priority of a template that is declared
abbrev pub priority_in : Decl → ℕ
priority_in d = elim (template_in d) [ None ↦ 0 | Some template ↦ template.priority ]

-- how many fields a type that is declared has
abbrev pub field_count_in : Decl → ℕ
field_count_in d = elim (kind_in d) [ None ↦ 0 | Some kind ↦ length kind.fields ]

-- the name of the type of the object that a declaration declares
abbrev pub kind_name_in : Decl → Option ℕ
kind_name_in (decl.Object name kind) = Some kind.name
kind_name_in d = None

-- the name of the template of the thread that a declaration starts
abbrev pub started_in : Decl → Option ℕ
started_in d = option_map (λ start. start.template) (start_in d)

-- how many arguments the thread has that a declaration starts
abbrev pub argument_count_in : Decl → ℕ
argument_count_in d = elim (start_in d) [ None ↦ 0 | Some start ↦ length start.arguments ]

-- an argument of the thread that a declaration starts
abbrev pub argument_in : Decl → ℕ → ℕ
argument_in d i = elim (start_in d) [ None ↦ 0 | Some start ↦ slice_index start.arguments i ]

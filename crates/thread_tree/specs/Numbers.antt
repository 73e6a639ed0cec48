-- The numbers of what a program declares, found by name.
use Rattle.std.specs.Prelude.{ℕ, ◌==◌, List, [], slice_index_or}
use Rattle.std.specs.List.{position_or_len}
use Rattle.thread_tree.specs.Program.{Program}

-- the number of the first thing of that name; where none has it, how many things there are
abbrev pub number_of : {X : Type 0} → (X → ℕ) → List X → ℕ → ℕ
number_of name_of things name = position_or_len (λ x. name_of x == name) things

abbrev pub template_number : Program → ℕ → ℕ
template_number p name = number_of (λ template. template.name) p.templates name

abbrev pub queue_number : Program → ℕ → ℕ
queue_number p name = number_of (λ queue. queue.name) p.queues name

abbrev pub semaphore_number : Program → ℕ → ℕ
semaphore_number p name = number_of (λ semaphore. semaphore.name) p.semaphores name

abbrev pub kind_number : Program → ℕ → ℕ
kind_number p name = number_of (λ kind. kind.name) p.kinds name

abbrev pub object_number : Program → ℕ → ℕ
object_number p name = number_of (λ object. object.name) p.objects name

-- the fields of the object type of a number
abbrev pub fields_of : Program → ℕ → List ℕ
fields_of p kind = (slice_index_or p.kinds kind (record { name = 0; fields = [] })).fields

-- the number of a field of an object type
abbrev pub field_number : Program → ℕ → ℕ → ℕ
field_number p kind name = number_of (λ field. field) (fields_of p kind) name

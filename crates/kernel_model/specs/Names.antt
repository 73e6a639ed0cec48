-- The names that a program gives to its parts, by their numbers in order of the text.
use Rattle.std.specs.Prelude.{ℕ, List, [], slice_index_or}

-- an object type: its name and those of its fields
pub record Kind : Type 0 where
  pub name : List ℕ
  pub fields : List (List ℕ)

-- the names of thread templates, queues and semaphores, and the object types
pub record Names : Type 0 where
  pub templates : List (List ℕ)
  pub queues : List (List ℕ)
  pub semaphores : List (List ℕ)
  pub types : List Kind

-- the names of a program that declares nothing
abbrev pub no_names : Names
no_names = record { templates = []; queues = []; semaphores = []; types = [] }

-- the name at a number, and no bytes where nothing has the number
abbrev pub name_of : List (List ℕ) → ℕ → List ℕ
name_of names number = slice_index_or names number []

-- the object type of a number
abbrev pub kind_of : Names → ℕ → Kind
kind_of names number = slice_index_or names.types number (record { name = []; fields = [] })

-- A tree's declarations, sorted by what they declare. Each is numbered from 0 in order of the text.
use Rattle.std.specs.Prelude.{ℕ, ◌==◌, List, [], ◌∷◌, map, Option, option_map, find}
use Rattle.thread_tree.specs.declared.place.At.{At}
use Rattle.thread_tree.specs.declared.place.Num.{Num}
use Rattle.thread_tree.specs.declared.block.Block.{Block}
use Rattle.thread_tree.specs.declared.tree.Decl.{Decl}
use Rattle.thread_tree.specs.declared.tree.Decl.TheVariants as decl
use Rattle.thread_tree.specs.declared.tree.Tree.{Tree}

-- an object type: its name and those of its fields
pub record Kind : Type 0 where
  pub name : ℕ
  pub fields : List ℕ

-- a static object: its name and that of its type
pub record Object : Type 0 where
  pub name : ℕ
  pub kind : ℕ

-- a queue: its name, how many items it holds at most, and its input channel
pub record Queue : Type 0 where
  pub name : ℕ
  pub capacity : ℕ
  pub channel : Option ℕ

-- a semaphore: its name, its count at the start, and its greatest count
pub record Semaphore : Type 0 where
  pub name : ℕ
  pub count : ℕ
  pub maximum : ℕ

-- a function: its name, those of its parameters, and its body
pub record Function : Type 0 where
  pub name : ℕ
  pub parameters : List ℕ
  pub body : Block

-- a thread template: its name, those of its parameters, its priority and its body
pub record Template : Type 0 where
  pub name : ℕ
  pub parameters : List ℕ
  pub priority : ℕ
  pub body : Block

-- a thread that runs from the start: the name of its template, and its arguments
pub record Start : Type 0 where
  pub template : ℕ
  pub arguments : List ℕ

-- the body of a function or a thread, and the names of its parameters
pub record Body : Type 0 where
  pub parameters : List ℕ
  pub block : Block

-- all that a program declares, and the bodies in order of the text; names are indexes into the bytes of `names`
pub record Program : Type 0 where
  pub names : List (List ℕ)
  pub kinds : List Kind
  pub objects : List Object
  pub queues : List Queue
  pub semaphores : List Semaphore
  pub functions : List Function
  pub templates : List Template
  pub starts : List Start
  pub bodies : List Body

-- a program that declares nothing
abbrev pub no_program : Program
no_program = record {
  names = [];
  kinds = [];
  objects = [];
  queues = [];
  semaphores = [];
  functions = [];
  templates = [];
  starts = [];
  bodies = [];
}

-- the names of names where they stand
abbrev pub names_of : List At → List ℕ
names_of ats = map (λ at. at.name) ats

-- the values of numbers where they stand
abbrev pub values_of : List Num → List ℕ
values_of numbers = map (λ number. number.value) numbers

-- a declaration in front of others
abbrev pub declared : Decl → Program → Program
declared (decl.Kind name fields) p = record p { kinds = record { name = name.name; fields = names_of fields } ∷ p.kinds }
declared (decl.Object name kind) p = record p { objects = record { name = name.name; kind = kind.name } ∷ p.objects }
declared (decl.Queue name capacity channel) p = record p {
  queues = record { name = name.name; capacity = capacity.value; channel = option_map (λ number. number.value) channel } ∷ p.queues;
}
declared (decl.Semaphore name count maximum) p = record p {
  semaphores = record { name = name.name; count = count.value; maximum = maximum.value } ∷ p.semaphores;
}
declared (decl.Function name parameters body) p = record p {
  functions = record { name = name.name; parameters = names_of parameters; body = body } ∷ p.functions;
  bodies = record { parameters = names_of parameters; block = body } ∷ p.bodies;
}
declared (decl.Thread name parameters priority body) p = record p {
  templates = record { name = name.name; parameters = names_of parameters; priority = priority.value; body = body } ∷ p.templates;
  bodies = record { parameters = names_of parameters; block = body } ∷ p.bodies;
}
declared (decl.Start place name arguments) p = record p {
  starts = record { template = name.name; arguments = values_of arguments } ∷ p.starts;
}

-- declarations, sorted
abbrev pub sorted : List Decl → Program
sorted [] = no_program
sorted (d ∷ ds) = declared d (sorted ds)

-- the program of a tree
abbrev pub program_of : Tree → Program
program_of tree = record (sorted tree.decls) { names = map (λ name. name.bytes.items) tree.names }

-- the function of a name
abbrev pub function_of : Program → ℕ → Option Function
function_of p name = find (λ function. function.name == name) p.functions

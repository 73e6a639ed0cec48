-- What the declarations of a served program declare.
use Rattle.std.proofs.Common.{◌≡◌, ◌≤◌, false, ◌&&◌, ◌==◌, List, [], ◌∷◌, length, All, refl, arith, eqb-true}
use Rattle.std.specs.Prelude.{IsTrue, nat_le}
use Rattle.std.specs.List.{AllByRecursion, list_all}
use Rattle.std.proofs.lemmas.Bool.{and_parts, leb-true, false≢true}
use Rattle.std.proofs.lemmas.List.{length-map}
use Rattle.std.proofs.lemmas.List.Elements.{All-from_recursion}
use Rattle.thread_tree.specs.declared.place.At.{At}
use Rattle.thread_tree.specs.declared.tree.Decl.{Decl}
use Rattle.thread_tree.specs.declared.tree.Decl.TheVariants as decl
use Rattle.thread_tree.specs.declared.tree.Tree.{Tree}
use Rattle.thread_tree.specs.Program.{Kind, Template, Program, names_of, sorted, program_of}
use Rattle.served_program.specs.Served.{is_served_block, is_served_decl, is_served}

-- no parameter
none_of : (ats : List At) → IsTrue (length ats == 0) → names_of ats ≡ []
none_of [] h = refl
none_of (at ∷ ats) h = absurd (let e : length (at ∷ ats) ≡ 0 = eqb-true (length (at ∷ ats)) 0 h in omega arith)

-- a type of at most one field
abbrev pub IsSmallKind : Kind → Type 0
IsSmallKind kind = length kind.fields ≤ 1

-- a thread without parameters
abbrev HasNoParameters : Template → Type 0
HasNoParameters template = template.parameters ≡ []

-- what a served program declares
record Declares (p : Program) : Type 0 where
  pub queues : p.queues ≡ []
  pub semaphores : p.semaphores ≡ []
  pub kinds : AllByRecursion IsSmallKind p.kinds
  pub templates : AllByRecursion HasNoParameters p.templates

-- one declaration after another
sorted_declares : (ds : List Decl) → IsTrue (list_all is_served_decl ds) → Declares (sorted ds)
sorted_declares [] h = record { queues = refl; semaphores = refl; kinds = tt; templates = tt }
sorted_declares (decl.Kind name fields ∷ ds) h =
    let both = and_parts (nat_le (length fields) 1) (list_all is_served_decl ds) h in
    let rest = sorted_declares ds both.1 in
    let few : length fields ≤ 1 = leb-true (length fields) 1 both.0 in
    let same : length (names_of fields) ≡ length fields = length-map fields (λ (at : At). at.name) in
    record { queues = rest.queues; semaphores = rest.semaphores; kinds = (omega arith, rest.kinds); templates = rest.templates }
sorted_declares (decl.Queue name capacity channel ∷ ds) h = absurd (false≢true (and_parts false (list_all is_served_decl ds) h).0)
sorted_declares (decl.Semaphore name count maximum ∷ ds) h = absurd (false≢true (and_parts false (list_all is_served_decl ds) h).0)
sorted_declares (decl.Thread name parameters priority body ∷ ds) h =
    let both = and_parts (length parameters == 0 && is_served_block body) (list_all is_served_decl ds) h in
    let own = and_parts (length parameters == 0) (is_served_block body) both.0 in
    let rest = sorted_declares ds both.1 in
    record { queues = rest.queues; semaphores = rest.semaphores; kinds = rest.kinds; templates = (none_of parameters own.0, rest.templates) }
sorted_declares (d ∷ ds) h =
    let rest = sorted_declares ds (and_parts (is_served_decl d) (list_all is_served_decl ds) h).1 in
    record { queues = rest.queues; semaphores = rest.semaphores; kinds = rest.kinds; templates = rest.templates }

-- the parts of the definition
pub served_parts : (tree : Tree) → IsTrue (is_served tree) → IsTrue (list_all is_served_decl tree.decls) × IsTrue (nat_le (length (program_of tree).starts) 1)
unfolding is_served
served_parts tree h = and_parts (list_all is_served_decl tree.decls) (nat_le (length (program_of tree).starts) 1) h

-- what a served program declares
served_declares : (tree : Tree) → IsTrue (is_served tree) → Declares (program_of tree)
served_declares tree h =
    let rest = sorted_declares tree.decls (served_parts tree h).0 in
    record { queues = rest.queues; semaphores = rest.semaphores; kinds = rest.kinds; templates = rest.templates }

-- at most one thread is started
pub served_one_start : (tree : Tree) → IsTrue (is_served tree) → length (program_of tree).starts ≤ 1
served_one_start tree h = leb-true (length (program_of tree).starts) 1 (served_parts tree h).1

pub served_no_queues : (tree : Tree) → IsTrue (is_served tree) → (program_of tree).queues ≡ []
served_no_queues tree h = (served_declares tree h).queues

pub served_no_semaphores : (tree : Tree) → IsTrue (is_served tree) → (program_of tree).semaphores ≡ []
served_no_semaphores tree h = (served_declares tree h).semaphores

pub served_one_field : (tree : Tree) → IsTrue (is_served tree) → All (λ kind. length kind.fields ≤ 1) (program_of tree).kinds
served_one_field tree h = All-from_recursion IsSmallKind (program_of tree).kinds (served_declares tree h).kinds

pub served_no_parameters : (tree : Tree) → IsTrue (is_served tree) → All (λ template. template.parameters ≡ []) (program_of tree).templates
served_no_parameters tree h = All-from_recursion HasNoParameters (program_of tree).templates (served_declares tree h).templates

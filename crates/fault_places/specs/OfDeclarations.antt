-- The faults of declarations, and of a whole program.
use Rattle.std.specs.Prelude.{ℕ, ◌+◌, true, if◌then◌else◌, List, [], ◌∷◌, ◌++◌, length, Option, Some, None, Err}
use Rattle.thread_tree.specs.declared.place.At.{At}
use Rattle.thread_tree.specs.declared.place.Num.{Num}
use Rattle.thread_tree.specs.declared.block.Block.{Block}
use Rattle.thread_tree.specs.declared.tree.Decl.{Decl}
use Rattle.thread_tree.specs.declared.tree.Decl.TheVariants as decl
use Rattle.thread_tree.specs.declared.tree.Tree.{Tree}
use Rattle.thread_check.specs.declared.fault.Kind.{Kind}
use Rattle.thread_check.specs.declared.fault.Kind.TheVariants as kind
use Rattle.thread_check.specs.declared.fault.CheckFault.{CheckFault}
use Rattle.thread_check.specs.declared.fault.CheckFault.TheVariants.{TwiceNamed}
use Rattle.thread_check.specs.Verdict.{fine, same_count, in_range, within_limit}
use Rattle.thread_check.specs.Scope.{Scope, no_scope, with_local}
use Rattle.thread_check.specs.Names.{Names, sort_of_declaration, arity}
use Rattle.thread_check.specs.Uses.{fresh}
use Rattle.thread_check.specs.Calls.{once}
use Rattle.thread_check.specs.Declarations.{count_of, with_declaration, is_taken, after_declaration}
use Rattle.thread_check.specs.Faults.{no_names}
use Rattle.fault_places.specs.Sorts.{used_as_kind, used_as_thread}
use Rattle.fault_places.specs.Found.{Found, leaves, found_by, ◌+>◌, ◌+>=◌}
use Rattle.fault_places.specs.OfBlocks.{Walk}
use Rattle.fault_places.specs.OfStatements.{block_walk}
use Rattle.thread_tree.specs.declared.limits.TheConstants.{TARGETS, ROWS, DECLARED, ITEMS}

-- the faults of the name of a declaration, of whose sort there may be so many
abbrev pub declared_faults : Names → Decl → Kind → ℕ → At → List CheckFault
declared_faults names d counted limit at =
    found_by (fresh names (no_scope 0) at)
    ++ found_by (within_limit at.place counted limit (count_of (sort_of_declaration d) names.declarations + 1))

-- the faults of a field behind these
abbrev pub field_declared_faults : List At → At → List CheckFault
field_declared_faults before at = found_by (once before at) ++ found_by (within_limit at.place kind.Fields 10 (length before + 1))

-- the faults of the fields of a type behind these
abbrev pub fields_faults : List At → List At → List CheckFault
fields_faults before [] = []
fields_faults before (at ∷ ats) = field_declared_faults before at ++ fields_faults (before ++ at ∷ []) ats

-- the faults of the input channel of a queue
unfoldable pub channel_faults : Names → Option Num → List CheckFault
channel_faults names None = []
channel_faults names (Some number) =
    found_by (if is_taken number.value names.declarations then Err (TwiceNamed number.place) else fine)
    ++ found_by (in_range number 0 15)

-- the faults of a parameter
abbrev pub parameter_faults : Names → Scope → At → List CheckFault
parameter_faults names scope at =
    found_by (fresh names scope at) ++ found_by (within_limit at.place kind.Parameters 8 (length scope.locals + 1))

-- the faults of parameters
abbrev pub parameters_walk : Names → List At → Walk
parameters_walk names [] scope = leaves scope
parameters_walk names (at ∷ ats) scope = parameter_faults names scope at +> parameters_walk names ats (with_local at.name scope)

-- the faults of the parameters, the priority and the body of a thread
abbrev pub thread_body_walk : Names → List At → Num → Block → Walk
thread_body_walk names parameters priority body scope =
    parameters_walk names parameters scope +>= λ start. found_by (in_range priority 0 7) +> block_walk names body start

-- the faults of a declaration behind so many persistent loops
unfoldable pub declaration_walk : Names → ℕ → Decl → Found Scope
declaration_walk names loops (decl.Kind name fields) =
    declared_faults names (decl.Kind name fields) kind.Types 32 name +> fields_faults [] fields +> leaves (no_scope loops)
declaration_walk names loops (decl.Object name type_name) =
    declared_faults names (decl.Object name type_name) kind.Objects DECLARED name
    +> found_by (used_as_kind (with_declaration (decl.Object name type_name) names) (no_scope loops) type_name)
    +> leaves (no_scope loops)
declaration_walk names loops (decl.Queue name capacity channel) =
    declared_faults names (decl.Queue name capacity channel) kind.Queues TARGETS name
    +> found_by (in_range capacity 1 ITEMS)
    +> channel_faults names channel
    +> leaves (no_scope loops)
declaration_walk names loops (decl.Semaphore name count maximum) =
    declared_faults names (decl.Semaphore name count maximum) kind.Semaphores TARGETS name
    +> found_by (in_range count 0 maximum.value)
    +> found_by (in_range maximum 1 65535)
    +> leaves (no_scope loops)
declaration_walk names loops (decl.Function name parameters body) =
    declared_faults names (decl.Function name parameters body) kind.Functions DECLARED name
    +> (parameters_walk (with_declaration (decl.Function name parameters body) names) parameters (no_scope loops)
    +>= λ scope. block_walk (record names { in_function = true }) body scope)
declaration_walk names loops (decl.Thread name parameters priority body) =
    declared_faults names (decl.Thread name parameters priority body) kind.Threads 32 name
    +> thread_body_walk (with_declaration (decl.Thread name parameters priority body) names) parameters priority body (no_scope loops)
declaration_walk names loops (decl.Start place name numbers) =
    found_by (within_limit place kind.Starts ROWS (count_of (sort_of_declaration (decl.Start place name numbers)) names.declarations + 1))
    +> (found_by (used_as_thread names (no_scope loops) name) ++ found_by (same_count name.place (arity names name.name) (length numbers)))
    +> leaves (no_scope loops)

-- the faults of declarations one after another, behind so many persistent loops
abbrev pub declarations_walk : Names → ℕ → List Decl → Found ℕ
declarations_walk names loops [] = leaves loops
declarations_walk names loops (d ∷ ds) =
    declaration_walk names loops d +>= λ scope. declarations_walk (after_declaration d scope names) scope.loops ds

-- All the faults of a program in order of the text: each rule is asked, also behind faults, as if what is declared or
-- called in a faulty way were declared or called well.
unfoldable pub faults_of : Tree → List CheckFault
faults_of tree = (declarations_walk no_names 0 tree.decls).faults

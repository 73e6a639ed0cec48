-- The rules for declarations.
use Rattle.std.specs.Prelude.{ℕ, ◌+◌, ◌≤◌, ◌==◌, Bool, false, true, if◌then◌else◌, List, [], ◌∷◌, ◌++◌, length, count_by, Option, Some, None, Ok, Err}
use Rattle.std.specs.List.{list_any}
use Rattle.thread_tree.specs.declared.place.At.{At}
use Rattle.thread_tree.specs.declared.place.Num.{Num}
use Rattle.thread_tree.specs.declared.block.Block.{Block}
use Rattle.thread_tree.specs.declared.tree.Decl.{Decl}
use Rattle.thread_tree.specs.declared.tree.Decl.TheVariants as decl
use Rattle.thread_check.specs.declared.fault.Kind.{Kind}
use Rattle.thread_check.specs.declared.fault.Kind.TheVariants as kind
use Rattle.thread_check.specs.declared.fault.CheckFault.TheVariants.{TwiceNamed}
use Rattle.thread_check.specs.declared.sort.Sort.{Sort}
use Rattle.thread_check.specs.declared.sort.Sort.TheVariants as sort
use Rattle.thread_check.specs.declared.peak.Peak.{Peak}
use Rattle.thread_check.specs.declared.peak.FunctionPeak.{FunctionPeak}
use Rattle.thread_check.specs.Verdict.{Verdict, Answer, fine, ◌>>=◌, ◌>>◌, same_count, in_range, within_limit}
use Rattle.thread_check.specs.Scope.{Scope, no_scope, with_local}
use Rattle.thread_check.specs.Names.{Names, sort_of_declaration, arity}
use Rattle.thread_check.specs.Uses.{same_sort, used, fresh}
use Rattle.thread_check.specs.Calls.{once}
use Rattle.thread_check.specs.Blocks.{Rule}
use Rattle.thread_check.specs.Statements.{block_rule}
use Rattle.thread_tree.specs.declared.limits.TheConstants.{TARGETS, ROWS, DECLARED, ITEMS}

-- whether a declaration is of this sort
abbrev pub is_of_sort : Sort → Decl → Bool
is_of_sort wanted d = same_sort (sort_of_declaration d) wanted

-- how many of these declarations are of this sort
unfoldable pub count_of : Sort → List Decl → ℕ
count_of wanted declarations = count_by (is_of_sort wanted) declarations

-- the names with one declaration more
abbrev pub with_declaration : Decl → Names → Names
with_declaration d names = record names { declarations = names.declarations ++ d ∷ [] }

-- a name that is declared for the whole program: it isn't in scope, and its thing not one too many
unfoldable pub declared : Names → Sort → Kind → ℕ → At → Verdict
declared names wanted counted limit at =
    fresh names (no_scope 0) at >> within_limit at.place counted limit (count_of wanted names.declarations + 1)

-- a field behind these: it doesn't stand twice, and isn't one too many
unfoldable pub field_declared : List At → At → Verdict
field_declared before at = once before at >> within_limit at.place kind.Fields 10 (length before + 1)

-- the fields of a type behind these
abbrev pub fields_rule : List At → List At → Verdict
fields_rule before [] = fine
fields_rule before (at ∷ ats) = field_declared before at >> fields_rule (before ++ at ∷ []) ats

-- whether a declaration is a queue with this input channel
unfoldable pub takes_channel : ℕ → Decl → Bool
takes_channel channel (decl.Kind at fields) = false
takes_channel channel (decl.Object at kind) = false
takes_channel channel (decl.Queue at capacity None) = false
takes_channel channel (decl.Queue at capacity (Some number)) = number.value == channel
takes_channel channel (decl.Semaphore at count maximum) = false
takes_channel channel (decl.Function at parameters body) = false
takes_channel channel (decl.Thread at parameters priority body) = false
takes_channel channel (decl.Start place at numbers) = false

-- whether one of these declarations takes this input channel
abbrev pub is_taken : ℕ → List Decl → Bool
is_taken channel declarations = list_any (takes_channel channel) declarations

-- the input channel of a queue, if it has one: it isn't taken, and at most 15
unfoldable pub channel_rule : Names → Option Num → Verdict
channel_rule names None = fine
channel_rule names (Some number) =
    (if is_taken number.value names.declarations then Err (TwiceNamed number.place) else fine)
    >> in_range number 0 15

-- a parameter: its name isn't in scope, and it isn't one too many
unfoldable pub parameter_declared : Names → Scope → At → Verdict
parameter_declared names scope at =
    fresh names scope at >> within_limit at.place kind.Parameters 8 (length scope.locals + 1)

-- parameters, which are the first locals of a body
abbrev pub parameters_rule : Names → List At → Rule
parameters_rule names [] scope = Ok scope
parameters_rule names (at ∷ ats) scope =
    parameter_declared names scope at >> parameters_rule names ats (with_local at.name scope)

-- the parameters, the priority and the body of a thread
abbrev pub thread_body_rule : Names → List At → Num → Block → Rule
thread_body_rule names parameters priority body scope =
    parameters_rule names parameters scope >>= λ start. in_range priority 0 7 >> block_rule names body start

-- a declaration behind so many persistent loops; what it leaves is the scope at the end of its body
unfoldable pub declaration_rule : Names → ℕ → Decl → Answer Scope
declaration_rule names loops (decl.Kind name fields) =
    declared names sort.Kind kind.Types 32 name >> fields_rule [] fields >> Ok (no_scope loops)
declaration_rule names loops (decl.Object name type_name) =
    declared names sort.Object kind.Objects DECLARED name
    >> used (with_declaration (decl.Object name type_name) names) (no_scope loops) sort.Kind type_name
    >> Ok (no_scope loops)
declaration_rule names loops (decl.Queue name capacity channel) =
    declared names sort.Queue kind.Queues TARGETS name
    >> in_range capacity 1 ITEMS
    >> channel_rule names channel
    >> Ok (no_scope loops)
declaration_rule names loops (decl.Semaphore name count maximum) =
    declared names sort.Semaphore kind.Semaphores TARGETS name
    >> in_range count 0 maximum.value
    >> in_range maximum 1 65535
    >> Ok (no_scope loops)
declaration_rule names loops (decl.Function name parameters body) =
    declared names sort.Function kind.Functions DECLARED name
    >> (parameters_rule (with_declaration (decl.Function name parameters body) names) parameters (no_scope loops)
    >>= λ scope. block_rule (record names { in_function = true }) body scope)
declaration_rule names loops (decl.Thread name parameters priority body) =
    declared names sort.Thread kind.Threads 32 name
    >> thread_body_rule (with_declaration (decl.Thread name parameters priority body) names) parameters priority body (no_scope loops)
declaration_rule names loops (decl.Start place name numbers) =
    within_limit place kind.Starts ROWS (count_of sort.Start names.declarations + 1)
    >> used names (no_scope loops) sort.Thread name
    >> same_count name.place (arity names name.name) (length numbers)
    >> Ok (no_scope loops)

-- the peaks of functions after a declaration whose body had this peak
unfoldable pub with_function : Decl → Peak → List FunctionPeak → List FunctionPeak
with_function (decl.Kind at fields) peak functions = functions
with_function (decl.Object at kind) peak functions = functions
with_function (decl.Queue at capacity channel) peak functions = functions
with_function (decl.Semaphore at count maximum) peak functions = functions
with_function (decl.Function at parameters body) peak functions = record { name = at.name; peak = peak } ∷ functions
with_function (decl.Thread at parameters priority body) peak functions = functions
with_function (decl.Start place at numbers) peak functions = functions

-- the names after a declaration that left this scope
abbrev pub after_declaration : Decl → Scope → Names → Names
after_declaration d scope names = record {
  declarations = names.declarations ++ d ∷ [];
  functions = with_function d scope.peak names.functions;
  in_function = false;
}

-- declarations one after another, behind so many persistent loops; what they leave is the number of loops
abbrev pub declarations_rule : Names → ℕ → List Decl → Answer ℕ
declarations_rule names loops [] = Ok loops
declarations_rule names loops (d ∷ ds) =
    declaration_rule names loops d >>= λ scope. declarations_rule (after_declaration d scope names) scope.loops ds

-- of no sort there are more declarations than its limit
pub record IsFew (declarations : List Decl) : Type 0 where
  pub types : count_of sort.Kind declarations ≤ 32
  pub objects : count_of sort.Object declarations ≤ DECLARED
  pub queues : count_of sort.Queue declarations ≤ TARGETS
  pub semaphores : count_of sort.Semaphore declarations ≤ TARGETS
  pub functions : count_of sort.Function declarations ≤ DECLARED
  pub threads : count_of sort.Thread declarations ≤ 32
  pub starts : count_of sort.Start declarations ≤ ROWS

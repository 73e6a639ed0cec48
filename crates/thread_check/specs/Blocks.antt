-- The rules that statements of both sorts share: words, new locals and blocks.
use Rattle.std.specs.Prelude.{Bool, if◌then◌else◌, List, [], ◌∷◌, Option, Some, None, Ok, Err}
use Rattle.thread_tree.specs.declared.place.Place.{Place}
use Rattle.thread_tree.specs.declared.place.At.{At}
use Rattle.thread_check.specs.declared.fault.CheckFault.TheVariants.{NotAllowedHere}
use Rattle.thread_check.specs.Verdict.{Verdict, Answer, fine, ◌>>=◌, ◌>>◌}
use Rattle.thread_check.specs.Scope.{Scope, looping, opened, closed, room_for_local, room_for_block}
use Rattle.thread_check.specs.Names.{Names}
use Rattle.thread_check.specs.Uses.{fresh}

-- what a rule makes of the scope
abbrev pub Rule : Type 0
Rule = Scope → Answer Scope

-- a word that may not stand here
unfoldable pub allowed : Place → Bool → Verdict
allowed place holds = if holds then fine else Err (NotAllowedHere place)

-- a local that is declared: its name isn't in scope, and not one too many
unfoldable pub new_local : Names → Scope → At → Verdict
new_local names scope at = fresh names scope at >> room_for_local at scope

-- a block that may be left out
abbrev pub if_some : {B : Type 0} → (B → Rule) → Option B → Rule
if_some rule None scope = Ok scope
if_some rule (Some block) scope = rule block scope

-- statements one after another
abbrev pub in_turn : List Rule → Rule
in_turn [] scope = Ok scope
in_turn (rule ∷ rules) scope = rule scope >>= in_turn rules

-- a block with these statements, which is one open block more
abbrev pub block_of : Place → List Rule → Rule
block_of place rules scope = room_for_block place scope >> (in_turn rules (opened scope) >>= λ inner. Ok (closed scope inner))

-- the block of a loop
abbrev pub loop_of : {B : Type 0} → (B → Rule) → B → Rule
loop_of rule block scope = rule block (looping scope) >>= λ inner. Ok (closed scope inner)

-- The faults of words, new locals and blocks, for statements of both sorts.
use Rattle.std.specs.Prelude.{List, [], ◌∷◌, ◌++◌, Option, Some, None}
use Rattle.thread_tree.specs.declared.place.Place.{Place}
use Rattle.thread_tree.specs.declared.place.At.{At}
use Rattle.thread_check.specs.declared.fault.CheckFault.{CheckFault}
use Rattle.thread_check.specs.Scope.{Scope, looping, opened, closed, room_for_local, room_for_block}
use Rattle.thread_check.specs.Names.{Names}
use Rattle.thread_check.specs.Uses.{fresh}
use Rattle.fault_places.specs.Found.{Found, leaves, found_by, ◌+>◌, ◌+>=◌}

-- the faults of a part that begins in a scope, and the scope behind it
abbrev pub Walk : Type 0
Walk = Scope → Found Scope

-- the faults of a local that is declared
abbrev pub new_local_faults : Names → Scope → At → List CheckFault
new_local_faults names scope at = found_by (fresh names scope at) ++ found_by (room_for_local at scope)

-- the faults of a block that may be left out
abbrev pub walk_if_some : {B : Type 0} → (B → Walk) → Option B → Walk
walk_if_some walk None scope = leaves scope
walk_if_some walk (Some block) scope = walk block scope

-- the faults of statements one after another
abbrev pub walk_in_turn : List Walk → Walk
walk_in_turn [] scope = leaves scope
walk_in_turn (walk ∷ walks) scope = walk scope +>= walk_in_turn walks

-- the faults of a block with these statements
abbrev pub walk_block : Place → List Walk → Walk
walk_block place walks scope =
    found_by (room_for_block place scope) +> (walk_in_turn walks (opened scope) +>= λ inner. leaves (closed scope inner))

-- the faults of the block of a loop
abbrev pub walk_loop : {B : Type 0} → (B → Walk) → B → Walk
walk_loop walk block scope = walk block (looping scope) +>= λ inner. leaves (closed scope inner)

-- Rules and walks that go together, and those of blocks.
use Rattle.std.proofs.Common.{◌+◌, List, [], ◌∷◌, length, Ok}
use Rattle.thread_tree.specs.declared.place.Place.{Place}
use Rattle.thread_tree.specs.declared.place.At.{At}
use Rattle.thread_tree.specs.declared.token.Mark.TheVariants as mark
use Rattle.thread_tree.specs.declared.token.Placed.{Placed}
use Rattle.thread_tree.specs.declared.token.Token.{Token}
use Rattle.thread_tree.specs.Spelling.{Takes, TakesMark}
use Rattle.thread_check.specs.declared.fault.Kind.TheVariants as kind
use Rattle.thread_check.specs.Scope.{Scope, opened, closed, room_for_local, room_for_block}
use Rattle.thread_check.specs.Names.{Names}
use Rattle.thread_check.specs.Uses.{fresh}
use Rattle.thread_check.specs.Blocks.{Rule, new_local, in_turn, block_of}
use Rattle.fault_places.specs.OfBlocks.{Walk, new_local_faults, walk_in_turn, walk_block}
use Rattle.fault_places.proofs.Answers.{Finds, Gives, one, both, left_as, ahead, passes}
use Rattle.fault_places.proofs.Ways.{AreIn, Meets, none_met, at_both, then_way, meet, skip}
use Rattle.fault_places.proofs.Places.{fresh_at, limit_at}

-- the walk gives the rule's answer, and its faults are met along the tokens
pub record IsWalked (before after : List Placed) (rule : Rule) (walk : Walk) : Type 0 where
  pub gives : (scope : Scope) → Gives (rule scope) (walk scope)
  pub met : (scope : Scope) → Meets before after (walk scope).faults

-- a new local
pub new_local_finds : (names : Names) (scope : Scope) (at : At) → Finds (new_local names scope at) (new_local_faults names scope at)
unfolding new_local
new_local_finds names scope at = both (one (fresh names scope at)) (one (room_for_local at scope))

pub new_local_at : (names : Names) (scope : Scope) (at : At) → AreIn at.place 5 0 (new_local_faults names scope at)
new_local_at names scope at = at_both (fresh_at names scope at) (limit_at at.place kind.Locals 48 (length scope.locals + 1))

-- no statement, and one more in front
pub no_walk : {here : List Placed} → IsWalked here here (in_turn []) (walk_in_turn [])
no_walk = record { gives = λ scope. left_as scope; met = λ scope. none_met }

pub first_walk : {a b c : List Placed} {rule : Rule} {walk : Walk} (rules : List Rule) (walks : List Walk) → IsWalked a b rule walk → IsWalked b c (in_turn rules) (walk_in_turn walks) → IsWalked a c (in_turn (rule ∷ rules)) (walk_in_turn (walk ∷ walks))
first_walk rules walks first rest = record {
  gives = λ scope. passes (in_turn rules) (walk_in_turn walks) (first.gives scope) rest.gives;
  met = λ scope. then_way (first.met scope) (rest.met _);
}

-- a block
pub block_walked : {a b c d : List Placed} {t : Token} {place : Place} (rules : List Rule) (walks : List Walk) → Takes t place a b → IsWalked b c (in_turn rules) (walk_in_turn walks) → TakesMark mark.CloseBrace c d → IsWalked a d (block_of place rules) (walk_block place walks)
block_walked {place = place} rules walks opens inside closes = record {
  gives = λ scope. ahead (one (room_for_block place scope)) (passes (λ inner. Ok (closed scope inner)) _ (inside.gives (opened scope)) (λ inner. left_as (closed scope inner)));
  met = λ scope. meet opens (limit_at place kind.Nesting 24 (scope.blocks + 1)) (then_way (inside.met (opened scope)) (skip closes none_met));
}

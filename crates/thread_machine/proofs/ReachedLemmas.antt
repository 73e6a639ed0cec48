-- What is reached stays within the limits.
use Rattle.thread_tree.specs.Program.{Program}
use Rattle.thread_tree.specs.LocalState.{LocalState}
use Rattle.thread_machine.specs.Within.{IsWithin}
use Rattle.thread_tree.specs.Limits.{IsSound}
use Rattle.thread_machine.specs.Reached.{Reached}
use Rattle.thread_machine.specs.Reached.Reached.{Born, Entered, Moved, Bound, Turned}
use Rattle.thread_machine.proofs.WithinLemmas.{birth_within, move_within, bind_within, turn_within}
use Rattle.thread_machine.proofs.SpotLemmas.{inside_within}

-- each state that a thread reaches is within the limits
pub reached_within : (p : Program) (s : LocalState) → IsSound p → Reached p s → IsWithin p s
reached_within p s sound (Born q number t arguments is same) = birth_within p number t arguments sound.limits.needs is
reached_within p s sound (Entered q number spot values is same) = inside_within p number spot values sound is
reached_within p s sound (Moved q r t reached is) = move_within p r t sound.limits.needs (reached_within p r sound reached) is
reached_within p s sound (Bound q r action results reached is same) = bind_within p r action results is (reached_within p r sound reached)
reached_within p s sound (Turned q r reached) = turn_within p r (reached_within p r sound reached)

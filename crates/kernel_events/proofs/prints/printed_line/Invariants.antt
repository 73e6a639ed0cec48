-- The bytes of the items so far, and how many operands they have.
use Rattle.std.proofs.Common.{◌≡◌, ◌*◌, ◌≤◌, length, take}
use Rattle.std.specs.Prelude.{flat_map}
use Rattle.thread_tree.specs.Kinds.{operands_of_item}
use Rattle.thread_tree.specs.Program.{program_of}
use Rattle.thread_machine.specs.Context.{local_of}
use Rattle.kernel_model.specs.Act.{printed}
use Rattle.kernel_events.proofs.prints.printed_line.Given as goal

abbrev pub invariant-loop-at : goal.invariant-loop-at
invariant-loop-at l =
    (l.bytes.items ≡ flat_map (printed (local_of (program_of l.fn.program) l.fn.ctx).top.locals) (take l.at l.fn.items))
    × (l.which ≡ length (flat_map operands_of_item (take l.at l.fn.items)))
    × (length l.bytes.items ≤ 64 * l.at)
    × (l.which ≤ l.at)

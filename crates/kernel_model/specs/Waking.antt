-- The wakings of a tick, one row after another.
use Rattle.std.specs.Prelude.{ℕ, ◌+◌, fold}
use Rattle.std.specs.List.{range_with_len}
use Rattle.kernel_model.specs.Kernel.{State}
use Rattle.kernel_model.specs.Run.{woken}
use Rattle.thread_tree.specs.Program.{Program}

-- the kernel where of the first rows all threads are awake whose tick it is, in order of number
unfoldable pub woken_rows : Program → ℕ → State → State
woken_rows p count K = fold (woken p) K (range_with_len 0 count)

-- the kernel at the next tick, where nobody is awake yet
abbrev pub next_tick : State → State
next_tick K = record K { ticks = K.ticks + 1 }

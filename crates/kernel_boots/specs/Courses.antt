-- A course: the uncut run of a program, from some kernel on.
use Rattle.std.specs.Prelude.{◌≡◌, ℕ, ◌-◌, ◌≤◌, max, All, List, length, take, drop, Option}
use Rattle.thread_machine.specs.declared.context.Ctx.{Ctx}
use Rattle.thread_tree.specs.Program.{Program}
use Rattle.kernel_image.specs.Decoded.{Decoded}
use Rattle.kernel_model.specs.declared.event.Event.{Event}
use Rattle.kernel_model.specs.declared.event.Event.TheVariants.{Step}
use Rattle.kernel_model.specs.Kernel.{State}
use Rattle.kernel_model.specs.Run.{initial, on}
use Rattle.replay_list.specs.Kept.{IsKept, counter_of}
use Rattle.replay_list.specs.Stands.{KernelStands}

-- the program, the kernel from which it runs, and all events from the first one on: as many of them as that kernel counts
-- are behind it
pub record Course : Type 0 where
  pub program : Program
  pub start : State
  pub events : List Event

-- the course of a program from a kernel on
abbrev pub course : Program → State → List Event → Course
course p K events = record { program = p; start = K; events = events }

-- the course of a program from its start
abbrev pub from_start : Program → List Event → Course
from_start p events = course p (initial p) events

-- the kernel of a course when it counts so many events
abbrev pub uncut : Course → ℕ → State
uncut c n = on c.program c.start (take (n - c.start.events) (drop c.start.events c.events))

-- how many events its last kernel counts
abbrev pub last : Course → ℕ
last c = max c.start.events (length c.events)

-- the words are kept for the kernel of the course that counts as many events as they do
pub record IsUnderWay (c : Course) (words : List ℕ) : Type 0 where
  pub kept : IsKept c.program words (uncut c (counter_of words))
  pub began : c.start.events ≤ counter_of words
  pub within : counter_of words ≤ last c

-- the image and the contexts stand for the kernel of the course that counts as many events as the image does
pub record IsLive (c : Course) (d : Decoded) (contexts : List (Option Ctx)) : Type 0 where
  pub stands : KernelStands c.program d contexts (uncut c d.events)
  pub began : c.start.events ≤ d.events
  pub within : d.events ≤ last c

-- each of these events is a step
abbrev pub AreSteps : List Event → Type 0
AreSteps events = All (λ event. event ≡ Step) events

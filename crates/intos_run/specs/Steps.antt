-- The run that is asked for by a number of steps.
use Rattle.std.specs.Prelude.{ℕ, List, replicate}
use Rattle.thread_tree.specs.Program.{Program}
use Rattle.kernel_model.specs.declared.event.Event.{Event}
use Rattle.kernel_model.specs.declared.event.Event.TheVariants.{Step}
use Rattle.kernel_boots.specs.Courses.{Course, from_start}

-- its events
abbrev pub only_steps : ℕ → List Event
only_steps steps = replicate steps Step

-- its course, from the start of its program
abbrev pub steps_course : Program → ℕ → Course
steps_course p steps = from_start p (only_steps steps)

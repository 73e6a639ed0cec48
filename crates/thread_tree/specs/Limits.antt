-- The limits of a program that was checked.
use Rattle.std.specs.Prelude.{◌≡◌, ℕ, ◌≤◌, ◌<◌, ◌==◌, ◌^◌, length, All, Option, IfSome, IsSome, find}
use Rattle.thread_tree.specs.Program.{Program, Kind, Queue, Semaphore, Template}
use Rattle.thread_tree.specs.Actions.{actions, loops}
use Rattle.thread_tree.specs.Need.{Fits, IsSmall, need_of_body, callees}
use Rattle.thread_tree.specs.declared.limits.TheConstants.{ITEMS, DECLARED, TARGETS, ROWS, LOOPS, START_VALUES}

-- the type of a name
abbrev pub kind_named : Program → ℕ → Option Kind
kind_named p name = find (λ kind. kind.name == name) p.kinds

-- the thread template of a name
abbrev pub template_named : Program → ℕ → Option Template
template_named p name = find (λ template. template.name == name) p.templates

-- a queue holds 1 to 48 items, and its channel is 0 to 15
pub record IsFitQueue (queue : Queue) : Type 0 where
  pub least : 1 ≤ queue.capacity
  pub most : queue.capacity ≤ ITEMS
  pub channel : IfSome queue.channel (λ channel. channel ≤ 15)

-- a semaphore's maximum is 1 to 65,535, and it begins with no more
pub record IsFitSemaphore (semaphore : Semaphore) : Type 0 where
  pub count : semaphore.count ≤ semaphore.maximum
  pub least : 1 ≤ semaphore.maximum
  pub most : semaphore.maximum ≤ 65535

-- a template has at most 8 parameters and a priority of at most 7
pub record IsFitTemplate (template : Template) : Type 0 where
  pub parameters : length template.parameters ≤ 8
  pub priority : template.priority ≤ 7

-- what `check` promises of a program's numbers
pub record IsWithinLimits (p : Program) : Type 0 where
  pub kinds : length p.kinds ≤ 32
  pub fields : All (λ kind. length kind.fields ≤ 10) p.kinds
  pub objects : length p.objects ≤ DECLARED
  pub object_kinds : All (λ o. IsSome (kind_named p o.kind)) p.objects
  pub queues : length p.queues ≤ TARGETS
  pub each_queue : All IsFitQueue p.queues
  pub semaphores : length p.semaphores ≤ TARGETS
  pub each_semaphore : All IsFitSemaphore p.semaphores
  pub functions : length p.functions ≤ DECLARED
  pub function_parameters : All (λ f. length f.parameters ≤ 8) p.functions
  pub templates : length p.templates ≤ 32
  pub each_template : All IsFitTemplate p.templates
  pub starts : length p.starts ≤ ROWS
  pub start_templates : All (λ s. IsSome (template_named p s.template)) p.starts
  pub start_arguments :
      All (λ s. IfSome (template_named p s.template) (λ t. length t.parameters ≡ length s.arguments)) p.starts
  pub loop_count : length (loops p) ≤ LOOPS
  pub scopes : All (λ spot. length spot.scope ≤ START_VALUES) (loops p)
  pub needs : Fits p

-- what `check` promises of a program that runs: its numbers are within the limits, each body stays within those of
-- locals and blocks with all that it calls, and the actions have numbers of 32 bits
pub record IsSound (p : Program) : Type 0 where
  pub limits : IsWithinLimits p
  pub bodies : All (λ body. IsSmall (need_of_body (callees p) body.parameters body.block)) p.bodies
  pub few : length (actions p) < 2 ^ 32

-- The rules for a name where it stands.
use Rattle.std.specs.Prelude.{Bool, true, false, if◌then◌else◌, Option, Some, None, is_some, Err}
use Rattle.thread_tree.specs.declared.place.At.{At}
use Rattle.thread_check.specs.declared.fault.CheckFault.TheVariants.{UnknownName, TwiceNamed, NotAllowedHere}
use Rattle.thread_check.specs.declared.sort.Sort.{Sort}
use Rattle.thread_check.specs.declared.sort.Sort.TheVariants as sort
use Rattle.thread_check.specs.Verdict.{Verdict, fine}
use Rattle.thread_check.specs.Scope.{Scope}
use Rattle.thread_check.specs.Names.{Names, sort_of}

-- whether two sorts are one
unfoldable pub same_sort : Sort → Sort → Bool
same_sort sort.Local sort.Local = true
same_sort sort.Kind sort.Kind = true
same_sort sort.Object sort.Object = true
same_sort sort.Queue sort.Queue = true
same_sort sort.Semaphore sort.Semaphore = true
same_sort sort.Function sort.Function = true
same_sort sort.Thread sort.Thread = true
same_sort sort.Start sort.Start = true
same_sort a b = false

-- a name of this sort, or out of scope, where a name of the wanted sort must stand
abbrev pub fitting : Sort → At → Option Sort → Verdict
fitting wanted at None = Err (UnknownName at.place)
fitting wanted at (Some found) = if same_sort found wanted then fine else Err (NotAllowedHere at.place)

-- a used name that isn't in scope, or isn't of the wanted sort
unfoldable pub used : Names → Scope → Sort → At → Verdict
used names scope wanted at = fitting wanted at (sort_of names scope at.name)

-- a declared name that is in scope
unfoldable pub fresh : Names → Scope → At → Verdict
fresh names scope at = if is_some (sort_of names scope at.name) then Err (TwiceNamed at.place) else fine

-- The fault of a program.
use Rattle.std.specs.Prelude.{◌≡◌, [], false, Option, Some, None, Ok, Err, ⊤}
use Rattle.thread_tree.specs.declared.tree.Tree.{Tree}
use Rattle.thread_check.specs.declared.fault.CheckFault.{CheckFault}
use Rattle.thread_check.specs.declared.fault.CheckFault.TheVariants.{UnknownName, TwiceNamed, NotAllowedHere, WrongCount, OutOfRange, TooMany, NoMemory}
use Rattle.thread_check.specs.Verdict.{Answer}
use Rattle.thread_check.specs.Names.{Names}
use Rattle.thread_check.specs.Declarations.{declarations_rule}

-- no names are in scope at the beginning
abbrev pub no_names : Names
no_names = record { declarations = []; functions = []; in_function = false }

-- the fault that an answer gives
abbrev pub fault_in : {A : Type 0} → Answer A → Option CheckFault
fault_in (Ok a) = None
fault_in (Err fault) = Some fault

-- the first fault of a program in order of the text; where several stand at one place, the first
-- by the order of the table
unfoldable pub fault_of : Tree → Option CheckFault
fault_of tree = fault_in (declarations_rule no_names 0 tree.decls)

-- the fault that is told is the one that was found, or there was no memory
abbrev pub IsTold : Option CheckFault → CheckFault → Type 0
IsTold found (UnknownName place) = found ≡ Some (UnknownName place)
IsTold found (TwiceNamed place) = found ≡ Some (TwiceNamed place)
IsTold found (NotAllowedHere place) = found ≡ Some (NotAllowedHere place)
IsTold found (WrongCount place) = found ≡ Some (WrongCount place)
IsTold found (OutOfRange place number) = found ≡ Some (OutOfRange place number)
IsTold found (TooMany place counted number) = found ≡ Some (TooMany place counted number)
IsTold found NoMemory = ⊤

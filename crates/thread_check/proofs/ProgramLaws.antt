-- One declaration of a program after another.
use Rattle.std.proofs.Common.{◌≡◌, ℕ, ◌+◌, List, take, drop, Some, Ok, Err, false, ap, sym, ◌∙◌}
use Rattle.std.specs.List.{slice_get}
use Rattle.thread_tree.specs.declared.tree.Decl.{Decl}
use Rattle.thread_check.specs.declared.fault.CheckFault.{CheckFault}
use Rattle.thread_check.specs.declared.fault.CheckFault.TheVariants.{UnknownName, TwiceNamed, NotAllowedHere, WrongCount, OutOfRange, TooMany, NoMemory}
use Rattle.thread_check.specs.declared.peak.FunctionPeak.{FunctionPeak}
use Rattle.thread_check.specs.Verdict.{Answer, ◌>>=◌}
use Rattle.thread_check.specs.Scope.{Scope}
use Rattle.thread_check.specs.Names.{Names}
use Rattle.thread_check.specs.Declarations.{declaration_rule, declarations_rule, after_declaration, with_function}
use Rattle.thread_check.specs.Faults.{fault_in, IsTold}
use Rattle.thread_check.proofs.Steps.{drop_at, take_at}

-- the names of so many first declarations
abbrev pub first_names : List Decl → ℕ → List FunctionPeak → Names
first_names ds i functions = record { declarations = take i ds; functions = functions; in_function = false }

-- a declaration without a fault leaves the rest
pub declarations_rule-next : (ds : List Decl) (i : ℕ) (functions : List FunctionPeak) (loops : ℕ) (d : Decl) (scope : Scope) → slice_get ds i ≡ Some d → declaration_rule (first_names ds i functions) loops d ≡ Ok scope → declarations_rule (first_names ds i functions) loops (drop i ds) ≡ declarations_rule (first_names ds (i + 1) (with_function d scope.peak functions)) scope.loops (drop (i + 1) ds)
declarations_rule-next ds i functions loops d scope there kept =
    ap (declarations_rule (first_names ds i functions) loops) (drop_at ds i d there)
    ∙ ap (λ answer. answer >>= λ left. declarations_rule (after_declaration d left (first_names ds i functions)) left.loops (drop (i + 1) ds)) kept
    ∙ ap (λ first. declarations_rule (record { declarations = first; functions = with_function d scope.peak functions; in_function = false }) scope.loops (drop (i + 1) ds)) (sym (take_at ds i d there))

-- a declaration with a fault gives it
pub declarations_rule-stops : (ds : List Decl) (i : ℕ) (functions : List FunctionPeak) (loops : ℕ) (d : Decl) (fault : CheckFault) → slice_get ds i ≡ Some d → declaration_rule (first_names ds i functions) loops d ≡ Err fault → declarations_rule (first_names ds i functions) loops (drop i ds) ≡ Err fault
declarations_rule-stops ds i functions loops d fault there found =
    ap (declarations_rule (first_names ds i functions) loops) (drop_at ds i d there)
    ∙ ap (λ answer. answer >>= λ left. declarations_rule (after_declaration d left (first_names ds i functions)) left.loops (drop (i + 1) ds)) found

-- a fault that was found is told
pub told : {A : Type 0} (answer : Answer A) (fault : CheckFault) → answer ≡ Err fault → IsTold (fault_in answer) fault
told answer (UnknownName place) found = ap fault_in found
told answer (TwiceNamed place) found = ap fault_in found
told answer (NotAllowedHere place) found = ap fault_in found
told answer (WrongCount place) found = ap fault_in found
told answer (OutOfRange place number) found = ap fault_in found
told answer (TooMany place counted number) found = ap fault_in found
told answer NoMemory found = tt

-- Why a run isn't begun.
use Rattle.std.specs.Prelude.{◌≡◌, ◌⊎◌, Err, ℕ, ◌<◌, ◌≤◌, ◌++◌, [], ◌∷◌, List, length, false, Option, IfSome, codes}
use Rattle.std.specs.Fmt.{decimal}
use Rattle.outer_world.specs.Causes.{Rose, RoseBy}
use Rattle.outer_world.specs.Written.{put_to, IsPart}
use Rattle.thread_tree.specs.declared.place.Place.{Place}
use Rattle.thread_tree.specs.declared.tree.Tree.{Tree}
use Rattle.thread_tokens.specs.Scan.{scan_of}
use Rattle.thread_text.specs.declared.fault.TextFault.{TextFault}
use Rattle.thread_text.specs.declared.fault.TextFault.TheVariants as text_fault
use Rattle.thread_text.specs.Refusals.{Explains}
use Rattle.thread_text.specs.Verdict.{Answers, verdict}
use Rattle.thread_check.specs.declared.fault.CheckFault.{CheckFault}
use Rattle.thread_check.specs.declared.fault.CheckFault.TheVariants as check_fault
use Rattle.thread_check.specs.declared.fault.Kind.{Kind}
use Rattle.thread_check.specs.declared.fault.Kind.TheVariants as kind
use Rattle.thread_check.specs.Faults.{fault_of, IsTold}
use Rattle.accepted_program.specs.Accepted.{IsSpelling, IsAccepted}
use Rattle.intos_run.specs.Command.{IsCommand}
use Rattle.served_program.specs.Served.{is_served}
use Rattle.intos_run.specs.declared.fault.Fault.{Fault}
use Rattle.intos_run.specs.declared.fault.Fault.TheVariants as fault
use Rattle.intos_run.specs.declared.refusal.Refusal.{Refusal}
use Rattle.intos_run.specs.declared.refusal.Refusal.TheVariants.{Usage, ProgramUnread, ProgramTooLong, Faulty, ProgramNotYet, NoMemory}

-- the status of a refusal
abbrev pub status_of : Refusal → ℕ
status_of Usage = 2
status_of ProgramUnread = 3
status_of ProgramTooLong = 4
status_of (Faulty place f) = 4
status_of ProgramNotYet = 4
status_of NoMemory = 7

-- the name of what there is too much of
abbrev pub kind_name : Kind → List ℕ
kind_name kind.Types = codes "types"
kind_name kind.Objects = codes "objects"
kind_name kind.Queues = codes "queues"
kind_name kind.Semaphores = codes "semaphores"
kind_name kind.Functions = codes "functions"
kind_name kind.Threads = codes "threads"
kind_name kind.Starts = codes "starts"
kind_name kind.Loops = codes "loops"
kind_name kind.Parameters = codes "parameters"
kind_name kind.Fields = codes "fields"
kind_name kind.Items = codes "items"
kind_name kind.Scope = codes "scope"
kind_name kind.Locals = codes "locals"
kind_name kind.Nesting = codes "nesting"

-- a fault of a program, with its further values
abbrev pub fault_text : Fault → List ℕ
fault_text fault.BadToken = codes "BadToken"
fault_text fault.NumberTooLarge = codes "NumberTooLarge"
fault_text fault.TooLong = codes "TooLong"
fault_text fault.Expected = codes "Expected"
fault_text fault.UnknownName = codes "UnknownName"
fault_text fault.TwiceNamed = codes "TwiceNamed"
fault_text fault.NotAllowedHere = codes "NotAllowedHere"
fault_text fault.WrongCount = codes "WrongCount"
fault_text (fault.OutOfRange number) = codes "OutOfRange " ++ decimal number
fault_text (fault.TooMany k count) = codes "TooMany " ++ kind_name k ++ codes " " ++ decimal count

-- `program LINE:COLUMN FAULT`
unfoldable pub faulty_line : Place → Fault → List ℕ
faulty_line place f =
    codes "program " ++ decimal place.line ++ codes ":" ++ decimal place.column ++ codes " " ++ fault_text f

-- the line of a refusal
abbrev pub line_of : Refusal → List ℕ
line_of Usage = codes "usage: intos run PROGRAM STEPS [CUT ..]"
line_of ProgramUnread = codes "cannot read program"
line_of ProgramTooLong = codes "program TooLong"
line_of (Faulty place f) = faulty_line place f
line_of ProgramNotYet = codes "program NotYet"
line_of NoMemory = codes "no memory"

-- the refusal of a text that has no tree
abbrev pub refusal_of_text : TextFault → Refusal
refusal_of_text (text_fault.BadToken place) = Faulty place fault.BadToken
refusal_of_text (text_fault.Expected place) = Faulty place fault.Expected
refusal_of_text (text_fault.NumberTooLarge place) = Faulty place fault.NumberTooLarge
refusal_of_text (text_fault.TooLong place) = Faulty place fault.TooLong
refusal_of_text text_fault.NoMemory = NoMemory

-- the refusal of a tree that breaks a rule
abbrev pub refusal_of_check : CheckFault → Refusal
refusal_of_check (check_fault.UnknownName place) = Faulty place fault.UnknownName
refusal_of_check (check_fault.TwiceNamed place) = Faulty place fault.TwiceNamed
refusal_of_check (check_fault.NotAllowedHere place) = Faulty place fault.NotAllowedHere
refusal_of_check (check_fault.WrongCount place) = Faulty place fault.WrongCount
refusal_of_check (check_fault.OutOfRange place number) = Faulty place (fault.OutOfRange number)
refusal_of_check (check_fault.TooMany place k count) = Faulty place (fault.TooMany k count)
refusal_of_check check_fault.NoMemory = NoMemory

-- the fault of a text that spells no tree within the bounds, with what it says of the text; or want of memory
abbrev pub IsTextFault : List ℕ → TextFault → Type 0
IsTextFault text t =
    Answers {X = Tree} (Err t) (verdict (scan_of text).tokens (scan_of text).ending)
    × Explains (scan_of text).tokens (scan_of text).ending t

-- a text that has no tree, or whose tree breaks a rule, with the place and the fault that are named
abbrev pub IsFaulty : List ℕ → Place → Fault → Type 0
IsFaulty text place f =
    ((t : TextFault) × IsTextFault text t × (refusal_of_text t ≡ Faulty place f))
    ⊎ ((tree : Tree) × (c : CheckFault) × IsSpelling text tree × IsTold (fault_of tree) c × (refusal_of_check c ≡ Faulty place f))

-- an accepted program that isn't served yet
abbrev pub IsNotYet : List ℕ → Type 0
IsNotYet text = (tree : Tree) × IsAccepted text tree × (is_served tree ≡ false)

-- the words are no command
abbrev pub IsUndefined : List (List ℕ) → Type 0
IsUndefined words = (name : List ℕ) (steps : ℕ) (cuts : List ℕ) → IsCommand words name steps cuts → ⊥

-- why a program is refused, by its text
abbrev pub RefusesText : List ℕ → Refusal → Type 0
RefusesText text Usage = ⊥
RefusesText text ProgramUnread = ⊥
RefusesText text ProgramTooLong = 65536 < length text
RefusesText text (Faulty place f) = (length text ≤ 65536) × IsFaulty text place f
RefusesText text ProgramNotYet = (length text ≤ 65536) × IsNotYet text
RefusesText text NoMemory = Unit {0}

-- why a program is refused: by its bytes where they are told, by the bytes taken and by the faults of the files
abbrev pub RefusesProgram : Option (List ℕ) → ℕ → ℕ → ℕ → ℕ → Refusal → Type 0
RefusesProgram told taken taken_now faults faults_now Usage = ⊥
RefusesProgram told taken taken_now faults faults_now ProgramUnread = Rose faults faults_now
RefusesProgram told taken taken_now faults faults_now ProgramTooLong =
    (faults_now ≡ faults) × RoseBy 65537 taken taken_now × IfSome told (λ text. RefusesText text ProgramTooLong)
RefusesProgram told taken taken_now faults faults_now (Faulty place f) =
    (faults_now ≡ faults) × IfSome told (λ text. RefusesText text (Faulty place f))
RefusesProgram told taken taken_now faults faults_now ProgramNotYet =
    (faults_now ≡ faults) × IfSome told (λ text. RefusesText text ProgramNotYet)
RefusesProgram told taken taken_now faults faults_now NoMemory = faults_now ≡ faults

-- the words are a command whose program is refused
abbrev pub RefusesNamed : List (List ℕ) → (List ℕ → Option (List ℕ)) → ℕ → ℕ → ℕ → ℕ → Refusal → Type 0
RefusesNamed words contents taken taken_now faults faults_now refusal =
    (name : List ℕ) × (steps : ℕ) × (cuts : List ℕ) × IsCommand words name steps cuts
    × RefusesProgram (contents name) taken taken_now faults faults_now refusal

-- why a run is refused: its words, or the program that they name
abbrev pub RefusesRun : List (List ℕ) → (List ℕ → Option (List ℕ)) → ℕ → ℕ → ℕ → ℕ → Refusal → Type 0
RefusesRun words contents taken taken_now faults faults_now Usage = (faults_now ≡ faults) × IsUndefined words
RefusesRun words contents taken taken_now faults faults_now ProgramUnread =
    RefusesNamed words contents taken taken_now faults faults_now ProgramUnread
RefusesRun words contents taken taken_now faults faults_now ProgramTooLong =
    RefusesNamed words contents taken taken_now faults faults_now ProgramTooLong
RefusesRun words contents taken taken_now faults faults_now (Faulty place f) =
    RefusesNamed words contents taken taken_now faults faults_now (Faulty place f)
RefusesRun words contents taken taken_now faults faults_now ProgramNotYet =
    RefusesNamed words contents taken taken_now faults faults_now ProgramNotYet
RefusesRun words contents taken taken_now faults faults_now NoMemory = faults_now ≡ faults

-- a line and nothing else was put: a part of it at most, and all of it where the sink's faults didn't rise
pub record Tells (line : List ℕ) (old new : Option (List ℕ)) (faults faults_now : ℕ) : Type 0 where
  pub part : IsPart old new (line ++ 10 ∷ [])
  pub whole : (Rose faults faults_now → ⊥) → new ≡ put_to old (line ++ 10 ∷ [])

-- the statuses of a run that isn't begun
abbrev pub IsRefusal : ℕ → Type 0
IsRefusal status = (status ≡ 2) ⊎ ((status ≡ 3) ⊎ ((status ≡ 4) ⊎ (status ≡ 7)))

-- the statuses with which a run ends
abbrev pub IsStatus : ℕ → Type 0
IsStatus status = (status ≡ 0) ⊎ ((status ≡ 6) ⊎ IsRefusal status)

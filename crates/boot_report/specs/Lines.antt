-- The lines that report a boot (docs/REPORT.md).
use Rattle.std.specs.Prelude.{ℕ, ◌+◌, Bool, if◌then◌else◌, List, [], ◌∷◌, ◌++◌, flat_map, sum_by, codes}
use Rattle.std.specs.Fmt.{decimal}
use Rattle.thread_tree.specs.declared.local.Local.{Local}
use Rattle.thread_tree.specs.LocalState.{locals_of}
use Rattle.thread_tree.specs.Program.{Program}
use Rattle.kernel_model.specs.Kernel as kernel
use Rattle.kernel_model.specs.Kernel.{Thread, State}
use Rattle.kernel_model.specs.Kernel.Row.{Free, Ended, Live}
use Rattle.kernel_model.specs.Names.{name_of}
use Rattle.kernel_model.specs.Show.{bytes_of, names_of}

-- `boot I cut in undo` or `boot I cut in format`: a boot whose recovery was cut
unfoldable pub dark_line : ℕ → Bool → List ℕ
dark_line number formatted = codes "boot " ++ decimal number ++ (if formatted then codes " cut in undo" else codes " cut in format")

-- `boot I start at N undone U replayed R`
unfoldable pub start_line : ℕ → ℕ → ℕ → ℕ → List ℕ
start_line number events undone replayed =
    codes "boot " ++ decimal number ++ codes " start at " ++ decimal events ++ codes " undone " ++ decimal undone
    ++ codes " replayed " ++ decimal replayed

-- ` NAME=VALUE` for each local
unfoldable pub locals_text : Program → List Local → List ℕ
locals_text p locals = flat_map (λ local. codes " " ++ bytes_of p local.name ++ codes "=" ++ decimal local.value) locals

-- `boot I thread T NAME:` and the locals in scope
unfoldable pub thread_line : ℕ → Program → ℕ → Thread → List ℕ
thread_line number p t thread =
    codes "boot " ++ decimal number ++ codes " thread " ++ decimal t ++ codes " " ++ name_of (names_of p).templates thread.template
    ++ codes ":" ++ locals_text p (locals_of thread.local)

-- the line of a live thread
abbrev pub row_lines : ℕ → Program → ℕ → kernel.Row → List (List ℕ)
row_lines number p t Free = []
row_lines number p t (Ended template priority code) = []
row_lines number p t (Live thread) = thread_line number p t thread ∷ []

-- the lines of the live threads, the first row having this number
abbrev pub thread_lines : ℕ → Program → ℕ → List kernel.Row → List (List ℕ)
thread_lines number p t [] = []
thread_lines number p t (row ∷ rows) = row_lines number p t row ++ thread_lines number p (t + 1) rows

-- how many records the thread of a row has passed, and those of all rows
abbrev pub passed_in : kernel.Row → ℕ
passed_in Free = 0
passed_in (Ended template priority code) = 0
passed_in (Live thread) = thread.passed

abbrev pub replayed : State → ℕ
replayed K = sum_by passed_in K.rows

-- the lines behind a finished recovery: where the run stands, and the live threads
unfoldable pub begin_lines : ℕ → ℕ → Program → State → List (List ℕ)
begin_lines number undone p K = start_line number K.events undone (replayed K) ∷ thread_lines number p 0 K.rows

-- `boot I cut at N`
unfoldable pub cut_line : ℕ → ℕ → List ℕ
cut_line number events = codes "boot " ++ decimal number ++ codes " cut at " ++ decimal events

-- `boot I end at N`
unfoldable pub end_line : ℕ → ℕ → List ℕ
end_line number events = codes "boot " ++ decimal number ++ codes " end at " ++ decimal events

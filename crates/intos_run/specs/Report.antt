-- The text of the report: the lines of each boot, and the dump behind the last one.
use Rattle.std.specs.Prelude.{ℕ, ◌+◌, ◌==◌, ◌&&◌, nat_lt, not, Bool, false, if◌then◌else◌, List, [], ◌∷◌, ◌++◌, length, drop, slice_index, Option, None, Some}
use Rattle.nv_memory.specs.Budget.{first_budget, later_budgets}
use Rattle.undo_journal.specs.Undo.{magic, entries}
use Rattle.kernel_model.specs.Dump.{dump_lines, text_of}
use Rattle.kernel_model.specs.Show.{names_of, visible}
use Rattle.replay_list.specs.Kept.{counter_of, recovering}
use Rattle.kernel_boots.specs.Courses.{Course, uncut, last}
use Rattle.boot_report.specs.Lines.{dark_line, begin_lines, cut_line, end_line}

-- whether the device is formatted
abbrev pub is_formatted : List ℕ → Bool
is_formatted words = slice_index words 0 == magic

-- whether a boot with this budget goes dark in its recovery
abbrev pub goes_dark : Option ℕ → List ℕ → Bool
goes_dark None words = false
goes_dark (Some budget) words = nat_lt budget (recovering words)

-- the lines behind a finished recovery from these words: where the run stands, and the live threads with their locals
abbrev pub start_lines : Course → ℕ → List ℕ → List (List ℕ)
start_lines c number before = begin_lines number (entries before) c.program (uncut c (counter_of before))

-- the lines of a boot that was cut: before stood the first words, and the other ones were left
unfoldable pub cut_boot : Course → ℕ → Option ℕ → List ℕ → List ℕ → List (List ℕ)
cut_boot c number budget before left =
    if goes_dark budget before then dark_line number (is_formatted left) ∷ []
    else start_lines c number before ++ cut_line number (counter_of left) ∷ []

-- whether a boot with this budget came to the last event
abbrev pub is_done : Course → Option ℕ → List ℕ → List ℕ → Bool
is_done c budget before left = not (goes_dark budget before) && is_formatted left && counter_of left == last c

-- the dump of the last kernel of a course
abbrev pub last_dump : Course → List (List ℕ)
last_dump c = dump_lines (names_of c.program) (visible c.program (uncut c (last c)))

-- the lines of the last boot: a boot that came to its end is followed by the dump
unfoldable pub last_boot : Course → ℕ → Option ℕ → List ℕ → List ℕ → List (List ℕ)
last_boot c number budget before left =
    if is_done c budget before left
    then start_lines c number before ++ end_line number (last c) ∷ [] ++ last_dump c
    else cut_boot c number budget before left

-- the words before the boot behind these ends
abbrev pub before_last : List ℕ → List (List ℕ) → List ℕ
before_last first [] = first
before_last first (left ∷ ends) = before_last left ends

-- the lines of the boots that were cut, from this number and these words on
unfoldable pub cut_boots : Course → ℕ → List ℕ → List ℕ → List (List ℕ) → List (List ℕ)
cut_boots c number cuts before [] = []
cut_boots c number cuts before (left ∷ ends) =
    cut_boot c number (first_budget cuts) before left ++ cut_boots c (number + 1) (later_budgets cuts) left ends

-- the whole report of a run that began with the first words and left the last ones
unfoldable pub report : Course → List ℕ → List ℕ → List (List ℕ) → List ℕ → List ℕ
report c cuts first ends left =
    text_of (cut_boots c 1 cuts first ends
    ++ last_boot c (length ends + 1) (first_budget (drop (length ends) cuts)) (before_last first ends) left)

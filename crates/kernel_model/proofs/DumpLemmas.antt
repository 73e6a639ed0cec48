-- What those who print a dump need of its text.
use Rattle.std.proofs.Common.{◌≡◌, ◌≢◌, ℕ, List, [], ◌∷◌, ◌++◌, length, map, refl, ap, ◌∙◌, arith, rules, append_assoc}
use Rattle.std.specs.List.{All}
use Rattle.std.proofs.lemmas.Grind.{flat_map-append}
use Rattle.std.proofs.lemmas.Bool.Decides.{nat_tests}
use Rattle.std.proofs.lemmas.List.Elements.{All-tail}
use Rattle.kernel_model.specs.Names.{Names}
use Rattle.kernel_model.specs.Visible.{Visible}
use Rattle.kernel_model.specs.Dump.{events_line, ticks_line, row_lines, ready_lines, timed_lines, queue_lines, semaphore_lines, object_lines, console_size_line, console_line, IsOneLine, lines_with, console_lines, text_of, dump}

-- the text of lines and more lines is the text of the first and then that of the others
pub text_of-append : (lines more : List (List ℕ)) → text_of (lines ++ more) ≡ text_of lines ++ text_of more
text_of-append lines more = flat_map-append (λ line. line ++ 10 ∷ []) lines more

-- a dump is the texts of its parts, one after another
pub dump-parts : (names : Names) (visible : Visible) →
    dump names visible ≡
    text_of (events_line visible.events ∷ ticks_line visible.ticks ∷ [])
    ++ text_of (row_lines names visible.rows)
    ++ text_of (ready_lines visible.ready)
    ++ text_of (timed_lines visible.timed)
    ++ text_of (queue_lines names visible.queues)
    ++ text_of (semaphore_lines names visible.semaphores)
    ++ text_of (object_lines names visible.objects)
    ++ text_of (console_size_line (length visible.console) ∷ [])
    ++ text_of (map console_line (console_lines visible.console))
dump-parts names visible = simp text_of-append

-- a byte that is no newline begins the first line
pub lines_with-other : (byte : ℕ) (line : List ℕ) (lines : List (List ℕ)) → byte ≢ 10 →
    lines_with byte (line ∷ lines) ≡ (byte ∷ line) ∷ lines
lines_with-other byte line lines other = grind (arith, nat_tests)

-- a newline ends the line before it
pub console_lines-newline : (line rest : List ℕ) → IsOneLine line →
    console_lines (line ++ 10 ∷ rest) ≡ line ∷ console_lines rest
console_lines-newline [] rest none = refl
console_lines-newline (byte ∷ line) rest none =
    ap (lines_with byte) (console_lines-newline line rest (All-tail (λ byte. byte ≢ 10) byte line none))
    ∙ lines_with-other byte line (console_lines rest) (none 0 0 (search rules))

-- a text of whole lines has these lines, before those of the rest
pub console_lines-text_of : (lines : List (List ℕ)) (rest : List ℕ) → All IsOneLine lines →
    console_lines (text_of lines ++ rest) ≡ lines ++ console_lines rest
console_lines-text_of [] rest none = refl
console_lines-text_of (line ∷ lines) rest none =
    ap console_lines (append_assoc (line ++ 10 ∷ []) (text_of lines) rest ∙ append_assoc line (10 ∷ []) (text_of lines ++ rest))
    ∙ console_lines-newline line (text_of lines ++ rest) (none 0 [] (search rules))
    ∙ ap (λ more. line ∷ more) (console_lines-text_of lines rest (All-tail IsOneLine line lines none))

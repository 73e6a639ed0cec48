-- The lines of a console, out of its bytes.
use Rattle.std.proofs.Common.{◌≡◌, ◌≢◌, ℕ, ◌+◌, ◌-◌, ◌<◌, ◌≤◌, List, [], ◌∷◌, ◌++◌, length, get_or, take, drop, sym, ◌∙◌, ap, arith, rules, add-one, length-drop}
use Rattle.std.proofs.Math.Seq.{drop-cons}
use Rattle.std.proofs.lemmas.List.{take-append-drop, length-take, take_all, get_or-take}
use Rattle.std.proofs.lemmas.List.Elements.{All-tail, All-from_get_or}
use Rattle.std.proofs.lemmas.Bool.Decides.{nat_tests}
use Rattle.kernel_model.specs.Dump.{IsOneLine, lines_with, console_lines}
use Rattle.kernel_model.proofs.Callers.{lines_with-other, console_lines-newline}

-- bytes without a newline are the last line, where there are some
pub console_lines-last : (line : List ℕ) → 0 < length line → IsOneLine line → console_lines line ≡ line ∷ []
console_lines-last [] some none = absurd (omega arith)
console_lines-last (byte ∷ []) some none = let other = none 0 0 (search rules) in grind (arith, nat_tests)
console_lines-last (byte ∷ next ∷ line) some none =
    ap (lines_with byte) (console_lines-last (next ∷ line) (search rules) (All-tail (λ byte. byte ≢ 10) byte (next ∷ line) none))
    ∙ lines_with-other byte (next ∷ line) [] (none 0 0 (search rules))

-- the bytes before a place are one line where none of them is a newline
before-one_line : (console : List ℕ) (len : ℕ) → ((k : ℕ) → k < len → get_or console k 0 ≢ 10) → IsOneLine (take len console)
before-one_line console len none = All-from_get_or (λ byte. byte ≢ 10) (take len console) 0 (λ k below.
    let lt : k < len = omega (arith, length-take len console) in
    λ is. none k lt (sym (get_or-take len console k 0 lt) ∙ is))

-- a list is what stands before a place, what stands there, and what stands behind it
around : (xs : List ℕ) (i : ℕ) → i < length xs → xs ≡ take i xs ++ (get_or xs i 0 ∷ drop (i + 1) xs)
around xs i h = sym (take-append-drop i xs) ∙ ap (λ (ys : List ℕ). take i xs ++ ys) (rw add-one (drop-cons xs i 0 h))

-- the first line ends at the first newline
pub console_lines-first : (console : List ℕ) (len : ℕ) → len < length console → ((k : ℕ) → k < len → get_or console k 0 ≢ 10)
    → get_or console len 0 ≡ 10
    → console_lines console ≡ take len console ∷ console_lines (take (length console - (len + 1)) (drop (len + 1) console))
console_lines-first console len within none newline =
    let all : take (length console - (len + 1)) (drop (len + 1) console) ≡ drop (len + 1) console =
    take_all (length console - (len + 1)) (drop (len + 1) console) (omega (arith, length-drop (len + 1) console)) in
    ap console_lines (around console len within ∙ ap (λ (byte : ℕ). take len console ++ (byte ∷ drop (len + 1) console)) newline)
    ∙ console_lines-newline (take len console) (drop (len + 1) console) (before-one_line console len none)
    ∙ ap (λ (later : List ℕ). take len console ∷ console_lines later) (sym all)

-- without a newline all of a console is one line
pub console_lines-only : (console : List ℕ) (len : ℕ) → 0 < length console → length console ≤ len
    → ((k : ℕ) → k < len → get_or console k 0 ≢ 10) → console_lines console ≡ console ∷ []
console_lines-only console len some whole none =
    console_lines-last console some (All-from_get_or (λ byte. byte ≢ 10) console 0 (λ k below. none k (omega arith)))

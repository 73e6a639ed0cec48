-- Which tests a byte passes.
use Rattle.std.proofs.Common.{◌≡◌, ℕ, ◌+◌, ◌<◌, ◌≤◌, true, false, ◌==◌, List, length, get_or, sym, ◌∙◌, arith}
use Rattle.std.specs.List.{list_all}
use Rattle.std.specs.Char.{is_ascii_digit, digit_value}
use Rattle.std.proofs.lemmas.Bool.{false≢true}
use Rattle.std.proofs.lemmas.List.Folds.{list_all_at}
use Rattle.std.proofs.lemmas.Str.{digit_value_digit}
use Rattle.thread_tokens.proofs.Lists.{by_test}
use Rattle.std.proofs.lemmas.Bool.Decides.{nat_tests}
use Rattle.thread_tokens.specs.Form.{begins_name}
use Rattle.thread_tokens.specs.Piece.{is_space}

pub digit-letter : (b : ℕ) → begins_name b ≡ true → is_ascii_digit b ≡ false
digit-letter b h = grind (arith, nat_tests)

pub quote-letter : (b : ℕ) → begins_name b ≡ true → (b == 34) ≡ false
quote-letter b h = grind (arith, nat_tests)

pub quote-digit : (b : ℕ) → is_ascii_digit b ≡ true → (b == 34) ≡ false
quote-digit b h = grind (arith, nat_tests)

pub space-letter : (b : ℕ) → begins_name b ≡ true → is_space b ≡ false
space-letter b h = grind (arith, nat_tests)

pub space-digit : (b : ℕ) → is_ascii_digit b ≡ true → is_space b ≡ false
space-digit b h = grind (arith, nat_tests)

digit-value : (b : ℕ) → is_ascii_digit b ≡ true → digit_value b + 48 ≡ b
digit-value b h =
    let low : 48 ≤ b = grind (arith, nat_tests) in
    let high : b ≤ 57 = grind (arith, nat_tests) in
    digit_value_digit b (low, high)

-- the value of one of several digits
pub digit-at : (digits : List ℕ) (i : ℕ) → list_all is_ascii_digit digits ≡ true → i < length digits → digit_value (get_or digits i 0) + 48 ≡ get_or digits i 0
digit-at digits i all within = digit-value (get_or digits i 0)
    (by_test (is_ascii_digit (get_or digits i 0)) _ (λ passes. passes) (λ fails. absurd (false≢true (sym (list_all_at is_ascii_digit digits i 0 within fails) ∙ all))))

-- What `parse` reads of a number's decimal digits.
use Rattle.std.proofs.Common.{◌≡◌, ◌≢◌, ℕ, ◌<◌, ◌^◌, true, false, List, Result, Ok, Err, sym, ◌∙◌, ap, eqb, arith}
use Rattle.std.specs.Fmt.{decimal}
use Rattle.std.specs.Cmp.Lexicographic.{pointwise}
use Rattle.std.specs.Str.Parse.{ParsesUnsigned}
use Rattle.std.proofs.lemmas.Fmt.{parse-decimal}
use Rattle.std.proofs.lemmas.Slice.Eq.{bytes_eq-Decides}

-- the digits of a number are read as that number
pub read_same : (E : Type 0) (text : List ℕ) (read number : ℕ) → ParsesUnsigned {E = E} 32 10 text (Ok read) → number < 2 ^ 32 → text ≡ decimal number → read ≡ number
read_same E text read number parses fits same =
    let equal : ◌≡◌ {A = Result ℕ E} (Ok read) (Ok number) = parse-decimal 32 number text (Ok read) fits (omega arith) same parses in
    cc

-- a text that can't be read isn't the digits of a number
pub not_read : {E : Type 0} (text : List ℕ) (error : E) (number : ℕ) → ParsesUnsigned 32 10 text (Err error) → number < 2 ^ 32 → text ≢ decimal number
not_read {E} text error number parses fits same =
    let equal : ◌≡◌ {A = Result ℕ E} (Err error) (Ok number) = parse-decimal 32 number text (Err error) fits (omega arith) same parses in
    cc

-- a text that differs from a number's digits isn't them
pub not_written : (written text : List ℕ) (number number' : ℕ) → false ≡ pointwise eqb written text → written ≡ decimal number → number ≡ number' → text ≢ decimal number'
not_written written text number number' differs digits equal same =
    let found : pointwise eqb written text ≡ true = (bytes_eq-Decides written text).1 (digits ∙ ap decimal equal ∙ sym same) in
    cc

-- Laws of bytes that were written one piece after another.
use Rattle.std.proofs.Common.{◌≡◌, ℕ, ◌+◌, ◌-◌, List, [], ◌++◌, length, take, drop, Option, None, Some, refl, sym, ap, ◌∙◌, append_assoc, append-nil, arith, length-drop}
use Rattle.std.proofs.lemmas.List.{take_all}
use Rattle.std.proofs.Math.Seq.{take-add}
use Rattle.std.specs.Io.KnownBytes.{Appends, Keeps}

-- nothing is written to what stays
pub appends_nothing : (old : Option (List ℕ)) → Appends old old []
appends_nothing None = tt
appends_nothing (Some held) = sym (append-nil held)

-- two pieces one after the other are one piece
pub appends_twice : (old mid new : Option (List ℕ)) (a b : List ℕ) → Appends old mid a → Appends mid new b → Appends old new (a ++ b)
appends_twice None mid new a b first second = tt
appends_twice (Some held) None new a b first second = absurd first
appends_twice (Some held) (Some more) None a b first second = absurd second
appends_twice (Some held) (Some more) (Some all) a b first second =
    second ∙ ap (λ text. text ++ b) first ∙ append_assoc held a b

-- what keeps its bytes has the same piece behind them
pub appends_kept : (old mid new : Option (List ℕ)) (a : List ℕ) → Appends old mid a → Keeps mid new → Appends old new a
appends_kept None mid new a first second = tt
appends_kept (Some held) None new a first second = absurd first
appends_kept (Some held) (Some more) None a first second = absurd second
appends_kept (Some held) (Some more) (Some all) a first second = second ∙ first

-- what is left of a piece behind its first n bytes
rest_of_piece : (piece : List ℕ) (n : ℕ) → take (length piece - n) (drop n piece) ≡ drop n piece
rest_of_piece piece n = take_all _ _ (omega (arith, length-drop n piece))

-- the first n bytes of a piece and then m of what is left are its first n + m bytes
pub appends_next : (old mid new : Option (List ℕ)) (piece : List ℕ) (n m : ℕ) → Appends old mid (take n piece) → Appends mid new (take m (take (length piece - n) (drop n piece))) → Appends old new (take (n + m) piece)
appends_next old mid new piece n m first second =
    rw take-add (appends_twice old mid new (take n piece) (take m (drop n piece)) first (rw (rest_of_piece piece n) at second))

-- the laws that a loop of writes needs, for an attribute `using`
pub ruleset appended = (appends_nothing, appends_next, appends_kept)

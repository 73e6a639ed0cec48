-- Names, numbers and strings of tokens: they stand in the canonical tokens as in those that were read.
use Rattle.std.proofs.Common.{◌≡◌, ℕ, Bool, true, false, cond, List, [], ◌∷◌, ◌++◌, map, ap}
use Rattle.thread_tree.specs.declared.name.Name.{Name}
use Rattle.thread_tree.specs.declared.token.Placed.{Placed}
use Rattle.thread_tree.specs.declared.token.Token.{Token}
use Rattle.thread_tree.specs.declared.token.Token.TheVariants as token
use Rattle.thread_tokens.specs.Spelled.{AreTokens, with_it}

-- the tokens without their places
abbrev pub bare : List Placed → List Token
bare placed = map (λ p. p.token) placed

-- whether a token is a name, a number or a string
abbrev says : Token → Bool
says (token.Name i) = true
says (token.Number n) = true
says (token.Text text) = true
says (token.Word word) = false
says (token.Mark mark) = false
says (token.Operator operator) = false

-- these alone
abbrev pub contents : List Token → List Token
contents [] = []
contents (t ∷ ts) = cond (says t) (t ∷ contents ts) (contents ts)

pub cons_keeps : (t : Token) (xs ys : List Token) → contents xs ≡ contents ys → contents (t ∷ xs) ≡ contents (t ∷ ys)
cons_keeps t xs ys same = ap (λ cs. cond (says t) (t ∷ cs) cs) same

pub append_keeps : (front xs ys : List Token) → contents xs ≡ contents ys → contents (front ++ xs) ≡ contents (front ++ ys)
append_keeps [] xs ys same = same
append_keeps (t ∷ front) xs ys same = cons_keeps t (front ++ xs) (front ++ ys) (append_keeps front xs ys same)

-- tokens are in order where their names, numbers and strings are
pub from_contents : (names : List Name) (count : ℕ) (ts : List Token) → AreTokens names count (contents ts) → AreTokens names count ts
from_contents names count [] are = are
from_contents names count (token.Name i ∷ ts) are = (are.0, are.1, from_contents names (with_it count (token.Name i)) ts are.2)
from_contents names count (token.Number n ∷ ts) are = (are.0, are.1, from_contents names count ts are.2)
from_contents names count (token.Text text ∷ ts) are = (are.0, are.1, from_contents names count ts are.2)
from_contents names count (token.Word word ∷ ts) are = (tt, tt, from_contents names count ts are)
from_contents names count (token.Mark mark ∷ ts) are = (tt, tt, from_contents names count ts are)
from_contents names count (token.Operator operator ∷ ts) are = (tt, tt, from_contents names count ts are)

pub to_contents : (names : List Name) (count : ℕ) (ts : List Token) → AreTokens names count ts → AreTokens names count (contents ts)
to_contents names count [] are = are
to_contents names count (token.Name i ∷ ts) are = (are.0, are.1, to_contents names (with_it count (token.Name i)) ts are.2)
to_contents names count (token.Number n ∷ ts) are = (are.0, are.1, to_contents names count ts are.2)
to_contents names count (token.Text text ∷ ts) are = (are.0, are.1, to_contents names count ts are.2)
to_contents names count (token.Word word ∷ ts) are = to_contents names count ts are.2
to_contents names count (token.Mark mark ∷ ts) are = to_contents names count ts are.2
to_contents names count (token.Operator operator ∷ ts) are = to_contents names count ts are.2

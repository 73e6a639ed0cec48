-- Worked rows of trees that tokens spell.
use Rattle.std.specs.Prelude.{List, [], ◌∷◌}
use Rattle.thread_tree.specs.declared.expr.Op.{Op}
use Rattle.thread_tree.specs.declared.place.At.{At}
use Rattle.thread_tree.specs.declared.place.Place.{Place}
use Rattle.thread_tree.specs.declared.token.Placed.{Placed}
use Rattle.thread_tree.specs.declared.token.Token.TheVariants as token

-- the tokens of three names with an operator between each two
abbrev pub three : At → Op → Place → At → Op → Place → At → List Placed
three x first p y second q z =
    record { token = token.Name x.name; place = x.place } ∷ record { token = token.Operator first; place = p } ∷ record { token = token.Name y.name; place = y.place } ∷ record { token = token.Operator second; place = q } ∷ record { token = token.Name z.name; place = z.place } ∷ []

use Rattle.std.proofs.Common.{◌≡◌, ◌<◌, List, ◌∷◌, length}
use Rattle.thread_tree.specs.Parts.{Part, Expression, MoreExpressions}
use Rattle.thread_tree.specs.Spelling.{Separated, SpellsExpr}
use Rattle.thread_text.specs.Fate.{ahead}
use Rattle.thread_text.proofs.cursor.Cursor.expressions.Given as goal

abbrev pub invariant-expressions : goal.invariant-expressions
invariant-expressions l =
    ((next : Part) (parts : List Part) → ahead (Expression l.fields (MoreExpressions l.fields next) ∷ parts) l.fn.self ≡ ahead (MoreExpressions l.fields next ∷ parts) l.self) × (length l.self.left < length l.fn.self.left) × Separated (SpellsExpr l.fields) l.fn.self.left l.self.left l.expressions.items

abbrev pub decreases-expressions : goal.decreases-expressions
decreases-expressions l = length l.self.left

use Rattle.std.proofs.Common.{◌≡◌, ◌<◌, List, ◌∷◌, length}
use Rattle.thread_tree.specs.Parts.{Part, Numbers, MoreNumbers}
use Rattle.thread_tree.specs.Spelling.{Separated, SpellsNumber}
use Rattle.thread_text.specs.Fate.{ahead}
use Rattle.thread_text.proofs.cursor.Cursor.numbers.Given as goal

abbrev pub invariant-numbers : goal.invariant-numbers
invariant-numbers l =
    ((parts : List Part) → ahead (Numbers ∷ parts) l.fn.self ≡ ahead (MoreNumbers ∷ parts) l.self) × (length l.self.left < length l.fn.self.left) × Separated SpellsNumber l.fn.self.left l.self.left l.numbers.items

abbrev pub decreases-numbers : goal.decreases-numbers
decreases-numbers l = length l.self.left

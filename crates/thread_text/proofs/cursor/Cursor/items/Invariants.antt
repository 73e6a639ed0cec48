use Rattle.std.proofs.Common.{◌≡◌, ◌<◌, List, ◌∷◌, length}
use Rattle.thread_tree.specs.Parts.{Part, AnItem, MoreItems}
use Rattle.thread_tree.specs.Spelling.{Separated}
use Rattle.thread_tree.specs.SpellingOfCalls.{SpellsItem}
use Rattle.thread_text.specs.Fate.{ahead}
use Rattle.thread_text.proofs.cursor.Cursor.items.Given as goal

abbrev pub invariant-items : goal.invariant-items
invariant-items l =
    ((parts : List Part) → ahead (AnItem ∷ parts) l.fn.self ≡ ahead (MoreItems ∷ parts) l.self) × (length l.self.left < length l.fn.self.left) × Separated SpellsItem l.fn.self.left l.self.left l.items.items

abbrev pub decreases-items : goal.decreases-items
decreases-items l = length l.self.left

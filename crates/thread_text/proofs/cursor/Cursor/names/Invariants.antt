use Rattle.std.proofs.Common.{◌≡◌, ◌<◌, List, ◌∷◌, length}
use Rattle.thread_tree.specs.Parts.{Part, AName, MoreNames}
use Rattle.thread_tree.specs.Spelling.{SpellsNames}
use Rattle.thread_text.specs.Fate.{ahead}
use Rattle.thread_text.proofs.cursor.Cursor.names.Given as goal

abbrev pub invariant-names : goal.invariant-names
invariant-names l =
    ((next : Part) (parts : List Part) → ahead (AName ∷ MoreNames next ∷ parts) l.fn.self ≡ ahead (MoreNames next ∷ parts) l.self) × (length l.self.left < length l.fn.self.left) × SpellsNames l.fn.self.left l.self.left l.names.items

abbrev pub decreases-names : goal.decreases-names
decreases-names l = length l.self.left

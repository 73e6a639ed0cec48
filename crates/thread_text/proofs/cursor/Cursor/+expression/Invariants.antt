use Rattle.std.proofs.Common.{◌≡◌, ◌<◌, ◌+◌, List, ◌∷◌, length, ◌-◌, ◌*◌}
use Rattle.thread_tree.specs.Parts.{Part, Inner, After}
use Rattle.thread_tree.specs.Spelling.{SpellsLevel}
use Rattle.thread_text.specs.Fate.{ahead, next_binding}
use Rattle.thread_text.proofs.cursor.Cursor.+expression.Given as goal

abbrev pub decreases-level : goal.decreases-level
decreases-level l = 16 * length l.self.now.left + (11 - l.level)

abbrev pub decreases-operand : goal.decreases-operand
decreases-operand l = 16 * length l.self.now.left + 1

abbrev pub decreases-parenthesised : goal.decreases-parenthesised
decreases-parenthesised l = 16 * length l.self.now.left

abbrev pub decreases-prefixed : goal.decreases-prefixed
decreases-prefixed l = 16 * length l.self.now.left + 2

abbrev pub invariant-level-operators : goal.invariant-level-operators
invariant-level-operators l =
    ((next : Part) (parts : List Part) → ahead (Inner l.fields next ∷ parts) l.fn.self ≡ ahead (After l.fields next ∷ parts) l.self) × (next_binding l.self < l.level + 1) × (length l.self.left < length l.fn.self.left) × SpellsLevel l.fields l.level l.fn.self.left l.self.left l.left

abbrev pub decreases-level-operators : goal.decreases-level-operators
decreases-level-operators l = length l.self.left

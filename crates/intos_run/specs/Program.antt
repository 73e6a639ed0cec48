-- The program of a text.
use Rattle.std.specs.Prelude.{ℕ, ◌≤◌, IsTrue, List, length}
use Rattle.thread_tree.specs.declared.tree.Tree.{Tree}
use Rattle.accepted_program.specs.Accepted.{IsAccepted}
use Rattle.served_program.specs.Served.{is_served}

-- The text has at most 65,536 bytes, and this tree of it is accepted and served. A text spells one tree at most
-- (`one_program` of `accepted_program`), so this is the tree of its one program.
pub record IsProgram (text : List ℕ) (tree : Tree) : Type 0 where
  pub short : length text ≤ 65536
  pub accepted : IsAccepted text tree
  pub serves : IsTrue (is_served tree)

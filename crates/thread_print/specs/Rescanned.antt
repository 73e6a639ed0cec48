-- The canonical text has the canonical tokens, and these spell the tree again.
use Rattle.std.specs.Prelude.{ℕ, List}
use Rattle.thread_tree.specs.declared.token.Placed.{Placed}
use Rattle.thread_tree.specs.declared.tree.Tree.{Tree}
use Rattle.thread_tree.specs.Spelling.{Anywhere}
use Rattle.thread_tree.specs.SpellingOfDeclarations.{SpellsProgram, SpellsProgramBy}
use Rattle.thread_tokens.specs.Scan.{after, beginning, scan_of}
use Rattle.thread_tokens.specs.Spelled.{Gives, IsOrderly}
use Rattle.thread_print.specs.Canonical.{canonical}

-- a tree that was read: tokens that a scan may give, with the names of the tree, spell its declarations
pub record IsParsed (tree : Tree) : Type 0 where
  pub tokens : List Placed
  pub orderly : IsOrderly tree.names tokens
  pub spells : SpellsProgram tokens tree.decls

-- a text has the canonical tokens of a tree, and its names
abbrev pub Rescans : Tree → List ℕ → Type 0
Rescans tree text = Gives (canonical tree) tree.names (after beginning text) (scan_of text)

-- the tokens of a text spell the declarations of a tree, but for the places where they stand
abbrev pub Respells : Tree → List ℕ → Type 0
Respells tree text = SpellsProgramBy Anywhere (scan_of text).tokens tree.decls

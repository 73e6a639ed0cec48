-- Which texts are accepted, and as which programs.
use Rattle.std.specs.Prelude.{◌≡◌, ℕ, List, None}
use Rattle.thread_tree.specs.declared.tree.Tree.{Tree}
use Rattle.thread_tree.specs.SpellingOfDeclarations.{SpellsProgram}
use Rattle.thread_tokens.specs.Scan.{scan_of}
use Rattle.thread_text.specs.Verdict.{Fine, verdict}
use Rattle.thread_check.specs.Faults.{fault_of}

-- the bytes are a spelling of the tree, and no bound is passed
pub record IsSpelling (text : List ℕ) (tree : Tree) : Type 0 where
  pub spelled : SpellsProgram (scan_of text).tokens tree.decls
  pub names : tree.names ≡ (scan_of text).names
  pub fine : verdict (scan_of text).tokens (scan_of text).ending ≡ Fine

-- and no rule is broken
pub record IsAccepted (text : List ℕ) (tree : Tree) : Type 0 where
  pub spelling : IsSpelling text tree
  pub checked : fault_of tree ≡ None

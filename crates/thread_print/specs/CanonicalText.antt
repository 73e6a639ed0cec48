-- The canonical text of a tree.
use Rattle.std.specs.Prelude.{ℕ, List, [], ◌∷◌, ◌++◌, map, fold}
use Rattle.std.specs.List.{flat_map, join_with_byte}
use Rattle.thread_tree.specs.declared.name.Name.{Name}
use Rattle.thread_tree.specs.declared.token.Token.{Token}
use Rattle.thread_tree.specs.declared.tree.Tree.{Tree}
use Rattle.thread_tokens.specs.Spelled.{token_text}
use Rattle.thread_print.specs.Canonical.{declaration}

-- a line of tokens, with one space between each two
unfoldable pub line : List Name → List Token → List ℕ
line names tokens = join_with_byte 32 (map (token_text names) tokens) ++ 10 ∷ []

-- the canonical text: a line for each declaration
unfoldable pub text_of : Tree → List ℕ
text_of tree = flat_map (λ decl. line tree.names (declaration decl)) tree.decls

-- a text behind which tokens are written, each after a space
abbrev pub written : List Name → List ℕ → List Token → List ℕ
written names text tokens = fold (λ before token. before ++ 32 ∷ token_text names token) text tokens

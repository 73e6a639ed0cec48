-- What may still become a program.
use Rattle.std.specs.Prelude.{List, [], ◌∷◌, ◌++◌, Option, Some, None}
use Rattle.thread_tree.specs.declared.token.Placed.{Placed}
use Rattle.thread_tree.specs.declared.token.Token.{Token}
use Rattle.thread_tree.specs.declared.tree.Decl.{Decl}
use Rattle.thread_tree.specs.Grammar.{advance}
use Rattle.thread_tree.specs.Parts.{Part}
use Rattle.thread_tree.specs.SpellingOfDeclarations.{SpellsProgram}

-- the tokens without their places
abbrev pub bare : List Placed → List Token
bare [] = []
bare (p ∷ ps) = p.token ∷ bare ps

-- what is owed after these tokens, or `None` where one of them can't stand
abbrev pub owed : List Part → List Token → Option (List Part)
owed parts [] = Some parts
owed parts (t ∷ ts) = elim (advance parts t) [ Some after ↦ owed after ts | None ↦ None ]

-- the tokens spell the declarations of some program
abbrev pub HasProgram : List Placed → Type 0
HasProgram tokens = (ds : List Decl) × SpellsProgram tokens ds

-- some tokens can follow these, so that both together spell a program
abbrev pub MayBecome : List Placed → Type 0
MayBecome front = (rest : List Placed) × HasProgram (front ++ rest)

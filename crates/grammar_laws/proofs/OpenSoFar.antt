-- What it means that the table owes something, or is stuck.
use Rattle.std.proofs.Common.{◌≡◌, List, [], Some, refl}
use Rattle.thread_tree.specs.declared.token.Token.{Token}
use Rattle.thread_tree.specs.Grammar.{IsOpen}
use Rattle.grammar_laws.specs.Open.{owed}
use Rattle.thread_tree.specs.Parts.{Part}
use Rattle.grammar_laws.specs.Shortest.{text_of}
use Rattle.grammar_laws.proofs.Stuck.{pays}
use Rattle.grammar_laws.proofs.Paid.{pays_all}
use Rattle.grammar_laws.proofs.Usual.{owed_usual}

-- tokens that the table takes can go on to a program
pub open_so_far : (front : List Token) (parts : List Part) → owed [] front ≡ Some parts → IsOpen front
open_so_far front parts h = (text_of parts, pays [] parts front (text_of parts) h (pays_all parts (owed_usual [] front parts refl h)))

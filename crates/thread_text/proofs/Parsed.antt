-- A tree that was read has tokens that spell it.
use Rattle.std.proofs.Common.{◌≡◌, ℕ, List, Result, Ok, Err, IfOk}
use Rattle.thread_tree.specs.SpellingOfDeclarations.{SpellsProgram}
use Rattle.thread_tree.specs.declared.tree.Tree.{Tree}
use Rattle.thread_tokens.specs.Scan.{scan_of}
use Rattle.thread_print.specs.Rescanned.{IsParsed}
use Rattle.thread_print.proofs.Callers.{was_read}
use Rattle.thread_text.specs.declared.fault.TextFault.{TextFault}

pub answer_parsed : (text : List ℕ) (answer : Result Tree TextFault) → IfOk answer (λ tree. SpellsProgram (scan_of text).tokens tree.decls) → IfOk answer (λ tree. tree.names ≡ (scan_of text).names) → IfOk answer IsParsed
answer_parsed text (Ok tree) spelled names = was_read text tree spelled names
answer_parsed text (Err fault) spelled names = tt

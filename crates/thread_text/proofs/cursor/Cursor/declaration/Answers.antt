use Rattle.std.proofs.Common.{◌∙◌, sym}
use Rattle.thread_text.proofs.BlockRows.{declares_nothing}
use Rattle.thread_text.proofs.DeclarationRows.{declares_stuck}
use Rattle.thread_text.proofs.cursor.Cursor.declaration.Goals as goal

-- a word that begins no declaration
pub returns-in_default-word-clause-fate : goal.returns-in_default-word-clause-fate
returns-in_default-word-clause-fate c = declares_stuck _ c.in-Some.word (sym c.word.ensures.value ∙ c.in-Some.is) (declares_nothing c.in-Some.word c.in_default-word.not-Type c.in_default-word.not-Object c.in_default-word.not-Queue c.in_default-word.not-Semaphore c.in_default-word.not-Fn c.in_default-word.not-Thread c.in_default-word.not-Start)

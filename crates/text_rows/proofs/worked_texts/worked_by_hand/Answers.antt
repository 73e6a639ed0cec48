use Rattle.std.specs.Fmt.{digits}
use Rattle.thread_print.specs.Canonical.{mark_if}
use Rattle.thread_print.specs.CanonicalText.{line, text_of}
use Rattle.thread_tokens.specs.Spelled.{token_text}
use Rattle.thread_print.proofs.Callers.{block_out, statement_out}
use Rattle.thread_tree.specs.declared.block.Stmt.{out-roll-Stmt}
use Rattle.text_rows.proofs.worked_texts.worked_by_hand.Goals as goal

pub returns : goal.returns
unfolding digits mark_if line text_of token_text
returns c = record {
  sum_of_product = simp (block_out, statement_out, out-roll-Stmt);
  calls_with_pieces = simp (block_out, statement_out, out-roll-Stmt);
}

use Rattle.std.proofs.Common.{◌∙◌, sym, rules, arith}
use Rattle.std.proofs.lemmas.Grind.{common_steps}
use Rattle.thread_tree.specs.declared.token.Word.TheVariants as word
use Rattle.thread_tree.specs.SpellingOfTransactions.{no_tstmts, twhile}
use Rattle.thread_text.proofs.BlockRows.{tstatement_stuck, transacts_nothing}
use Rattle.thread_text.proofs.Layers.{tout_while}
use Rattle.thread_text.proofs.Made.{tblock_made, tif_made}
use Rattle.thread_text.proofs.Sequences.{tstmts_more}
use Rattle.thread_text.proofs.cursor.Cursor.+transactions.Goals as goal

-- a word that begins no statement
pub tstatement-returns-in_default-word : goal.tstatement-returns-in_default-word
tstatement-returns-in_default-word t c = record {
  fate = λ parts. tstatement_stuck parts _ c.in-Some.word (sym c.word.ensures.value ∙ c.in-Some.is) (transacts_nothing c.in-Some.word c.in_default-word.not-Let c.in_default-word.not-Free c.in_default-word.not-If c.in_default-word.not-While c.in_default-word.not-Break c.in_default-word.not-Abort c.in_default-word.not-Give);
  tree = tt;
  shorter = tt;
}

pub tblock-stmts-init : goal.tblock-stmts-init
tblock-stmts-init t c = (search rules, search rules, (c.open_block.new.self.left, c.in_ok-place.ensures.tree, search (rules, no_tstmts)))

pub tblock-stmts-preserved : goal.tblock-stmts-preserved
tblock-stmts-preserved t c = (grind (arith, common_steps), search rules, (c.stmts.invariant.2.0, c.stmts.invariant.2.1, search (rules, tstmts_more)))

pub tblock-returns-clause-tree : goal.tblock-returns-clause-tree
tblock-returns-clause-tree t c = tblock_made _ _ _ _ _ _ c.stmts.invariant.2.1 (search rules) c.close_block.ensures.tree

pub if_tstatement-returns-clause-tree : goal.if_tstatement-returns-clause-tree
if_tstatement-returns-clause-tree t c = tif_made _ _ _ _ _ _ _ _ (c.skip_word.ensures.any word.If c.requires.word) c.in_ok-test.ensures.tree c.in_ok-block.ensures.tree c.in_ok-other.ensures.tree

pub while_tstatement-returns-clause-tree : goal.while_tstatement-returns-clause-tree
while_tstatement-returns-clause-tree t c = twhile (tout_while c.in_ok-test.test c.in_ok-block.block) (c.skip_word.ensures.any word.While c.requires.word) c.in_ok-test.ensures.tree c.in_ok-block.ensures.tree

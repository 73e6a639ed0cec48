use Rattle.std.proofs.Common.{◌∙◌, sym, rules, arith}
use Rattle.std.proofs.lemmas.Grind.{common_steps}
use Rattle.thread_tree.specs.declared.token.Word.TheVariants as word
use Rattle.thread_tree.specs.SpellingOfBlocks.{no_stmts, while_loop, ploop}
use Rattle.thread_text.proofs.BlockRows.{statement_stuck, states_nothing}
use Rattle.thread_text.proofs.Layers.{out_while, out_ploop}
use Rattle.thread_text.proofs.Made.{block_made, if_made}
use Rattle.thread_text.proofs.Sequences.{stmts_more}
use Rattle.thread_text.proofs.cursor.Cursor.+statements.Goals as goal

-- a word that begins no statement
pub statement-returns-in_default-word-clause-fate : goal.statement-returns-in_default-word-clause-fate
statement-returns-in_default-word-clause-fate t c = λ parts. statement_stuck parts _ c.in-Some.word (sym c.word.ensures.value ∙ c.in-Some.is) (states_nothing c.in-Some.word (sym c.in_default-shape.ensures.shape) c.in_default-word.not-Let c.in_default-word.not-If c.in_default-word.not-While c.in_default-word.not-Ploop c.in_default-word.not-Break c.in_default-word.not-Return c.in_default-word.not-Atomic)

pub block-stmts-init : goal.block-stmts-init
block-stmts-init t c = (search rules, search rules, (c.open_block.new.self.left, c.in_ok-place.ensures.tree, search (rules, no_stmts)))

pub block-stmts-preserved : goal.block-stmts-preserved
block-stmts-preserved t c = (grind (arith, common_steps), search rules, (c.stmts.invariant.2.0, c.stmts.invariant.2.1, search (rules, stmts_more)))

pub block-returns-clause-tree : goal.block-returns-clause-tree
block-returns-clause-tree t c = block_made _ _ _ _ _ _ c.stmts.invariant.2.1 (search rules) c.close_block.ensures.tree

pub if_statement-returns-clause-tree : goal.if_statement-returns-clause-tree
if_statement-returns-clause-tree t c = if_made _ _ _ _ _ _ _ _ (c.skip_word.ensures.any word.If c.requires.word) c.in_ok-test.ensures.tree c.in_ok-block.ensures.tree c.in_ok-other.ensures.tree

pub while_statement-returns-clause-tree : goal.while_statement-returns-clause-tree
while_statement-returns-clause-tree t c = while_loop (out_while c.in_ok-test.test c.in_ok-block.block) (c.skip_word.ensures.any word.While c.requires.word) c.in_ok-test.ensures.tree c.in_ok-block.ensures.tree

pub ploop_statement-returns-clause-tree : goal.ploop_statement-returns-clause-tree
ploop_statement-returns-clause-tree t c = ploop (out_ploop c.skip_word-place.result c.in_ok-block.block) (c.skip_word-place.ensures.word word.Ploop c.requires.word) c.in_ok-block.ensures.tree

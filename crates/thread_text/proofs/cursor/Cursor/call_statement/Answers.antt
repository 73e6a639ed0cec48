use Rattle.std.proofs.Common.{rules, sym, subst}
use Rattle.thread_tree.specs.declared.token.Token.TheVariants as token
use Rattle.thread_tree.specs.Spelling.{Takes}
use Rattle.thread_text.proofs.CallRows.{states_call}
use Rattle.thread_text.proofs.cursor.Cursor.call_statement.Goals as goal

pub returns-clause-tree : goal.returns-clause-tree
returns-clause-tree c = c.in_ok-statement.ensures.tree c.args.self.now.left (record {
  behind = c.skip_word-place.new.self.left;
  word = subst (λ w. Takes (token.Word w) c.skip_word-place.result c.args.self.now.left c.skip_word-place.new.self.left) (sym c.in_ok-call.ensures.word) (c.skip_word-place.ensures.word c.args.word c.requires.word);
  operands = c.in_ok-call.ensures.tree;
})

pub returns-in_err-call-clause-fate : goal.returns-in_err-call-clause-fate
returns-in_err-call-clause-fate c = λ parts. rw (states_call parts c.args.self.now c.args.word _ c.requires.word c.requires.shape) (search rules)

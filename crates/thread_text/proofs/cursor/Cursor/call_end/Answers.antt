use Rattle.thread_tree.specs.SpellingOfBlocks.{call}
use Rattle.thread_text.proofs.Layers.{out_call}
use Rattle.thread_text.proofs.cursor.Cursor.call_end.Goals as goal

pub returns-clause-tree : goal.returns-clause-tree
returns-clause-tree c = λ before h. call (out_call c.args.place c.args.call c.in_ok-results.results) h c.in_ok-results.ensures.tree

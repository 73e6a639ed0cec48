use Rattle.thread_tree.specs.SpellingOfCalls.{name_piece, value_piece, whom_piece, items_piece}
use Rattle.thread_text.proofs.cursor.Cursor.filled.Goals as goal

pub returns-in_ok-name-in-Name-clause-tree : goal.returns-in_ok-name-in-Name-clause-tree
returns-in_ok-name-in-Name-clause-tree c = name_piece c.in_ok-name-in-Name.ensures.tree

pub returns-in_ok-value-in-Value-clause-tree : goal.returns-in_ok-value-in-Value-clause-tree
returns-in_ok-value-in-Value-clause-tree c = value_piece c.in_ok-value-in-Value.ensures.tree

pub returns-in_ok-whom-in-Whom-clause-tree : goal.returns-in_ok-whom-in-Whom-clause-tree
returns-in_ok-whom-in-Whom-clause-tree c = whom_piece c.in_ok-whom-in-Whom.ensures.tree

pub returns-in_ok-items-in-Items-clause-tree : goal.returns-in_ok-items-in-Items-clause-tree
returns-in_ok-items-in-Items-clause-tree c = items_piece c.in_ok-items-in-Items.ensures.tree

use Rattle.std.proofs.Common.{rules}
use Rattle.thread_tree.specs.Spelling.{local}
use Rattle.thread_text.proofs.cursor.Cursor.behind_name.Goals as goal

pub returns-then-not-fields-clause-tree : goal.returns-then-not-fields-clause-tree
returns-then-not-fields-clause-tree c = λ before h. search (rules, local)

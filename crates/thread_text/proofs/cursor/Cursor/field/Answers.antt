use Rattle.std.proofs.Common.{rules}
use Rattle.thread_tree.specs.Spelling.{local, member, static, through}
use Rattle.thread_text.proofs.cursor.Cursor.field.Goals as goal

pub returns-then-not-eat-clause-tree : goal.returns-then-not-eat-clause-tree
returns-then-not-eat-clause-tree c = λ before h. search (rules, local)

pub returns-then-not-eat-2-clause-tree : goal.returns-then-not-eat-2-clause-tree
returns-then-not-eat-2-clause-tree c = λ before h. search (rules, member, static)

pub returns-clause-tree : goal.returns-clause-tree
returns-clause-tree c = λ before h. search (rules, member, through)

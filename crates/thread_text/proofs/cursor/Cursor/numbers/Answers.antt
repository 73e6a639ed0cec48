use Rattle.std.proofs.Common.{rules, arith}
use Rattle.std.proofs.lemmas.Grind.{common_steps}
use Rattle.thread_tree.specs.Spelling.{one}
use Rattle.thread_text.proofs.ListRows.{numbers_more, numbers_some}
use Rattle.thread_text.proofs.Sequences.{separated_more}
use Rattle.thread_tree.specs.SpellingOfDeclarations.{no_numbers, numbers}
use Rattle.thread_text.proofs.cursor.Cursor.numbers.Goals as goal

pub returns-then-eat-clause-tree : goal.returns-then-eat-clause-tree
returns-then-eat-clause-tree c = search (rules, no_numbers)

pub numbers-init : goal.numbers-init
numbers-init c = (grind (arith, common_steps, numbers_some), search rules, search (rules, one))

pub numbers-preserved : goal.numbers-preserved
numbers-preserved c = (grind (arith, common_steps, numbers_more), search rules, search (rules, separated_more))

pub returns-clause-tree : goal.returns-clause-tree
returns-clause-tree c = search (rules, numbers)

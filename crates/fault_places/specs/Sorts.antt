-- A used name, by the sort that its place needs. A sort is told here by a declaration of that sort.
use Rattle.std.specs.Prelude.{[], None}
use Rattle.thread_tree.specs.declared.place.At.{At}
use Rattle.thread_tree.specs.declared.place.Num.{Num}
use Rattle.thread_tree.specs.declared.block.Block.{Block, roll-Block}
use Rattle.thread_tree.specs.declared.expr.Expr.TheVariants as expr
use Rattle.thread_tree.specs.declared.tree.Decl.TheVariants as decl
use Rattle.thread_check.specs.Verdict.{Verdict}
use Rattle.thread_check.specs.Scope.{Scope}
use Rattle.thread_check.specs.Names.{Names, sort_of_declaration}
use Rattle.thread_check.specs.Uses.{used}
use Rattle.thread_check.specs.Expressions.{expression}

-- a number and an empty block where a name stands
abbrev pub some_number : At → Num
some_number at = record { value = 0; place = at.place }

abbrev pub some_block : At → Block
some_block at = roll-Block (record { place = at.place; stmts = [] })

-- a name that must be a local, as it must be in an expression
abbrev pub used_as_local : Names → Scope → At → Verdict
used_as_local names scope at = expression names scope (expr.Local at)

-- a name that must be that of a type, an object, a queue, a semaphore, a function, a thread
abbrev pub used_as_kind : Names → Scope → At → Verdict
used_as_kind names scope at = used names scope (sort_of_declaration (decl.Kind at [])) at

abbrev pub used_as_object : Names → Scope → At → Verdict
used_as_object names scope at = used names scope (sort_of_declaration (decl.Object at at)) at

abbrev pub used_as_queue : Names → Scope → At → Verdict
used_as_queue names scope at = used names scope (sort_of_declaration (decl.Queue at (some_number at) None)) at

abbrev pub used_as_semaphore : Names → Scope → At → Verdict
used_as_semaphore names scope at = used names scope (sort_of_declaration (decl.Semaphore at (some_number at) (some_number at))) at

abbrev pub used_as_function : Names → Scope → At → Verdict
used_as_function names scope at = used names scope (sort_of_declaration (decl.Function at [] (some_block at))) at

abbrev pub used_as_thread : Names → Scope → At → Verdict
used_as_thread names scope at = used names scope (sort_of_declaration (decl.Thread at [] (some_number at) (some_block at))) at

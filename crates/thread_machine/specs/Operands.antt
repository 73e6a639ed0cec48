-- The operands of an action and the names that take its results.
use Rattle.std.specs.Prelude.{ℕ, List, [], Option, Some, None}
use Rattle.thread_tree.specs.declared.place.At.{At}
use Rattle.thread_tree.specs.declared.expr.Expr.{Expr}
use Rattle.thread_tree.specs.declared.block.Stmt.TheOpen.{Stmt-F}
use Rattle.thread_tree.specs.declared.block.Stmt.TheOpen as stmt
use Rattle.thread_tree.specs.Kinds.{taking, operands_of_call}

-- the names that take the results of a statement, by its layer
abbrev pub taken_by : {S B : Type 0} → Stmt-F S B → List ℕ
taken_by (stmt.Let at e) = []
taken_by (stmt.Set at e) = []
taken_by (stmt.Apply to callee arguments) = []
taken_by (stmt.If e block other) = []
taken_by (stmt.While e block) = []
taken_by (stmt.Ploop place block) = []
taken_by (stmt.Break place) = []
taken_by (stmt.Return place value) = []
taken_by (stmt.Atomic place to block) = taking to
taken_by (stmt.Call place call to) = taking to

-- the names in a list, if there is one
abbrev pub names_if_some : Option (List At) → List ℕ
names_if_some None = []
names_if_some (Some ats) = taking ats

-- the expressions in a statement that is an action, by its layer
abbrev pub operands_by : {S B : Type 0} → Stmt-F S B → List Expr
operands_by (stmt.Let at e) = []
operands_by (stmt.Set at e) = []
operands_by (stmt.Apply to callee arguments) = []
operands_by (stmt.If e block other) = []
operands_by (stmt.While e block) = []
operands_by (stmt.Ploop place block) = []
operands_by (stmt.Break place) = []
operands_by (stmt.Return place value) = []
operands_by (stmt.Atomic place to block) = []
operands_by (stmt.Call place call to) = operands_of_call call

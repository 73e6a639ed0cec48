-- One expression more of several that break no rule.
use Rattle.std.proofs.Common.{◌≡◌, ℕ, ◌+◌, List, drop, Some, ap, sym, ◌∙◌}
use Rattle.std.specs.List.{slice_get}
use Rattle.std.specs.Prelude.{Ok}
use Rattle.thread_tree.specs.declared.expr.Expr.{Expr}
use Rattle.thread_check.specs.Expressions.{expression, expressions}
use Rattle.thread_check.specs.Names.{Names}
use Rattle.thread_check.specs.Scope.{Scope}
use Rattle.thread_check.specs.Verdict.{◌>>◌}
use Rattle.thread_check.proofs.Steps.{drop_at}

pub one_more : (names : Names) (scope : Scope) (es : List Expr) (i : ℕ) (e : Expr) (u : Unit {0}) → slice_get es i ≡ Some e → expression names scope e ≡ Ok u → expressions names scope (drop (i + 1) es) ≡ expressions names scope (drop i es)
one_more names scope es i e u there fine =
    sym (ap (expressions names scope) (drop_at es i e there) ∙ ap (λ v. v >> expressions names scope (drop (i + 1) es)) fine)

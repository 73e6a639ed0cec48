-- The faults of expressions.
use Rattle.std.specs.Prelude.{List, [], ◌∷◌, ◌++◌}
use Rattle.thread_tree.specs.declared.expr.Expr.{Expr, more_of-Expr, end_of-Expr}
use Rattle.thread_tree.specs.declared.expr.Expr.TheVariants as expr
use Rattle.thread_tree.specs.declared.expr.FieldOf.{FieldOf}
use Rattle.thread_tree.specs.declared.expr.FieldOf.TheVariants as field
use Rattle.thread_check.specs.declared.fault.CheckFault.{CheckFault}
use Rattle.thread_check.specs.Scope.{Scope}
use Rattle.thread_check.specs.Names.{Names, has_field, object_has_field}
use Rattle.thread_check.specs.Expressions.{known}
use Rattle.fault_places.specs.Sorts.{used_as_kind, used_as_local, used_as_object}
use Rattle.fault_places.specs.Found.{found_by}

-- the faults of a field
unfoldable pub field_faults : Names → Scope → FieldOf → List CheckFault
field_faults names scope (field.Static object name) =
    found_by (used_as_object names scope object) ++ found_by (known name (object_has_field names object.name name.name))
field_faults names scope (field.Through local kind name) =
    found_by (used_as_local names scope local)
    ++ (found_by (used_as_kind names scope kind) ++ found_by (known name (has_field names kind.name name.name)))

-- the faults of an expression
abbrev pub expression_faults : Names → Scope → Expr → List CheckFault
expression_faults names scope (expr.Num value) = []
expression_faults names scope (expr.Local at) = found_by (used_as_local names scope at)
expression_faults names scope (expr.Field f) = field_faults names scope f
expression_faults names scope (expr.Prefix' op p (more_of-Expr e end_of-Expr)) = expression_faults names scope e
expression_faults names scope (expr.Binary' op p (more_of-Expr x end_of-Expr) q (more_of-Expr y end_of-Expr)) = expression_faults names scope x ++ expression_faults names scope y

-- the faults of expressions from left to right
abbrev pub expressions_faults : Names → Scope → List Expr → List CheckFault
expressions_faults names scope [] = []
expressions_faults names scope (e ∷ es) = expression_faults names scope e ++ expressions_faults names scope es

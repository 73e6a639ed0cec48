-- The rules for expressions.
use Rattle.std.specs.Prelude.{Bool, if◌then◌else◌, List, [], ◌∷◌, Err}
use Rattle.thread_tree.specs.declared.place.At.{At}
use Rattle.thread_tree.specs.declared.expr.Expr.{Expr, more_of-Expr, end_of-Expr}
use Rattle.thread_tree.specs.declared.expr.Expr.TheVariants as expr
use Rattle.thread_tree.specs.declared.expr.FieldOf.{FieldOf}
use Rattle.thread_tree.specs.declared.expr.FieldOf.TheVariants as field
use Rattle.thread_check.specs.declared.fault.CheckFault.TheVariants.{UnknownName}
use Rattle.thread_check.specs.declared.sort.Sort.TheVariants as sort
use Rattle.thread_check.specs.Verdict.{Verdict, fine, ◌>>◌}
use Rattle.thread_check.specs.Scope.{Scope}
use Rattle.thread_check.specs.Names.{Names, has_field, object_has_field}
use Rattle.thread_check.specs.Uses.{used}

-- a field that isn't one of its type
unfoldable pub known : At → Bool → Verdict
known field found = if found then fine else Err (UnknownName field.place)

-- a field of a static object, or of an object of a type through a local
unfoldable pub field_rule : Names → Scope → FieldOf → Verdict
field_rule names scope (field.Static object name) =
    used names scope sort.Object object >> known name (object_has_field names object.name name.name)
field_rule names scope (field.Through local kind name) =
    used names scope sort.Local local >> used names scope sort.Kind kind >> known name (has_field names kind.name name.name)

-- an expression: its names from left to right
abbrev pub expression : Names → Scope → Expr → Verdict
expression names scope (expr.Num value) = fine
expression names scope (expr.Local at) = used names scope sort.Local at
expression names scope (expr.Field f) = field_rule names scope f
expression names scope (expr.Prefix' op p (more_of-Expr e end_of-Expr)) = expression names scope e
expression names scope (expr.Binary' op p (more_of-Expr x end_of-Expr) q (more_of-Expr y end_of-Expr)) = expression names scope x >> expression names scope y

-- expressions from left to right
abbrev pub expressions : Names → Scope → List Expr → Verdict
expressions names scope [] = fine
expressions names scope (e ∷ es) = expression names scope e >> expressions names scope es

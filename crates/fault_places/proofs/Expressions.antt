-- The faults of expressions: the first of them, and where they are met.
use Rattle.std.proofs.Common.{ℕ, Bool, List, [], ◌∷◌, arith}
use Rattle.thread_tree.specs.declared.expr.Expr.{Expr, more_of-Expr, end_of-Expr}
use Rattle.thread_tree.specs.declared.expr.Expr.TheVariants as expr
use Rattle.thread_tree.specs.declared.expr.FieldOf.{FieldOf}
use Rattle.thread_tree.specs.declared.expr.FieldOf.TheVariants as field
use Rattle.thread_tree.specs.declared.token.Placed.{Placed}
use Rattle.thread_tree.specs.Spelling.{SpellsField, static, through, SpellsLevel, number, local, member, parenthesised, prefixed, binary, tighter, SpellsExpr, Separated, one as one_thing, more}
use Rattle.thread_check.specs.Scope.{Scope}
use Rattle.thread_check.specs.Names.{Names, sort_of_declaration, has_field, object_has_field}
use Rattle.thread_check.specs.Expressions.{known, field_rule, expression, expressions}
use Rattle.fault_places.specs.Sorts.{used_as_local, used_as_kind, used_as_object}
use Rattle.fault_places.specs.OfExpressions.{field_faults, expression_faults, expressions_faults}
use Rattle.fault_places.proofs.Answers.{Finds, one, none, both}
use Rattle.fault_places.proofs.Ways.{in_none, Meets, none_met, then_way, meet, meet_last, skip, then_last}
use Rattle.fault_places.proofs.Steps.{StepsFrom, over, first_step, last_step, step_then}
use Rattle.fault_places.proofs.Places.{used_at, known_at}

module _ (names : Names) (scope : Scope) where
  -- a field
  pub field_finds : (f : FieldOf) → Finds (field_rule names scope f) (field_faults names scope f)
  unfolding field_rule field_faults sort_of_declaration
  field_finds (field.Static object name) =
      both (one (used_as_object names scope object)) (one (known name (object_has_field names object.name name.name)))
  field_finds (field.Through holder kind name) =
      both (one (used_as_local names scope holder)) (both (one (used_as_kind names scope kind)) (one (known name (has_field names kind.name name.name))))

  pub field_met : {a b : List Placed} {f : FieldOf} → SpellsField a b f → Meets a b (field_faults names scope f)
  unfolding field_faults
  field_met (static {object} {member = name} o d m) =
      meet o (used_at names scope _ object) (skip d (meet_last m (known_at name (object_has_field names object.name name.name))))
  field_met (through {local = holder} {kind} {member = name} o d k f m) =
      meet o (used_at names scope _ holder) (skip d (meet k (used_at names scope _ kind) (skip f (meet_last m (known_at name (has_field names kind.name name.name))))))

  -- an expression
  pub expression_finds : (e : Expr) → Finds (expression names scope e) (expression_faults names scope e)
  expression_finds (expr.Num value) = none
  expression_finds (expr.Local at) = one (used_as_local names scope at)
  expression_finds (expr.Field f) = field_finds f
  expression_finds (expr.Prefix' op p (more_of-Expr e end_of-Expr)) = expression_finds e
  expression_finds (expr.Binary' op p (more_of-Expr x end_of-Expr) q (more_of-Expr y end_of-Expr)) = both (expression_finds x) (expression_finds y)

  pub expression_met : {fields : Bool} {level : ℕ} {a b : List Placed} {e : Expr} → SpellsLevel fields level a b e → Meets a b (expression_faults names scope e)
  expression_met (number n) = skip n none_met
  expression_met (local {name} n) = meet_last n (used_at names scope _ name)
  expression_met (member may f) = field_met f
  expression_met (parenthesised o d c) = skip o (then_last (expression_met d) c)
  expression_met (prefixed is o d) = skip o (expression_met d)
  expression_met (binary is d o f) = then_way (expression_met d) (skip o (expression_met f))
  expression_met (tighter d) = expression_met d

  -- its first step
  pub expression_steps : {fields : Bool} {level : ℕ} {a b : List Placed} {e : Expr} → SpellsLevel fields level a b e → StepsFrom a b (expression_faults names scope e)
  unfolding field_faults
  expression_steps (number n) = over n.first (in_none (omega arith)) none_met
  expression_steps (local {name} n) = last_step n (used_at names scope _ name)
  expression_steps (member may (static {object} {member = name} o d m)) =
      first_step o (used_at names scope _ object) (skip d (meet_last m (known_at name (object_has_field names object.name name.name))))
  expression_steps (member may (through {local = holder} {kind} {member = name} o d k f m)) =
      first_step o (used_at names scope _ holder) (skip d (meet k (used_at names scope _ kind) (skip f (meet_last m (known_at name (has_field names kind.name name.name))))))
  expression_steps (parenthesised o d c) = over o.first (in_none (omega arith)) (then_last (expression_met d) c)
  expression_steps (prefixed is o d) = over o.first (in_none (omega arith)) (expression_met d)
  expression_steps (binary is d o f) = step_then (expression_steps d) (skip o (expression_met f))
  expression_steps (tighter d) = expression_steps d

  -- expressions from left to right
  pub expressions_find : (es : List Expr) → Finds (expressions names scope es) (expressions_faults names scope es)
  expressions_find [] = none
  expressions_find (e ∷ es) = both (expression_finds e) (expressions_find es)

  pub expressions_met : {fields : Bool} {a b : List Placed} {es : List Expr} → Separated (SpellsExpr fields) a b es → Meets a b (expressions_faults names scope es)
  expressions_met (one_thing d) = then_way (expression_met d) none_met
  expressions_met (more d c rest) = then_way (expression_met d) (skip c (expressions_met rest))

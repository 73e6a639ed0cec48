-- The table takes what spells an expression.
use Rattle.std.proofs.Common.{◌≡◌, ℕ, ◌≤◌, Bool, true, false, List, [], ◌∷◌, Some, refl, arith}
use Rattle.thread_tree.specs.declared.expr.Expr.{Expr}
use Rattle.thread_tree.specs.declared.expr.FieldOf.{FieldOf}
use Rattle.thread_tree.specs.declared.expr.Op.{Op}
use Rattle.thread_tree.specs.declared.expr.Op.TheVariants.{Not, Flip}
use Rattle.thread_tree.specs.declared.token.Mark.TheVariants as mark
use Rattle.thread_tree.specs.declared.token.Placed.{Placed}
use Rattle.thread_tree.specs.declared.token.Token.{Token}
use Rattle.thread_tree.specs.declared.token.Token.TheVariants as token
use Rattle.thread_tree.specs.Grammar.{turn, Spells, is_mark, is_name, is_number, is_prefix, is_between, mark_number, operand, behind_name, prefixes}
use Rattle.thread_tree.specs.Levels.{level_of}
use Rattle.grammar_laws.specs.Open.{bare}
use Rattle.grammar_laws.specs.Shortest.{follows}
use Rattle.thread_tree.specs.Parts.{Part, TheMark, Expression, Inner, After, Dots, MoreDots}
use Rattle.thread_tree.specs.Spelling.{SpellsField, static, through, SpellsLevel, number, local, member, parenthesised, prefixed, binary, tighter, SpellsExpr}
use Rattle.grammar_laws.proofs.Table.{Wider, beyond, lift, takes_mark, takes_name, placed, go}
use Rattle.grammar_laws.proofs.Ends.{ends}
use Rattle.grammar_laws.proofs.Tags.{is_the_mark, is_the_operator}

-- an operator of a level is one between two operands
between : (op : Op) → 1 ≤ level_of op → is_between (token.Operator op) ≡ true
unfolding is_between prefixes level_of
between Not h = absurd (omega arith)
between Flip h = absurd (omega arith)
between _ h = refl

-- behind an operand the part that stands next may begin, and behind a name or a field what may follow an operand
after_step : (fields : Bool) (next : Part) → follows next ≡ true → Wider next (After fields next)
unfolding turn
after_step fields next f t first e = beyond (is_between t) _ _ (λ h. let o = is_the_operator t h in rw (o.1) ((ends next f).no_operator o.0)) e

dots_step : (next : Part) → follows next ≡ true → Wider (After true next) (Dots next)
unfolding turn is_between
dots_step next f t first e = beyond (is_mark mark.Dot t) _ _ (λ h. rw (is_the_mark mark.Dot t h) (ends next f).no_dot) e

more_dots_step : (next : Part) → follows next ≡ true → Wider (After true next) (MoreDots next)
unfolding turn is_between
more_dots_step next f t first e = beyond (is_mark mark.Dot t) _ _ (λ h. rw (is_the_mark mark.Dot t h) (ends next f).no_dot) e

pub after_ends : {fields : Bool} {next : Part} {parts : List Part} {ts : List Token} → follows next ≡ true → Spells (next ∷ parts) ts → Spells (After fields next ∷ parts) ts
after_ends {fields = fields} {next = next} f s = lift (after_step fields next f) s

pub dots_end : {next : Part} {parts : List Part} {ts : List Token} → follows next ≡ true → Spells (After true next ∷ parts) ts → Spells (Dots next ∷ parts) ts
dots_end {next = next} f s = lift (dots_step next f) s

pub more_dots_end : {next : Part} {parts : List Part} {ts : List Token} → follows next ≡ true → Spells (After true next ∷ parts) ts → Spells (MoreDots next ∷ parts) ts
more_dots_end {next = next} f s = lift (more_dots_step next f) s

-- a name as an operand
behind_end : (fields : Bool) (next : Part) (parts : List Part) (ts : List Token) → follows next ≡ true → Spells (After fields next ∷ parts) ts → Spells (behind_name fields next ∷ parts) ts
unfolding behind_name
behind_end true next parts ts f s = dots_end f s
behind_end false next parts ts f s = s

-- an operator before an operand, and between two
prefix_turns : (fields : Bool) (next : Part) (op : Op) → prefixes op ≡ true → turn (Inner fields next) (token.Operator op) ≡ Some (Inner fields next ∷ [])
unfolding turn operand is_number is_name is_mark is_prefix
prefix_turns fields next op h = rw h

between_turns : (fields : Bool) (next : Part) (op : Op) → is_between (token.Operator op) ≡ true → turn (After fields next) (token.Operator op) ≡ Some (Inner fields next ∷ [])
unfolding turn
between_turns fields next op h = rw h

-- a field as an operand
takes_field : {before after : List Placed} {f : FieldOf} → SpellsField before after f → (next : Part) (parts : List Part) → follows next ≡ true → Spells (After true next ∷ parts) (bare after) → Spells (Inner true next ∷ parts) (bare before)
unfolding turn operand behind_name is_number is_name is_mark mark_number
takes_field (static o d m) next parts f s = go refl (placed o) (go refl d (takes_name m (more_dots_end f s)))
takes_field (through o d k e m) next parts f s = go refl (placed o) (go refl d (takes_name k (go refl e (takes_name m s))))

-- an expression of a level
takes_level : {fields : Bool} {level : ℕ} {before after : List Placed} {e : Expr} → SpellsLevel fields level before after e → 1 ≤ level → (next : Part) (parts : List Part) → follows next ≡ true → Spells (After fields next ∷ parts) (bare after) → Spells (Inner fields next ∷ parts) (bare before)
unfolding turn operand is_number is_name is_mark mark_number
takes_level (number t) h next parts f s = go refl t s
takes_level {fields = fields} (local {after = after} t) h next parts f s = go refl (placed t) (behind_end fields next parts (bare after) f s)
takes_level (member true_fields t) h next parts f s = rw (true_fields) (takes_field t next parts f (rw true_fields at s))
takes_level {fields = fields} (parenthesised o t c) h next parts f s = go refl o (takes_level t (omega arith) (TheMark mark.CloseParenthesis) (After fields next ∷ parts) refl (after_ends refl (takes_mark c s)))
takes_level {fields = fields} (prefixed {op = op} is_one t o) h next parts f s = go (prefix_turns fields next op is_one) t (takes_level o (omega arith) next parts f s)
takes_level {fields = fields} (binary {op = op} is_level left t right) h next parts f s = takes_level left h next parts f (go (between_turns fields next op (between op (rw (is_level) h))) t (takes_level right (omega arith) next parts f s))
takes_level (tighter t) h next parts f s = takes_level t (omega arith) next parts f s

-- an expression where one may be written in parentheses or behind an operator, and one of its own
pub takes_inner : {fields : Bool} {before after : List Placed} {e : Expr} → SpellsExpr fields before after e → (next : Part) (parts : List Part) → follows next ≡ true → Spells (next ∷ parts) (bare after) → Spells (Inner fields next ∷ parts) (bare before)
takes_inner t next parts f s = takes_level t (omega arith) next parts f (after_ends f s)

pub as_inner : (fields : Bool) (next : Part) → Wider (Inner fields next) (Expression fields next)
unfolding turn
as_inner fields next t first e = e

pub takes_expression : {fields : Bool} {before after : List Placed} {e : Expr} → SpellsExpr fields before after e → (next : Part) (parts : List Part) → follows next ≡ true → Spells (next ∷ parts) (bare after) → Spells (Expression fields next ∷ parts) (bare before)
takes_expression {fields = fields} t next parts f s = lift (as_inner fields next) (takes_inner t next parts f s)

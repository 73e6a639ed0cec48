-- An expression is determined by its tokens and one token behind it.
use Rattle.std.proofs.Common.{◌≡◌, ◌+◌, ◌<◌, ℕ, suc, Bool, List, sym, subst, refl, arith}
use Rattle.thread_tree.specs.declared.expr.Expr.{Expr}
use Rattle.thread_tree.specs.declared.expr.Expr.TheVariants as expr
use Rattle.thread_tree.specs.declared.expr.FieldOf.{FieldOf}
use Rattle.thread_tree.specs.declared.expr.FieldOf.TheVariants as field
use Rattle.thread_tree.specs.declared.expr.Op.{Op}
use Rattle.thread_tree.specs.declared.place.At.{At}
use Rattle.thread_tree.specs.declared.token.Mark.{Mark}
use Rattle.thread_tree.specs.declared.token.Mark.TheVariants as mark
use Rattle.thread_tree.specs.declared.token.Placed.{Placed}
use Rattle.thread_tree.specs.declared.token.Token.{Token}
use Rattle.thread_tree.specs.declared.token.Token.TheVariants as token
use Rattle.thread_tree.specs.Expressions as made
use Rattle.thread_tree.specs.Levels.{level_of, binding}
use Rattle.thread_tree.specs.Spelling.{TakesAny, TakesMark, SpellsName, SpellsField, SpellsExpr, static, through}
use Rattle.accepted_program.proofs.Chains.{Operand, Chain, Tail, a_number, a_local, a_field, inner, behind, bare, level, done, next, chain}
use Rattle.accepted_program.proofs.Takes.{any, takes_any, clash, name_one, any_from}

-- no field goes on here
abbrev pub NoDot : List Placed → Type 0
NoDot p = (a : List Placed) → TakesMark mark.Dot p a → ⊥

-- neither a field nor an operator of these levels goes on here
abbrev pub Stops : ℕ → List Placed → Type 0
Stops n p = (t : Token) (a : List Placed) → TakesAny t p a → (binding t + n < 8) × (t ≡ token.Mark mark.Dot → ⊥)

no_dot : {p : List Placed} (n : ℕ) → Stops n p → NoDot p
no_dot n s a h = (s _ a h).1 refl

pub mark_stops : {m : Mark} {p a : List Placed} → (m ≡ mark.Dot → ⊥) → (n : ℕ) → n < 8 → TakesMark m p a → Stops n p
mark_stops {m} apart n low h t b k =
    let same : t ≡ token.Mark m = (takes_any refl k h).0 in
    subst (λ u. (binding u + n < 8) × (u ≡ token.Mark mark.Dot → ⊥)) (sym same) (let free : binding (token.Mark m) ≡ 0 = unfold binding in refl in omega arith, λ e. apart (cc))

operator_stops : {o : Op} {p a : List Placed} (n : ℕ) → level_of o + suc n ≡ 8 → TakesAny (token.Operator o) p a → Stops n p
operator_stops {o} n g h t b k =
    let same : t ≡ token.Operator o = (takes_any refl k h).0 in
    subst (λ u. (binding u + n < 8) × (u ≡ token.Mark mark.Dot → ⊥)) (sym same) (let tied : binding (token.Operator o) ≡ level_of o = unfold binding in refl in omega arith, λ e. cc)

no_next : {o : Op} {p a : List Placed} (n : ℕ) → level_of o + suc n ≡ 8 → TakesAny (token.Operator o) p a → Stops (suc n) p → ⊥
no_next {o} {p} {a} n g h s =
    let low = (s _ a h).0 in
    let tied : binding (token.Operator o) ≡ level_of o = unfold binding in refl in
    omega arith

tail_stops : {fields : Bool} {n : ℕ} {p a : List Placed} {e f : Expr} → Tail fields n p a e f → Stops (suc n) a → Stops n p
tail_stops done s = λ t a h. let k = s t a h in (omega arith, k.1)
tail_stops (next g t d more) s = operator_stops _ g t

number_same : {m n : ℕ} → token.Number m ≡ token.Number n → m ≡ n
number_same e = cc

operator_same : {o u : Op} → token.Operator o ≡ token.Operator u → o ≡ u
operator_same e = cc

-- a field
pub field_first : {p a : List Placed} {f : FieldOf} → SpellsField p a f → (name : At) × (b : List Placed) × SpellsName p b name
field_first (static o d m) = (_, _, o)
field_first (through l d k f m) = (_, _, l)

pub field_one : {p q a b : List Placed} {f g : FieldOf} → p ≡ q → SpellsField p a f → SpellsField q b g → NoDot a → NoDot b → (a ≡ b) × (f ≡ g)
field_one e (static o d m) (static v f n) s r =
    let first = name_one e o v in
    let last = name_one (takes_any first.0 d f).1 m n in
    (last.0, λ i. field.Static (first.1 i) (last.1 i))
field_one e (static o d m) (through v f k g n) s r =
    absurd (s _ (any_from (name_one (takes_any (name_one e o v).0 d f).1 m k).0 g))
field_one e (through v f k g n) (static o d m) s r =
    absurd (r _ (any_from (sym (name_one (takes_any (name_one e v o).0 f d).1 k m).0) g))
field_one e (through o d k g m) (through v f j h n) s r =
    let first = name_one e o v in
    let second = name_one (takes_any first.0 d f).1 k j in
    let last = name_one (takes_any second.0 g h).1 m n in
    (last.0, λ i. field.Through (first.1 i) (second.1 i) (last.1 i))

pub not_field : {p q a b : List Placed} {name : At} {f : FieldOf} → p ≡ q → SpellsName p a name → SpellsField q b f → NoDot a → ⊥
not_field e h (static o d m) s = s _ (any_from (name_one e h o).0 d)
not_field e h (through o d k f m) s = s _ (any_from (name_one e h o).0 d)

mutual
  operand_one : {fields : Bool} {p q a b : List Placed} {x y : Expr} → p ≡ q → Operand fields p a x → Operand fields q b y → Stops 0 a → Stops 0 b → (a ≡ b) × (x ≡ y)
  operand_one e (a_number t) (a_number u) s r = let one = takes_any e t u in (one.1, λ i. expr.Num (number_same one.0 i))
  operand_one e (a_number t) (a_local u) s r = absurd (clash e t (any u) (λ x. cc))
  operand_one e (a_number t) (a_field u) s r = absurd (clash e t (any (field_first u).2) (λ x. cc))
  operand_one e (a_number t) (inner u f g) s r = absurd (clash e t u (λ x. cc))
  operand_one e (a_number t) (behind u f) s r = absurd (clash e t u (λ x. cc))
  operand_one e (a_local t) (a_number u) s r = absurd (clash e (any t) u (λ x. cc))
  operand_one e (a_local t) (a_local u) s r = let one = name_one e t u in (one.0, λ i. expr.Local (one.1 i))
  operand_one e (a_local t) (a_field u) s r = absurd (not_field e t u (no_dot _ s))
  operand_one e (a_local t) (inner u f g) s r = absurd (clash e (any t) u (λ x. cc))
  operand_one e (a_local t) (behind u f) s r = absurd (clash e (any t) u (λ x. cc))
  operand_one e (a_field t) (a_number u) s r = absurd (clash e (any (field_first t).2) u (λ x. cc))
  operand_one e (a_field t) (a_local u) s r = absurd (not_field (sym e) u t (no_dot _ r))
  operand_one e (a_field t) (a_field u) s r = let one = field_one e t u (no_dot _ s) (no_dot _ r) in (one.0, λ i. expr.Field (one.1 i))
  operand_one e (a_field t) (inner u f g) s r = absurd (clash e (any (field_first t).2) u (λ x. cc))
  operand_one e (a_field t) (behind u f) s r = absurd (clash e (any (field_first t).2) u (λ x. cc))
  operand_one e (inner t d c) (a_number u) s r = absurd (clash e t u (λ x. cc))
  operand_one e (inner t d c) (a_local u) s r = absurd (clash e t (any u) (λ x. cc))
  operand_one e (inner t d c) (a_field u) s r = absurd (clash e t (any (field_first u).2) (λ x. cc))
  operand_one e (inner t d c) (inner u f g) s r =
      let first = takes_any e t u in
      let inside = chain_one first.1 d f (mark_stops (λ x. cc) 7 (omega arith) c) (mark_stops (λ x. cc) 7 (omega arith) g) in
      ((takes_any inside.0 c g).1, inside.1)
  operand_one e (inner t d c) (behind u f) s r = absurd (clash e t u (λ x. cc))
  operand_one e (behind t d) (a_number u) s r = absurd (clash e t u (λ x. cc))
  operand_one e (behind t d) (a_local u) s r = absurd (clash e t (any u) (λ x. cc))
  operand_one e (behind t d) (a_field u) s r = absurd (clash e t (any (field_first u).2) (λ x. cc))
  operand_one e (behind t d) (inner u f g) s r = absurd (clash e t u (λ x. cc))
  operand_one e (behind t d) (behind u f) s r =
      let first = takes_any e t u in
      let inside = chain_one first.1 d f s r in
      (inside.0, λ i. made.unary (operator_same first.0 i) (inside.1 i))

  chain_one : {fields : Bool} {n : ℕ} {p q a b : List Placed} {x y : Expr} → p ≡ q → Chain fields n p a x → Chain fields n q b y → Stops n a → Stops n b → (a ≡ b) × (x ≡ y)
  chain_one e (bare o) (bare u) s r = operand_one e o u s r
  chain_one e (level d more) (level f rest) s r =
      let first = chain_one e d f (tail_stops more s) (tail_stops rest r) in
      tail_one first.0 more rest first.1 s r

  tail_one : {fields : Bool} {n : ℕ} {p q a b : List Placed} {v w x y : Expr} → p ≡ q → Tail fields n p a v x → Tail fields n q b w y → v ≡ w → Stops (suc n) a → Stops (suc n) b → (a ≡ b) × (x ≡ y)
  tail_one e done done same s r = (e, same)
  tail_one e done (next g t d more) same s r = absurd (no_next _ g (any_from e t) s)
  tail_one e (next g t d more) done same s r = absurd (no_next _ g (any_from (sym e) t) r)
  tail_one e (next g t d more) (next h u f rest) same s r =
      let first = takes_any e t u in
      let right = chain_one first.1 d f (tail_stops more s) (tail_stops rest r) in
      tail_one right.0 more rest (λ i. made.binary (operator_same first.0 i) (same i) (right.1 i)) s r

-- an expression
pub expr_one : {fields : Bool} {p q a b : List Placed} {x y : Expr} → p ≡ q → SpellsExpr fields p a x → SpellsExpr fields q b y → Stops 7 a → Stops 7 b → (a ≡ b) × (x ≡ y)
expr_one e d f s r = chain_one e (chain d 7 refl) (chain f 7 refl) s r

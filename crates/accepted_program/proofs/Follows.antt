-- What stands behind an expression or a list, and what an expression may begin with.
use Rattle.std.proofs.Common.{◌≡◌, ℕ, Bool, true, false, List, refl, arith}
use Rattle.thread_tree.specs.declared.expr.Expr.{Expr}
use Rattle.thread_tree.specs.declared.expr.Expr.TheVariants as expr
use Rattle.thread_tree.specs.declared.place.At.{At}
use Rattle.thread_tree.specs.declared.token.Mark.{Mark}
use Rattle.thread_tree.specs.declared.token.Mark.TheVariants as mark
use Rattle.thread_tree.specs.declared.token.Placed.{Placed}
use Rattle.thread_tree.specs.declared.token.Token.{Token}
use Rattle.thread_tree.specs.declared.token.Token.TheVariants as token
use Rattle.thread_tree.specs.declared.token.Word.TheVariants as word
use Rattle.thread_tree.specs.Spelling.{TakesAny, TakesMark, SpellsName, SpellsLevel, SpellsExpr, number, local, member, parenthesised, prefixed, binary, tighter}
use Rattle.accepted_program.proofs.Expressions.{NoDot, mark_stops, field_first, expr_one}
use Rattle.accepted_program.proofs.Takes.{any, takes_any}

-- a mark that goes on no field
pub record Followed (p : List Placed) : Type 0 where
  pub found : Mark
  pub after : List Placed
  pub takes : TakesMark found p after
  pub is_no_dot : found ≡ mark.Dot → ⊥

-- such a mark that goes on no list
pub record Closed (p : List Placed) : Type 0 where
  pub followed : Followed p
  pub is_no_comma : followed.found ≡ mark.Comma → ⊥

followed_by : {m : Mark} {p a : List Placed} → TakesMark m p a → (m ≡ mark.Dot → ⊥) → Followed p
followed_by {m} {p} {a} h apart = record { found = m; after = a; takes = h; is_no_dot = apart }

pub comma : {p a : List Placed} → TakesMark mark.Comma p a → Followed p
comma h = followed_by h (λ x. cc)

closed_by : {m : Mark} {p a : List Placed} → TakesMark m p a → (m ≡ mark.Dot → ⊥) → (m ≡ mark.Comma → ⊥) → Closed p
closed_by {m} {p} {a} h dot apart = record { followed = record { found = m; after = a; takes = h; is_no_dot = dot }; is_no_comma = apart }

pub semicolon : {p a : List Placed} → TakesMark mark.Semicolon p a → Closed p
semicolon h = closed_by h (λ x. cc) (λ x. cc)

pub arrow : {p a : List Placed} → TakesMark mark.Arrow p a → Closed p
arrow h = closed_by h (λ x. cc) (λ x. cc)

pub parenthesis : {p a : List Placed} → TakesMark mark.CloseParenthesis p a → Closed p
parenthesis h = closed_by h (λ x. cc) (λ x. cc)

pub opening_parenthesis : {p a : List Placed} → TakesMark mark.OpenParenthesis p a → Closed p
opening_parenthesis h = closed_by h (λ x. cc) (λ x. cc)

pub opening_brace : {p a : List Placed} → TakesMark mark.OpenBrace p a → Closed p
opening_brace h = closed_by h (λ x. cc) (λ x. cc)

pub closing_brace : {p a : List Placed} → TakesMark mark.CloseBrace p a → Closed p
closing_brace h = closed_by h (λ x. cc) (λ x. cc)

pub equals : {p a : List Placed} → TakesMark mark.Equals p a → NoDot p
equals h a k = let same : token.Mark mark.Equals ≡ token.Mark mark.Dot = (takes_any refl h k).0 in cc

pub no_comma : {p a : List Placed} → Closed p → TakesMark mark.Comma p a → ⊥
no_comma c h = c.is_no_comma (let same : token.Mark c.followed.found ≡ token.Mark mark.Comma = (takes_any refl c.followed.takes h).0 in cc)

-- an expression before such a mark
pub expr_before : {fields : Bool} {p q a b : List Placed} {x y : Expr} → p ≡ q → SpellsExpr fields p a x → SpellsExpr fields q b y → Followed a → Followed b → (a ≡ b) × (x ≡ y)
expr_before e d f s r = expr_one e d f (mark_stops s.is_no_dot 7 (omega arith) s.takes) (mark_stops r.is_no_dot 7 (omega arith) r.takes)

-- the name of a local is an expression
pub name_expr : {fields : Bool} {p a : List Placed} {n : At} → SpellsName p a n → SpellsExpr fields p a (expr.Local n)
name_expr h = tighter (tighter (tighter (tighter (tighter (tighter (tighter (local h)))))))

-- whether an expression may begin with the token
unfoldable pub starts : Token → Bool
starts (token.Name _) = true
starts (token.Number _) = true
starts (token.Operator _) = true
starts (token.Mark mark.OpenParenthesis) = true
starts _ = false

pub expr_start : {fields : Bool} {k : ℕ} {p a : List Placed} {x : Expr} → SpellsLevel fields k p a x → (t : Token) × (b : List Placed) × TakesAny t p b × (starts t ≡ true)
unfolding starts
expr_start (number h) = (_, _, h, refl)
expr_start (local h) = (_, _, any h, refl)
expr_start (member h f) = (_, _, any (field_first f).2, refl)
expr_start (parenthesised o d c) = (_, _, o, refl)
expr_start (prefixed i h d) = (_, _, h, refl)
expr_start (binary h l t r) = expr_start l
expr_start (tighter d) = expr_start d

apart_starts : (t u : Token) → t ≡ u → starts t ≡ true → starts u ≡ false → ⊥
apart_starts t u e h k = cc

pub expr_clash : {fields : Bool} {t : Token} {p q a b : List Placed} {x : Expr} → p ≡ q → SpellsExpr fields p a x → TakesAny t q b → starts t ≡ false → ⊥
expr_clash e d h k = let start = expr_start d in apart_starts _ _ (takes_any e start.2 h).0 start.3 k

pub no_new : {fields : Bool} {p q a b : List Placed} {x : Expr} → p ≡ q → SpellsExpr fields p a x → TakesAny (token.Word word.New) q b → ⊥
no_new e d h = expr_clash e d h (unfold starts in refl)

pub no_semicolon : {fields : Bool} {p q a b : List Placed} {x : Expr} → p ≡ q → SpellsExpr fields p a x → TakesMark mark.Semicolon q b → ⊥
no_semicolon e d h = expr_clash e d h (unfold starts in refl)

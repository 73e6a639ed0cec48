-- A list with commas is determined by its tokens and one token behind it.
use Rattle.std.proofs.Common.{◌≡◌, Bool, List, [], ◌∷◌, sym}
use Rattle.thread_tree.specs.declared.expr.Expr.{Expr}
use Rattle.thread_tree.specs.declared.place.At.{At}
use Rattle.thread_tree.specs.declared.place.Num.{Num}
use Rattle.thread_tree.specs.declared.token.Placed.{Placed}
use Rattle.thread_tree.specs.Spelling.{SpellsNames, SpellsNumber, SpellsExpr, Separated, one, more}
use Rattle.accepted_program.proofs.Follows.{Followed, Closed, comma, no_comma, expr_before}
use Rattle.accepted_program.proofs.Takes.{takes_any, any_from, name_one, number_one}

-- what one thing is determined by
abbrev pub IsDetermined : (X : Type 0) → (List Placed → List Placed → X → Type 0) → Type 0
IsDetermined X R = (p q a b : List Placed) (x y : X) → p ≡ q → R p a x → R q b y → Followed a → Followed b → (a ≡ b) × (x ≡ y)

pub separated_one : {X : Type 0} {R : List Placed → List Placed → X → Type 0} {p q a b : List Placed} {xs ys : List X} → IsDetermined X R → p ≡ q → Separated R p a xs → Separated R q b ys → Closed a → Closed b → (a ≡ b) × (xs ≡ ys)
separated_one each e (one d) (one f) s r = let first = each _ _ _ _ _ _ e d f s.followed r.followed in (first.0, λ i. first.1 i ∷ [])
separated_one each e (one d) (more f c rest) s r = absurd (no_comma s (any_from (each _ _ _ _ _ _ e d f s.followed (comma c)).0 c))
separated_one each e (more d c rest) (one f) s r = absurd (no_comma r (any_from (sym (each _ _ _ _ _ _ e d f (comma c) r.followed).0) c))
separated_one each e (more d c rest) (more f g others) s r =
    let first = each _ _ _ _ _ _ e d f (comma c) (comma g) in
    let further = separated_one each (takes_any first.0 c g).1 rest others s r in
    (further.0, λ i. first.1 i ∷ further.1 i)

pub names_one : {p q a b : List Placed} {xs ys : List At} → p ≡ q → SpellsNames p a xs → SpellsNames q b ys → Closed a → Closed b → (a ≡ b) × (xs ≡ ys)
names_one e d f s r = separated_one (λ p q a b x y e h k t u. name_one e h k) e d f s r

pub numbers_one : {p q a b : List Placed} {xs ys : List Num} → p ≡ q → Separated SpellsNumber p a xs → Separated SpellsNumber q b ys → Closed a → Closed b → (a ≡ b) × (xs ≡ ys)
numbers_one e d f s r = separated_one (λ p q a b x y e h k t u. number_one e h k) e d f s r

pub exprs_one : {fields : Bool} {p q a b : List Placed} {xs ys : List Expr} → p ≡ q → Separated (SpellsExpr fields) p a xs → Separated (SpellsExpr fields) q b ys → Closed a → Closed b → (a ≡ b) × (xs ≡ ys)
exprs_one e d f s r = separated_one (λ p q a b x y e h k t u. expr_before e h k t u) e d f s r

-- The worked rows hold.
use Rattle.std.proofs.Common.{◌≡◌, ℕ, Bool, List, [], ◌∷◌, refl, ap}
use Rattle.thread_tree.specs.declared.expr.Expr.{Expr, more_of-Expr, end_of-Expr}
use Rattle.thread_tree.specs.declared.expr.Expr.TheVariants as expr
use Rattle.thread_tree.specs.declared.expr.Op.{Op}
use Rattle.thread_tree.specs.declared.expr.Op.TheVariants as op
use Rattle.thread_tree.specs.declared.place.At.{At}
use Rattle.thread_tree.specs.declared.place.Place.{Place}
use Rattle.thread_tree.specs.Expressions as made
use Rattle.thread_tree.specs.Levels.{level_of}
use Rattle.thread_tree.specs.Spelling.{SpellsExpr, local, binary, tighter}
use Rattle.thread_tree.specs.declared.block.Stmt.{Stmt, out-Stmt}
use Rattle.thread_tree.specs.declared.block.Stmt.TheOpen as stmt
use Rattle.thread_tree.specs.declared.tree.Decl.{Decl}
use Rattle.thread_tree.specs.declared.tree.Decl.TheVariants as decl
use Rattle.accepted_program.specs.Rows.{three}
use Rattle.accepted_program.proofs.Expressions.{Stops, expr_one}

nothing_stops : (n : ℕ) → Stops n []
nothing_stops n t a h = absurd (let none : [] ≡ _ ∷ _ = h.first in cc)

minus_level : level_of op.Minus ≡ 6
unfolding level_of
minus_level = refl

times_level : level_of op.Times ≡ 7
unfolding level_of
times_level = refl

pub left_first : (fields : Bool) (x y z : At) (p q : Place) (e : Expr) → SpellsExpr fields (three x op.Minus p y op.Minus q z) [] e → e ≡ made.binary op.Minus (made.binary op.Minus (expr.Local x) (expr.Local y)) (expr.Local z)
left_first fields x y z p q e h =
    (expr_one refl h
    (tighter (tighter (tighter (tighter (tighter
    (binary {level = 6} minus_level
    (binary {level = 6} minus_level (tighter (tighter (local (record { first = refl })))) (record { place = p; first = refl }) (tighter (local (record { first = refl }))))
    (record { place = q; first = refl })
    (tighter (local (record { first = refl }))))))))) (nothing_stops 7) (nothing_stops 7)).1

pub tighter_first : (fields : Bool) (x y z : At) (p q : Place) (e : Expr) → SpellsExpr fields (three x op.Minus p y op.Times q z) [] e → e ≡ made.binary op.Minus (expr.Local x) (made.binary op.Times (expr.Local y) (expr.Local z))
tighter_first fields x y z p q e h =
    (expr_one refl h
    (tighter (tighter (tighter (tighter (tighter
    (binary {level = 6} minus_level
    (tighter (tighter (local (record { first = refl }))))
    (record { place = p; first = refl })
    (binary {level = 7} times_level (tighter (local (record { first = refl }))) (record { place = q; first = refl }) (local (record { first = refl })))))))))
    (nothing_stops 7) (nothing_stops 7)).1

pub numbers_differ : (m n : ℕ) → expr.Num m ≡ expr.Num n → m ≡ n
numbers_differ m n e = cc

-- the operands of an operator between two
left_of : Expr → Expr
left_of (expr.Binary' op p (more_of-Expr x end_of-Expr) q (more_of-Expr y end_of-Expr)) = x
left_of e = e

right_of : Expr → Expr
right_of (expr.Binary' op p (more_of-Expr x end_of-Expr) q (more_of-Expr y end_of-Expr)) = y
right_of e = e

pub operators_differ : (o u : Op) (a b c d : Expr) → made.binary o a b ≡ made.binary u c d → (o ≡ u) × (a ≡ c) × (b ≡ d)
unfolding left_of right_of
operators_differ o u a b c d e = (cc, ap left_of e, ap right_of e)

pub places_differ : (s t : Stmt) (p q : Place) → s ≡ t → out-Stmt s ≡ stmt.Break p → out-Stmt t ≡ stmt.Break q → p ≡ q
places_differ s t p q e h k = cc

pub names_differ : (a b k l : At) → decl.Object a k ≡ decl.Object b l → (a ≡ b) × (k ≡ l)
names_differ a b k l e = (cc, cc)

pub ends_differ : (d : Decl) (ds : List Decl) → d ∷ ds ≡ [] → ⊥
ends_differ d ds e = cc

-- The expressions in the items of a print.
use Rattle.std.proofs.Common.{◌≡◌, ◌≢◌, ℕ, zero, suc, ◌+◌, ◌-◌, ◌≤◌, List, [], ◌∷◌, ◌++◌, length, drop, Option, Some, None, refl, ap, ◌∙◌, arith}
use Rattle.std.specs.Prelude.{slice_get, flat_map}
use Rattle.std.proofs.lemmas.List.{drop_all}
use Rattle.std.proofs.lemmas.List.Concat.{flat_map-cons}
use Rattle.thread_tree.specs.declared.action.Item.{Item}
use Rattle.thread_tree.specs.declared.expr.Expr.{Expr}
use Rattle.thread_tree.specs.Kinds.{operands_of_item}
use Rattle.thread_machine.proofs.ListLemmas.{drop_at_item}

-- the expression of this number among the items from a place on
unfoldable pub operand_from : List Item → ℕ → ℕ → Option Expr
operand_from items at left = slice_get (flat_map operands_of_item (drop at items)) left

pub operand_from-begin : (items : List Item) (which : ℕ) → operand_from items 0 which ≡ slice_get (flat_map operands_of_item items) which
unfolding operand_from
operand_from-begin items which = refl

operand_step : (items : List Item) (at left : ℕ) (item : Item) → slice_get items at ≡ Some item → operand_from items at left ≡ slice_get (operands_of_item item ++ flat_map operands_of_item (drop (at + 1) items)) left
unfolding operand_from
operand_step items at left item is = ap (λ xs. slice_get (flat_map operands_of_item xs) left) (drop_at_item items at item is) ∙ ap (λ xs. slice_get xs left) (flat_map-cons operands_of_item item (drop (at + 1) items))

pub operand_text : (items : List Item) (at left : ℕ) (item : Item) → slice_get items at ≡ Some item → operands_of_item item ≡ [] → operand_from items at left ≡ operand_from items (at + 1) left
unfolding operand_from
operand_text items at left item is none = operand_step items at left item is ∙ ap (λ xs. slice_get (xs ++ flat_map operands_of_item (drop (at + 1) items)) left) none

pub operand_here : (items : List Item) (at left : ℕ) (item : Item) (e : Expr) → slice_get items at ≡ Some item → operands_of_item item ≡ e ∷ [] → left ≡ 0 → operand_from items at left ≡ Some e
unfolding operand_from
operand_here items at left item e is one none = rw none (operand_step items at 0 item is ∙ ap (λ xs. slice_get (xs ++ flat_map operands_of_item (drop (at + 1) items)) 0) one)

behind_one : (e : Expr) (es : List Expr) (left : ℕ) → left ≢ 0 → slice_get (e ∷ es) left ≡ slice_get es (left - 1)
behind_one e es zero other = absurd (other refl)
behind_one e es (suc n) other = let same : suc n - 1 ≡ n = omega arith in rw same refl

pub operand_behind : (items : List Item) (at left : ℕ) (item : Item) (e : Expr) → slice_get items at ≡ Some item → operands_of_item item ≡ e ∷ [] → left ≢ 0 → operand_from items at left ≡ operand_from items (at + 1) (left - 1)
unfolding operand_from
operand_behind items at left item e is one other = operand_step items at left item is ∙ ap (λ xs. slice_get (xs ++ flat_map operands_of_item (drop (at + 1) items)) left) one ∙ behind_one e (flat_map operands_of_item (drop (at + 1) items)) left other

pub operand_end : (items : List Item) (at left : ℕ) → length items ≤ at → operand_from items at left ≡ None
unfolding operand_from
operand_end items at left past = rw (drop_all at items past) refl

pub ruleset item_laws = (operand_from-begin, operand_text, operand_here, operand_behind, operand_end)

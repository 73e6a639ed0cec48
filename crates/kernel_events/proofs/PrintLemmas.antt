-- The operands of a print, item after item.
use Rattle.std.proofs.Common.{◌≡◌, ℕ, suc, zero, ◌+◌, List, [], ◌∷◌, ◌++◌, length, take, ap, sym, subst, ◌∙◌, arith, Option, Some, None}
use Rattle.std.specs.Prelude.{slice_get, flat_map, IfSome, IsSomeAnd, decimal}
use Rattle.std.proofs.lemmas.List.{append-nil, append_assoc}
use Rattle.thread_tree.specs.declared.action.Item.{Item}
use Rattle.thread_tree.specs.declared.action.Item.TheVariants.{Text, Value}
use Rattle.thread_tree.specs.declared.expr.Expr.{Expr}
use Rattle.thread_tree.specs.declared.local.Local.{Local}
use Rattle.thread_tree.specs.declared.place.Place.{Place}
use Rattle.thread_tree.specs.Kinds.{Action, operands_of_item}
use Rattle.thread_tree.specs.Value.{value_of}
use Rattle.kernel_model.specs.Act.{printed}

-- what follows from what holds of a value
pub some_also : {X : Type 0} (o : Option X) (P Q : X → Type 0) → IsSomeAnd o P → ((x : X) → P x → Q x) → IsSomeAnd o Q
some_also None P Q some follows = some
some_also (Some x) P Q some follows = follows x some

-- the value of an item is the operand behind those of the items before it
pub operand_here : (items : List Item) (at : ℕ) (item : Item) (place : Place) (e : Expr) → slice_get items at ≡ Some item → item ≡ Value place e → slice_get (flat_map operands_of_item items) (length (flat_map operands_of_item (take at items))) ≡ Some e
operand_here [] at item place e here is = cc
operand_here (Text p t ∷ items) zero item place e here is = cc
operand_here (Value p f ∷ items) zero item place e here is = let same : Value p f ≡ Value place e = cc in cc
operand_here (Text p t ∷ items) (suc at) item place e here is = operand_here items at item place e here is
operand_here (Value p f ∷ items) (suc at) item place e here is = operand_here items at item place e here is

-- what holds of a value that there is
holds_of : {X : Type 0} (P : X → Type 0) (o : Option X) (x : X) → o ≡ Some x → IfSome o P → P x
holds_of P None x is some = cc
holds_of P (Some y) x is some = let same : y ≡ x = cc in subst P same some

-- the digits of the operand are the bytes of an item that is a value
pub value_printed : (o : Option Action) (which value : ℕ) (locals : List Local) (item : Item) (place : Place) (e : Expr) → item ≡ Value place e → IsSomeAnd o (λ action. slice_get action.operands which ≡ Some e) → IfSome o (λ action. IfSome (slice_get action.operands which) (λ f. value ≡ value_of locals f)) → decimal value ≡ printed locals item
value_printed None which value locals item place e is some known = absurd some
value_printed (Some action) which value locals item place e is some known =
    let same : value ≡ value_of locals e = holds_of (λ f. value ≡ value_of locals f) (slice_get action.operands which) e some known in
    ap decimal same ∙ ap (printed locals) (sym is)

-- one item more
pub printed_more : {X Y : Type 0} (f : X → List Y) (items : List X) (at : ℕ) (item : X) → slice_get items at ≡ Some item → flat_map f (take (at + 1) items) ≡ flat_map f (take at items) ++ f item
printed_more f [] at item here = cc
printed_more f (x ∷ items) zero item here = let same : x ≡ item = cc in rw same (append-nil (f item))
printed_more f (x ∷ items) (suc at) item here = let e : suc at + 1 ≡ suc (at + 1) = omega arith in rw e (ap (λ rest. f x ++ rest) (printed_more f items at item here) ∙ sym (append_assoc (f x) (flat_map f (take at items)) (f item)))

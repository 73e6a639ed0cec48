use Rattle.std.proofs.Common.{◌≡◌, ℕ, ◌+◌, List, drop, Some, Ok, sym, ◌∙◌, ap}
use Rattle.std.specs.List.{slice_get}
use Rattle.thread_tree.specs.declared.action.Item.{Item}
use Rattle.thread_check.specs.Scope.{Scope}
use Rattle.thread_check.specs.Names.{Names}
use Rattle.thread_check.specs.Verdict.{◌>>◌}
use Rattle.thread_check.specs.Calls.{item_rule, items_rule}
use Rattle.thread_check.proofs.Steps.{drop_at}
use Rattle.thread_check.proofs.names.Names.items.Goals as goal

-- an item without a fault leaves the rest
items_rule-next : (names : Names) (scope : Scope) (count i : ℕ) (items : List Item) (item : Item) (u : Unit {0}) → slice_get items i ≡ Some item → item_rule names scope (count + 1) item ≡ Ok u → items_rule names scope count (drop i items) ≡ items_rule names scope (count + 1) (drop (i + 1) items)
items_rule-next names scope count i items item u there fine =
    ap (items_rule names scope count) (drop_at items i item there) ∙ ap (λ verdict. verdict >> items_rule names scope (count + 1) (drop (i + 1) items)) fine

pub loop-i-preserved : goal.loop-i-preserved
loop-i-preserved c = record {
  few = c.in-Ok.ensures.ok;
  same =
      sym (items_rule-next _ _ c.loop-i.count c.loop-i.i _ _ _ c.get.ensures (sym c.item.ensures.verdict ∙ c.in-Ok.is)) ∙ c.loop-i.invariant.same;
}

use Rattle.std.proofs.Common.{◌≡◌, Some, ℕ, ◌+◌, sym, subst}
use Rattle.std.specs.Prelude.{slice_get}
use Rattle.thread_tree.specs.declared.tree.Tree.{Tree}
use Rattle.kernel_image.proofs.Packed.{IsEnding, IsEnding-start, IsEnding-passed, IsEnding-other}
use Rattle.kernel_image.proofs.statics.first_hole.Goals as goal
use Rattle.kernel_image.proofs.statics.first_hole.Goals.{in-Some, in-None}

pub loop-at-init : goal.loop-at-init
loop-at-init c = IsEnding-start c.args.program.now c.tree.ensures.within

pub loop-at-preserved : goal.loop-at-preserved
loop-at-preserved c = elim c.match-kind_name_in.branch [
  | in-Some w ↦
      subst (λ (n : ℕ). IsEnding c.args.program.now n (c.loop-at.at + 1)) (sym w.next-is)
      (IsEnding-passed c.args.program.now c.loop-at.next c.loop-at.at c.get.result.now _ _ _ c.loop-at.invariant (subst (λ (tree : Tree). slice_get tree.decls c.loop-at.at ≡ Some c.get.result.now) c.tree.ensures.same c.get.ensures) (sym w.in-Some.ensures.name) w.kind_number.ensures.number w.block_size-next.ensures.size w.block_size-next.ensures.few)
  | in-None w ↦
      subst (λ (n : ℕ). IsEnding c.args.program.now n (c.loop-at.at + 1)) (sym w.next-is)
      (IsEnding-other c.args.program.now c.loop-at.next c.loop-at.at c.get.result.now c.loop-at.invariant (subst (λ (tree : Tree). slice_get tree.decls c.loop-at.at ≡ Some c.get.result.now) c.tree.ensures.same c.get.ensures) (sym w.in-None.ensures.name))
]

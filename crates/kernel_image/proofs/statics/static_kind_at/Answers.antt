use Rattle.std.proofs.Common.{◌≡◌, Some, ℕ, ◌+◌, sym, subst, arith}
use Rattle.std.proofs.lemmas.Bool.Decides.{nat_tests}
use Rattle.std.specs.Prelude.{slice_get}
use Rattle.thread_tree.specs.declared.tree.Tree.{Tree}
use Rattle.kernel_image.proofs.Packed.{IsSought, IsSought-start, IsSought-passed, IsSought-other, IsSought-here}
use Rattle.kernel_image.proofs.statics.static_kind_at.Goals as goal
use Rattle.kernel_image.proofs.statics.static_kind_at.Goals.{in-Some+else-next-place, in-None}

pub loop-at-init : goal.loop-at-init
loop-at-init c = IsSought-start c.args.program.now c.args.place c.tree.ensures.within

pub returns-then-next-place-clause-kind : goal.returns-then-next-place-clause-kind
returns-then-next-place-clause-kind c =
    IsSought-here c.args.program.now c.args.place c.loop-at.next c.loop-at.at c.get.result.now c.in-Some.name c.kind_number-kind.result c.loop-at.invariant (subst (λ (tree : Tree). slice_get tree.decls c.loop-at.at ≡ Some c.get.result.now) c.tree.ensures.same c.get.ensures) (sym c.in-Some.ensures.name) c.kind_number-kind.ensures.number c.if-next-place.true

pub loop-at-preserved : goal.loop-at-preserved
loop-at-preserved c = elim c.match-kind_name_in.branch [
  | in-Some+else-next-place w ↦
      subst (λ (n : ℕ). IsSought c.args.program.now c.args.place n (c.loop-at.at + 1)) (sym w.next-is)
      (IsSought-passed c.args.program.now c.args.place c.loop-at.next c.loop-at.at c.get.result.now _ _ _ c.loop-at.invariant (subst (λ (tree : Tree). slice_get tree.decls c.loop-at.at ≡ Some c.get.result.now) c.tree.ensures.same c.get.ensures) (sym w.in-Some.ensures.name) w.kind_number-kind.ensures.number w.block_size-next.ensures.size w.block_size-next.ensures.few (grind (arith, nat_tests)))
  | in-None w ↦
      subst (λ (n : ℕ). IsSought c.args.program.now c.args.place n (c.loop-at.at + 1)) (sym w.next-is)
      (IsSought-other c.args.program.now c.args.place c.loop-at.next c.loop-at.at c.get.result.now c.loop-at.invariant (subst (λ (tree : Tree). slice_get tree.decls c.loop-at.at ≡ Some c.get.result.now) c.tree.ensures.same c.get.ensures) (sym w.in-None.ensures.name))
]

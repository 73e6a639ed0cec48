use Rattle.std.proofs.Common.{◌≡◌, Some, ℕ, ◌+◌, sym, ap, subst, ◌∙◌, arith}
use Rattle.std.specs.Prelude.{slice_get}
use Rattle.kernel_model.specs.Visible.{Object}
use Rattle.thread_tree.specs.declared.tree.Tree.{Tree}
use Rattle.persistent_objects.proofs.StaticLaws.{IsAhead, IsAhead-start, IsAhead-passed, IsAhead-other, IsAhead-here}
use Rattle.persistent_objects.proofs.statics.static_object.Goals as goal
use Rattle.persistent_objects.proofs.statics.static_object.Goals.{in-Some+else-left-eq0, in-None}

pub loop-at-init : goal.loop-at-init
loop-at-init c = IsAhead-start c.args.program.now c.args.number c.tree.ensures.within

pub returns-then-left-eq0-clause-place : goal.returns-then-left-eq0-clause-place
returns-then-left-eq0-clause-place c =
    let now = subst (λ (n : ℕ). IsAhead c.args.program.now c.args.number c.loop-at.next n c.loop-at.at) c.if-left-eq0.true c.loop-at.invariant in
    sym (ap (λ (o : Object). o.place) (IsAhead-here c.args.program.now c.args.number c.loop-at.next c.loop-at.at c.get.result.now c.in-Some.name now (subst (λ (tree : Tree). slice_get tree.decls c.loop-at.at ≡ Some c.get.result.now) c.tree.ensures.same c.get.ensures) (sym c.in-Some.ensures.name)))

pub returns-then-left-eq0-clause-kind : goal.returns-then-left-eq0-clause-kind
returns-then-left-eq0-clause-kind c =
    let now = subst (λ (n : ℕ). IsAhead c.args.program.now c.args.number c.loop-at.next n c.loop-at.at) c.if-left-eq0.true c.loop-at.invariant in
    c.kind_number-kind.ensures.number ∙ sym (ap (λ (o : Object). o.kind) (IsAhead-here c.args.program.now c.args.number c.loop-at.next c.loop-at.at c.get.result.now c.in-Some.name now (subst (λ (tree : Tree). slice_get tree.decls c.loop-at.at ≡ Some c.get.result.now) c.tree.ensures.same c.get.ensures) (sym c.in-Some.ensures.name)))

pub loop-at-preserved : goal.loop-at-preserved
loop-at-preserved c = elim c.match-name_in.branch [
  | in-Some+else-left-eq0 w ↦
      subst (λ (n : ℕ). IsAhead c.args.program.now c.args.number n c.match-name_in.left (c.loop-at.at + 1)) (sym w.next-is)
      (subst (λ (n : ℕ). IsAhead c.args.program.now c.args.number (c.loop-at.next + w.block_size-next.result) n (c.loop-at.at + 1)) (sym w.left-is)
      (IsAhead-passed c.args.program.now c.args.number c.loop-at.next c.loop-at.left c.loop-at.at c.get.result.now _ _ _ c.loop-at.invariant (subst (λ (tree : Tree). slice_get tree.decls c.loop-at.at ≡ Some c.get.result.now) c.tree.ensures.same c.get.ensures) (sym w.in-Some.ensures.name) w.kind_number-kind.ensures.number w.block_size-next.ensures.size w.block_size-next.ensures.few (omega arith)))
  | in-None w ↦
      subst (λ (n : ℕ). IsAhead c.args.program.now c.args.number n c.match-name_in.left (c.loop-at.at + 1)) (sym w.next-is)
      (subst (λ (n : ℕ). IsAhead c.args.program.now c.args.number c.loop-at.next n (c.loop-at.at + 1)) (sym w.left-is)
      (IsAhead-other c.args.program.now c.args.number c.loop-at.next c.loop-at.left c.loop-at.at c.get.result.now c.loop-at.invariant (subst (λ (tree : Tree). slice_get tree.decls c.loop-at.at ≡ Some c.get.result.now) c.tree.ensures.same c.get.ensures) (sym w.in-None.ensures.name)))
]

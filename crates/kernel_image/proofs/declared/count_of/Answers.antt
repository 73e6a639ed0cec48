use Rattle.std.proofs.Common.{ℕ, ◌+◌, arith, subst, sym, ◌∙◌}
use Rattle.kernel_image.specs.Declarations.{is_of}
use Rattle.kernel_image.proofs.Walks.{IsCounted, IsCounted-passed, IsCounted-failed, IsCounted-all}
use Rattle.kernel_image.proofs.declared.count_of.Goals as goal
use Rattle.kernel_image.proofs.declared.count_of.Goals.{then-is_of, else-is_of}

pub loop-at-preserved : goal.loop-at-preserved
loop-at-preserved c = elim c.if-is_of.branch [
  | then-is_of w ↦
      subst (λ (n : ℕ). IsCounted (is_of c.args.sort) c.args.decls.now (c.loop-at.at + 1) n) (sym w.count-is)
      (IsCounted-passed _ _ _ _ _ c.loop-at.invariant c.get.ensures (sym c.is_of.ensures.is ∙ w.if-is_of.true))
  | else-is_of w ↦
      subst (λ (n : ℕ). IsCounted (is_of c.args.sort) c.args.decls.now (c.loop-at.at + 1) n) (sym w.count-is)
      (IsCounted-failed _ _ _ _ _ c.loop-at.invariant c.get.ensures (sym c.is_of.ensures.is ∙ w.if-is_of.false))
]

pub returns : goal.returns
returns c = record { count = IsCounted-all _ _ _ _ (omega arith) c.loop-at.invariant }

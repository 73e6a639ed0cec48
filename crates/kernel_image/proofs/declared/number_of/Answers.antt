use Rattle.std.proofs.Common.{ℕ, ◌+◌, arith, subst, sym, ◌∙◌}
use Rattle.std.proofs.lemmas.Bool.Decides.{nat_tests}
use Rattle.kernel_image.specs.Declarations.{is_of, has_name}
use Rattle.kernel_image.proofs.Walks.{IsPassed, IsPassed-here, IsPassed-other, IsPassed-failed, IsPassed-all}
use Rattle.kernel_image.proofs.declared.number_of.Goals as goal
use Rattle.kernel_image.proofs.declared.number_of.Goals.{then-is_of+else-name_of-name, else-is_of}

pub returns-then-name_of-name : goal.returns-then-name_of-name
returns-then-name_of-name c = record {
  number = IsPassed-here _ _ _ _ _ _ c.loop-at.invariant c.get-decl.ensures (sym c.is_of.ensures.is ∙ c.if-is_of.true) (grind (arith, nat_tests));
}

pub loop-at-preserved : goal.loop-at-preserved
loop-at-preserved c = elim c.if-is_of.branch [
  | then-is_of+else-name_of-name w ↦
      subst (λ (n : ℕ). IsPassed (is_of c.args.sort) (has_name c.args.name) c.args.decls.now (c.loop-at.at + 1) n) (sym w.number-is)
      (IsPassed-other _ _ _ _ _ _ c.loop-at.invariant c.get-decl.ensures (sym c.is_of.ensures.is ∙ w.if-is_of.true) (grind (arith, nat_tests)))
  | else-is_of w ↦
      subst (λ (n : ℕ). IsPassed (is_of c.args.sort) (has_name c.args.name) c.args.decls.now (c.loop-at.at + 1) n) (sym w.number-is)
      (IsPassed-failed _ _ _ _ _ _ c.loop-at.invariant c.get-decl.ensures (sym c.is_of.ensures.is ∙ w.if-is_of.false))
]

pub returns : goal.returns
returns c = record { number = IsPassed-all _ _ _ _ _ (omega arith) c.loop-at.invariant }

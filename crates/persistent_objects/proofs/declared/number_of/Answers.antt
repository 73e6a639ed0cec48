use Rattle.std.proofs.Common.{ℕ, ◌+◌, arith, subst, sym}
use Rattle.std.proofs.lemmas.Bool.Decides.{nat_tests}
use Rattle.persistent_objects.specs.NamesIn.{name_in, is_name}
use Rattle.persistent_objects.proofs.Given.{IsPassed, IsPassed-here, IsPassed-other, IsPassed-none, IsPassed-all}
use Rattle.persistent_objects.proofs.declared.number_of.Goals as goal
use Rattle.persistent_objects.proofs.declared.number_of.Goals.{in-Some+else-other-name, in-None}

pub returns-then-other-name : goal.returns-then-other-name
returns-then-other-name c = record {
  number = IsPassed-here _ _ _ _ _ _ _ c.loop-at.invariant c.get.ensures (sym c.in-Some.ensures.name) (grind (arith, nat_tests));
}

pub loop-at-preserved : goal.loop-at-preserved
loop-at-preserved c = elim c.match-name_in.branch [
  | in-Some+else-other-name w ↦
      subst (λ (n : ℕ). IsPassed (name_in c.args.what) (is_name c.args.name) c.args.decls.now (c.loop-at.at + 1) n) (sym w.number-is)
      (IsPassed-other _ _ _ _ _ _ _ c.loop-at.invariant c.get.ensures (sym w.in-Some.ensures.name) (grind (arith, nat_tests)))
  | in-None w ↦
      subst (λ (n : ℕ). IsPassed (name_in c.args.what) (is_name c.args.name) c.args.decls.now (c.loop-at.at + 1) n) (sym w.number-is)
      (IsPassed-none _ _ _ _ _ _ c.loop-at.invariant c.get.ensures (sym w.in-None.ensures.name))
]

pub returns : goal.returns
returns c = record { number = IsPassed-all _ _ _ _ _ (omega arith) c.loop-at.invariant }

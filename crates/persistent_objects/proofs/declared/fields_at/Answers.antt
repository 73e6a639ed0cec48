use Rattle.std.proofs.Common.{ℕ, ◌+◌, arith, subst, sym, ap}
use Rattle.std.specs.Prelude.{option_map}
use Rattle.kernel_image.specs.Declarations.{kind_in}
use Rattle.persistent_objects.specs.NamesIn.{kind_fields}
use Rattle.persistent_objects.proofs.Given.{IsToCome, IsToCome-here, IsToCome-passed, IsToCome-other, IsToCome-none}
use Rattle.persistent_objects.proofs.declared.fields_at.Goals as goal
use Rattle.persistent_objects.proofs.declared.fields_at.Goals.{in-Some+else-left-eq0, in-None}

pub returns-then-left-eq0 : goal.returns-then-left-eq0
returns-then-left-eq0 c = record {
  fields = IsToCome-here kind_in kind_fields _ _ c.args.kind _ _ (subst (λ (n : ℕ). IsToCome kind_in c.args.decls.now c.loop-at.at n c.args.kind) (omega arith) c.loop-at.invariant) c.get.ensures c.in-Some.ensures.fields;
}

pub loop-at-preserved : goal.loop-at-preserved
loop-at-preserved c = elim c.match-fields_in.branch [
  | in-Some+else-left-eq0 w ↦
      subst (λ (n : ℕ). IsToCome kind_in c.args.decls.now (c.loop-at.at + 1) n c.args.kind) (sym w.left-is)
      (IsToCome-passed kind_in kind_fields _ _ _ _ _ _ c.loop-at.invariant c.get.ensures w.in-Some.ensures.fields (omega arith))
  | in-None w ↦
      subst (λ (n : ℕ). IsToCome kind_in c.args.decls.now (c.loop-at.at + 1) n c.args.kind) (sym w.left-is)
      (IsToCome-other kind_in kind_fields _ _ _ _ _ c.loop-at.invariant c.get.ensures w.in-None.ensures.fields)
]

pub returns : goal.returns
returns c = record { fields = ap (option_map kind_fields) (sym (IsToCome-none kind_in _ _ _ _ (omega arith) c.loop-at.invariant)) }

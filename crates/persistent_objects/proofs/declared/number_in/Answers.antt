use Rattle.std.proofs.Common.{◌≡◌, sym, ◌∙◌, arith}
use Rattle.std.proofs.lemmas.Bool.Decides.{nat_tests}
use Rattle.persistent_objects.proofs.NumberLaws.{IsBefore-here, IsBefore-other, IsBefore-all}
use Rattle.persistent_objects.proofs.declared.number_in.Goals as goal

pub returns-then-get-name : goal.returns-then-get-name
returns-then-get-name c = record { number = IsBefore-here _ _ _ _ c.loop-at.invariant c.get.ensures (grind (arith, nat_tests)) }

pub loop-at-preserved : goal.loop-at-preserved
loop-at-preserved c = IsBefore-other _ _ _ _ c.loop-at.invariant c.get.ensures (grind (arith, nat_tests))

pub returns : goal.returns
returns c =
    let end : c.loop-at.at ≡ c.len.result = omega arith in
    record { number = sym end ∙ IsBefore-all _ _ _ (omega arith) c.loop-at.invariant }

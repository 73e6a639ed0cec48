use Rattle.std.proofs.Common.{refl}
use Rattle.text_bounds.specs.Tally.{tally_of, told, marked, within}
use Rattle.text_bounds.proofs.worked.worked_bounds.Goals as goal

pub returns : goal.returns
unfolding tally_of told marked within
returns c = record { enclosed = refl; called = refl; typed = refl; most = refl; more = refl }

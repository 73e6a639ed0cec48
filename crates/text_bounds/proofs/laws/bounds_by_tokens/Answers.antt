use Rattle.text_bounds.proofs.Induction.{same}
use Rattle.text_bounds.proofs.First.{long, only}
use Rattle.text_bounds.proofs.laws.bounds_by_tokens.Goals as goal

pub returns : goal.returns
returns c = record { same = same; long = long; only = only }

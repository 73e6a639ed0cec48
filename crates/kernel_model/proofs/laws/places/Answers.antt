-- The laws of the places of objects.
use Rattle.kernel_model.proofs.PlaceLaws.{least-free, least-first, least-even}
use Rattle.kernel_model.proofs.StartLemmas.{static_objects-packed, static_objects-kinds}
use Rattle.kernel_model.proofs.laws.places.Goals as goal

pub returns-clause-free : goal.returns-clause-free
returns-clause-free c = least-free

pub returns-clause-first : goal.returns-clause-first
returns-clause-first c = least-first

pub returns-clause-even : goal.returns-clause-even
returns-clause-even c = least-even

pub returns-clause-packed : goal.returns-clause-packed
returns-clause-packed c = static_objects-packed

pub returns-clause-kinds : goal.returns-clause-kinds
returns-clause-kinds c = static_objects-kinds

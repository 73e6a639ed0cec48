-- The laws of the uncut run.
use Rattle.kernel_model.proofs.StartLemmas.{initial-sound}
use Rattle.kernel_model.proofs.ActLemmas.{one-sound}
use Rattle.kernel_model.proofs.RunLaws.{one-counts, on-counts, run-sound, after-zero, after-next}
use Rattle.kernel_model.proofs.StampLaws.{one-stamps, initial-stamps, stamp-past, stamps-apart}
use Rattle.kernel_model.proofs.laws.soundness.Goals as goal

pub returns-clause-initial : goal.returns-clause-initial
returns-clause-initial c = initial-sound

pub returns-clause-kept : goal.returns-clause-kept
returns-clause-kept c = one-sound

pub returns-clause-run : goal.returns-clause-run
returns-clause-run c = run-sound

pub returns-clause-counted : goal.returns-clause-counted
returns-clause-counted c = one-counts

pub returns-clause-run_counted : goal.returns-clause-run_counted
returns-clause-run_counted c = on-counts

pub returns-clause-begins : goal.returns-clause-begins
returns-clause-begins c = after-zero

pub returns-clause-goes_on : goal.returns-clause-goes_on
returns-clause-goes_on c = after-next

pub returns-clause-stamps : goal.returns-clause-stamps
returns-clause-stamps c = one-stamps

pub returns-clause-first_stamp : goal.returns-clause-first_stamp
returns-clause-first_stamp c = initial-stamps

pub returns-clause-past : goal.returns-clause-past
returns-clause-past c = stamp-past

pub returns-clause-apart : goal.returns-clause-apart
returns-clause-apart c = stamps-apart

-- The answers of `settling_laws`.
use Rattle.kernel_calls.proofs.KernelLaws.{stands-again, stands-timed_again, blocks-lives, sleeps-lives, served-settles, stops-changed}
use Rattle.kernel_calls.proofs.laws.settling_laws.Goals as goal

pub returns-clause-again : goal.returns-clause-again
returns-clause-again c = stands-again

pub returns-clause-timed_again : goal.returns-clause-timed_again
returns-clause-timed_again c = stands-timed_again

pub returns-clause-blocks : goal.returns-clause-blocks
returns-clause-blocks c = blocks-lives

pub returns-clause-sleeps : goal.returns-clause-sleeps
returns-clause-sleeps c = sleeps-lives

pub returns-clause-served : goal.returns-clause-served
returns-clause-served c = served-settles

pub returns-clause-stops : goal.returns-clause-stops
returns-clause-stops c = stops-changed

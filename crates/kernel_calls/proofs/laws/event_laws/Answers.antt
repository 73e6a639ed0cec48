-- The answers of `event_laws`.
use Rattle.kernel_calls.proofs.EventLaws.{begins, all_held, begins_all, open_held, all_open_held, arrives, stands_again}
use Rattle.kernel_calls.proofs.laws.event_laws.Goals as goal

pub returns-clause-begins : goal.returns-clause-begins
returns-clause-begins c = begins

pub returns-clause-all_held : goal.returns-clause-all_held
returns-clause-all_held c = all_held

pub returns-clause-begins_all : goal.returns-clause-begins_all
returns-clause-begins_all c = begins_all

pub returns-clause-open_held : goal.returns-clause-open_held
returns-clause-open_held c = open_held

pub returns-clause-all_open_held : goal.returns-clause-all_open_held
returns-clause-all_open_held c = all_open_held

pub returns-clause-arrives : goal.returns-clause-arrives
returns-clause-arrives c = arrives c.standing_laws.ensures.opened

pub returns-clause-stands_again : goal.returns-clause-stands_again
returns-clause-stands_again c = stands_again

-- The laws of waking.
use Rattle.kernel_model.proofs.AwaitLaws.{first-calls}
use Rattle.kernel_model.proofs.WakingLaws as waking
use Rattle.kernel_model.proofs.laws.waking.Goals as goal

pub returns-clause-none : goal.returns-clause-none
returns-clause-none c = waking.woken-none

pub returns-clause-asleep : goal.returns-clause-asleep
returns-clause-asleep c = waking.woken-asleep

pub returns-clause-finished : goal.returns-clause-finished
returns-clause-finished c = waking.woken-some

pub returns-clause-begins : goal.returns-clause-begins
returns-clause-begins c = waking.rows-begin

pub returns-clause-in_turn : goal.returns-clause-in_turn
returns-clause-in_turn c = waking.rows-in_turn

pub returns-clause-all : goal.returns-clause-all
returns-clause-all c = waking.rows-all

pub returns-clause-tick : goal.returns-clause-tick
returns-clause-tick c = waking.rows-tick

pub returns-clause-ticks : goal.returns-clause-ticks
returns-clause-ticks c = waking.rows-ticks

pub returns-clause-stamps : goal.returns-clause-stamps
returns-clause-stamps c = waking.rows-stamps

pub returns-clause-later : goal.returns-clause-later
returns-clause-later c = waking.rows-later

pub returns-clause-kept : goal.returns-clause-kept
returns-clause-kept c = waking.rows-kept

pub returns-clause-first_awaited : goal.returns-clause-first_awaited
returns-clause-first_awaited c = first-calls

pub returns-clause-nobody : goal.returns-clause-nobody
returns-clause-nobody c = waking.rows-nobody

pub returns-clause-least : goal.returns-clause-least
returns-clause-least c = λ p K t thread results within lives due none. waking.rows-least p K t thread results lives due none within

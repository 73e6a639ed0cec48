use Rattle.accepted_program.proofs.WorkedRows.{left_first, tighter_first, operators_differ}
use Rattle.accepted_program.proofs.worked.worked_rows.Goals as goal

pub returns-clause-left_first : goal.returns-clause-left_first
returns-clause-left_first c = left_first

pub returns-clause-tighter_first : goal.returns-clause-tighter_first
returns-clause-tighter_first c = tighter_first

pub returns-clause-operators_differ : goal.returns-clause-operators_differ
returns-clause-operators_differ c = operators_differ

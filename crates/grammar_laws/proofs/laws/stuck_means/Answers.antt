use Rattle.grammar_laws.proofs.CompletePrograms.{complete}
use Rattle.grammar_laws.proofs.OpenSoFar.{open_so_far}
use Rattle.grammar_laws.proofs.Stuck.{stuck_begins_none, owing_is_none}
use Rattle.grammar_laws.proofs.laws.stuck_means.Goals as goal

pub returns : goal.returns
returns c = record { complete = complete; opens = open_so_far; stuck = stuck_begins_none; unpaid = owing_is_none }

-- Sets of laws, by the functions that use them.
use Rattle.ready_delay_lists.proofs.BestLaws.{best_start, best_passed, best_first, best_kept, best_better, best_ready}

-- for the best of the first rows
pub ruleset best_laws = (best_start, best_passed, best_first, best_kept, best_better, best_ready)

-- What the crates above may cite of these proofs: laws, and sets of laws for `using`.
pub use Rattle.replay_list.proofs.BothLaws.{both_get_or, both_length, both_set}
pub use Rattle.replay_list.proofs.LifeLaws.{agrees_recorded, agrees_ended}
pub use Rattle.replay_list.proofs.RowLaws.{row_live}
pub use Rattle.replay_list.proofs.CountLaws.{results_told}
pub use Rattle.replay_list.proofs.ShownLaws.{shows_parts, rows_agree}
use Rattle.replay_list.proofs.BothLaws.{both_get, both_set_right, both_weaker, both_map}
use Rattle.replay_list.proofs.LifeLaws.{encoded_more, life_more, life_kept}
use Rattle.replay_list.proofs.CountLaws.{counts_records}
use Rattle.replay_list.proofs.RowLaws.{context_live, context_served, context_ended, records_live}
use Rattle.replay_list.proofs.KeptLaws.{kept_at_rest, kept_durable, kept_counter}

-- two lists, element by element
pub ruleset both_laws = (both_length, both_get, both_get_or, both_set, both_set_right, both_weaker, both_map)

-- from the parts of an image to what it shows
pub ruleset shown_laws = (rows_agree, shows_parts)

-- the life of a row, and that it agrees
pub ruleset life_laws = (encoded_more, life_more, life_kept, agrees_recorded, agrees_ended)

-- the records of a live thread
pub ruleset count_laws = (counts_records, records_live)

-- the rows and the contexts of live threads
pub ruleset row_laws = (row_live, context_live, context_served, context_ended)

-- kept words
pub ruleset kept_laws = (kept_at_rest, kept_durable, kept_counter)

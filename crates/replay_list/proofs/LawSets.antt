-- Sets of laws, by what they are for.
use Rattle.kernel_image.proofs.Callers.{row_at-decoded}
use Rattle.replay_list.proofs.WordLaws.{record_word_at, record_words_many, words_more}
use Rattle.replay_list.proofs.ValueLaws.{values_more}
use Rattle.replay_list.proofs.RecordLaws.{counted_none, counted_more, counted_all}

-- for reading words of the records
pub ruleset word_laws = (record_word_at, record_words_many, words_more)

-- for reading start values
pub ruleset value_laws = (values_more)

-- for counting records
pub ruleset count_laws = (row_at-decoded, record_words_many, counted_none, counted_more, counted_all)

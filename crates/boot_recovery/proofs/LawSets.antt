-- Sets of laws, by the functions that use them.
use Rattle.boot_recovery.proofs.RowLaws.{words_more}
use Rattle.boot_recovery.proofs.KeptLaws.{written_formatted}

-- for words that are read one after another
pub ruleset word_laws = (words_more)

-- for the last write of formatting
pub ruleset formatting_laws = (written_formatted)

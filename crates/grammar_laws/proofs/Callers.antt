-- What the crates above may cite of these proofs: that the table and the trees have one language, and what a test of a
-- token tells of it.
pub use Rattle.grammar_laws.proofs.CompletePrograms.{complete}
pub use Rattle.grammar_laws.proofs.SoundPrograms.{sound, owing_nothing, opened}
pub use Rattle.grammar_laws.proofs.Stuck.{bare_append, Left, left, pays, pays_rest, stuck_begins_none, owing_is_none}
pub use Rattle.grammar_laws.proofs.OneRefusal.{one_refused}
pub use Rattle.grammar_laws.proofs.Tags.{same_mark, same_word, is_the_mark, is_the_word}

use Rattle.thread_text.proofs.Taken.{word_took, word_took_any, some_next}
use Rattle.thread_text.proofs.cursor.Cursor.skip_word.Goals as goal

pub skip-requires : goal.skip-requires
skip-requires c = record { some = some_next c.args.self.now c.requires.some }

pub returns-clause-word : goal.returns-clause-word
returns-clause-word c = λ w h. word_took c.args.self.now _ _ w h c.skip.ensures.taken

pub returns-clause-any : goal.returns-clause-any
returns-clause-any c = λ w h. word_took_any c.args.self.now _ _ w h c.skip.ensures.taken

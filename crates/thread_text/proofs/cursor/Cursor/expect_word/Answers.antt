use Rattle.std.proofs.Common.{◌≡◌, true}
use Rattle.thread_text.specs.Fate.{sees_word}
use Rattle.thread_text.proofs.Taken.{word_takes, word_any}
use Rattle.thread_text.proofs.cursor.Cursor.expect_word.Goals as goal

pub returns-clause-taken : goal.returns-clause-taken
returns-clause-taken c =
    let h : sees_word c.args.word c.args.self.now ≡ true = cc in
    word_takes c.args.self.now _ _ _ h c.skip.ensures.taken

pub returns-clause-any : goal.returns-clause-any
returns-clause-any c =
    let h : sees_word c.args.word c.args.self.now ≡ true = cc in
    word_any c.args.self.now _ _ _ h c.skip.ensures.taken

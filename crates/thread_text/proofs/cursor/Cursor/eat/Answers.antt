use Rattle.std.proofs.Common.{◌≡◌, true}
use Rattle.thread_text.specs.Fate.{sees}
use Rattle.thread_text.proofs.Taken.{mark_any}
use Rattle.thread_text.proofs.cursor.Cursor.eat.Goals as goal

pub returns-clause-taken : goal.returns-clause-taken
returns-clause-taken c =
    let h : sees c.args.mark c.args.self.now ≡ true = cc in
    λ _. mark_any c.args.self.now _ _ _ h c.skip.ensures.taken

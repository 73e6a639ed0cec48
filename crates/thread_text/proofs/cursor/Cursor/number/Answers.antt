use Rattle.std.proofs.Common.{◌≡◌, Some}
use Rattle.thread_text.specs.Fate.{next_of}
use Rattle.thread_text.specs.Kinds.{number_in}
use Rattle.thread_text.proofs.Taken.{number_takes}
use Rattle.thread_text.proofs.cursor.Cursor.number.Goals as goal

pub returns-clause-tree : goal.returns-clause-tree
returns-clause-tree c =
    let h : next_of number_in c.args.self.now ≡ Some c.in-Some.value = cc in
    number_takes c.args.self.now _ _ _ h c.skip.ensures.taken

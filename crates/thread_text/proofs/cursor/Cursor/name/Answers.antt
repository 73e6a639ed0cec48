use Rattle.std.proofs.Common.{◌≡◌, Some}
use Rattle.thread_text.specs.Fate.{next_of}
use Rattle.thread_text.specs.Kinds.{name_in}
use Rattle.thread_text.proofs.Taken.{name_takes}
use Rattle.thread_text.proofs.cursor.Cursor.name.Goals as goal

pub returns-clause-tree : goal.returns-clause-tree
returns-clause-tree c =
    let h : next_of name_in c.args.self.now ≡ Some c.in-Some.name = cc in
    name_takes c.args.self.now _ _ _ h c.skip.ensures.taken

use Rattle.persistent_heap.proofs.Taken.{used_up}
use Rattle.persistent_heap.proofs.taking.use_up.Goals as goal

pub returns-clause-taken : goal.returns-clause-taken
returns-clause-taken g c =
    used_up _ c.args.words c.args.link c.args.hole c.requires.heap c.requires.fits _ _ c.requires.whole c.heap_word-next.ensures.word c.in_ok-store_link.ensures.stored

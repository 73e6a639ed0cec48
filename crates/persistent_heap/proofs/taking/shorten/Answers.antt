use Rattle.persistent_heap.proofs.Taken.{shortened}
use Rattle.persistent_heap.proofs.taking.shorten.Goals as goal

pub returns-clause-taken : goal.returns-clause-taken
returns-clause-taken g c =
    shortened _ c.args.words c.args.link c.args.hole c.requires.heap c.requires.fits _ _ c.requires.even c.requires.larger c.heap_word-next.ensures.word c.in_ok-insert.ensures.stored

-- A block with room for its record, and one without.
use Rattle.std.proofs.Common.{rules, ◌≡◌, ◌+◌, arith}
use Rattle.thread_tree.specs.Program.{program_of}
use Rattle.thread_machine.specs.declared.next.Next.TheVariants.{Action}
use Rattle.kernel_image.specs.Decoded.{image_in, row_at, with_row}
use Rattle.kernel_model.specs.declared.event.Event.TheVariants.{Step}
use Rattle.kernel_model.specs.Kernel.{State, Thread}
use Rattle.kernel_model.specs.Run.{one}
use Rattle.replay_list.specs.Stands.{KernelStands}
use Rattle.kernel_events.specs.Follows.{Arrives}
use Rattle.kernel_events.proofs.ArriveLaws.{few-used}
use Rattle.kernel_events.proofs.BlockEndLaws.{stands-no_room}
use Rattle.kernel_events.proofs.ResultLaws.{ok_one}
use Rattle.kernel_events.proofs.blocks.block_event.Goals as goal

pub overflow_add-words_used : goal.overflow_add-words_used
overflow_add-words_used g c =
    let a = c.requires.arrives in
    let few = few-used (program_of c.args.program.now) (image_in (g.N.Nv.words c.args.tx)) c.args.contexts.now a.0 c.args.thread a.1 c.args.ctx (Action c.args.number) a.2 in
    search (rules, few, c.words_used.ensures.used)

pub overflow_add-words_used-2 : goal.overflow_add-words_used-2
overflow_add-words_used-2 g c =
    let a = c.requires.arrives in
    let few = few-used (program_of c.args.program.now) (image_in (g.N.Nv.words c.args.tx)) c.args.contexts.now a.0 c.args.thread a.1 c.args.ctx (Action c.args.number) a.2 in
    search (rules, few, c.words_used.ensures.used, c.given_by-given.ensures.given, c.requires.few)

pub returns-then-words_used-given-gt-RECORD_WORDS-clause-happened :
    goal.returns-then-words_used-given-gt-RECORD_WORDS-clause-happened
returns-then-words_used-given-gt-RECORD_WORDS-clause-happened g c =
    let p = program_of c.args.program.now in
    let d = image_in (g.N.Nv.words c.args.tx) in
    let t = c.args.thread in
    let h = c.requires.here in
    ok_one c.stop.result
    (λ next. image_in (g.N.Nv.words next) ≡ with_row (record d { events = d.events + 1 }) t (record (row_at d t) { state = 4; code = 4 }))
    (λ next. (K : State) (runner : Thread) → Arrives p d c.args.contexts.now K t runner c.args.ctx (Action c.args.number) → KernelStands p (image_in (g.N.Nv.words next)) c.args.contexts.now (one p K Step))
    c.stop.ensures.stopped
    (λ next image K runner a.
    stands-no_room p d c.args.contexts.now K t runner c.args.ctx c.args.number h.0 h.1 c.args.to.now h.2 (image_in (g.N.Nv.words next)) c.soundness.ensures.kept c.tree.ensures.within a h.3 h.4 (omega (arith, c.words_used.ensures.used, c.given_by-given.ensures.given, c.if-words_used-given-gt-RECORD_WORDS.true)) image)

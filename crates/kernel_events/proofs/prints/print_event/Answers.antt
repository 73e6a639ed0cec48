-- A print with room for its record, and one without.
use Rattle.std.proofs.Common.{rules, ◌≡◌, ◌+◌, Some, arith, ap, sym, ◌∙◌, subst}
use Rattle.std.specs.Prelude.{slice_set}
use Rattle.kernel_image.specs.Decoded.{image_in, row_at, with_row}
use Rattle.kernel_model.specs.Kernel.{State, Thread}
use Rattle.thread_tree.specs.Kinds.{action_layer, taking}
use Rattle.thread_tree.specs.Program.{program_of}
use Rattle.thread_machine.specs.declared.next.Next.TheVariants.{Action}
use Rattle.kernel_events.specs.Follows.{Arrives}
use Rattle.kernel_model.specs.declared.event.Event.TheVariants.{Step}
use Rattle.kernel_model.specs.Run.{one}
use Rattle.replay_list.specs.Stands.{KernelStands}
use Rattle.kernel_events.proofs.ArriveLaws.{used-is, few-used, few-console, action-is, print-needs, stands-full, stands-print}
use Rattle.kernel_events.proofs.ResultLaws.{ok_one}
use Rattle.kernel_events.proofs.prints.print_event.Goals as goal

pub overflow_add-words_used : goal.overflow_add-words_used
overflow_add-words_used g c =
    let a = c.requires.arrives in
    let few = few-used (program_of c.args.program.now) (image_in (g.N.Nv.words c.args.tx)) c.args.contexts.now a.0 c.args.thread a.1 c.args.ctx (Action c.args.number) a.2 in
    search (rules, few, c.words_used.ensures.used)

pub returns-then-words_used-gt-RECORD_WORDS-clause-happened : goal.returns-then-words_used-gt-RECORD_WORDS-clause-happened
returns-then-words_used-gt-RECORD_WORDS-clause-happened g c =
    let p = program_of c.args.program.now in
    let d = image_in (g.N.Nv.words c.args.tx) in
    let t = c.args.thread in
    let h = c.requires.here in
    ok_one c.stop.result
    (λ next. image_in (g.N.Nv.words next) ≡ with_row (record d { events = d.events + 1 }) t (record (row_at d t) { state = 4; code = 4 }))
    (λ next. (K : State) (runner : Thread) → Arrives p d c.args.contexts.now K t runner c.args.ctx (Action c.args.number) → KernelStands p (image_in (g.N.Nv.words next)) c.args.contexts.now (one p K Step))
    c.stop.ensures.stopped
    (λ next image K runner a.
    let used = used-is p d c.args.contexts.now K t runner c.args.ctx (Action c.args.number) a in
    let needs = print-needs p t runner h.0 h.1 c.args.items.now h.2 h.4 in
    stands-full p d c.args.contexts.now K t runner c.args.ctx c.args.number h.0 (image_in (g.N.Nv.words next)) c.soundness.ensures.kept c.tree.ensures.within a h.3 (omega (arith, used, needs, c.words_used.ensures.used, c.if-words_used-gt-RECORD_WORDS.true)) image)

pub print-requires-clause-action : goal.print-requires-clause-action
print-requires-clause-action g c =
    let a = c.requires.arrives in
    let h = c.requires.here in
    (taking h.2, action-is (program_of c.args.program.now) (image_in (g.N.Nv.words c.args.tx)) c.args.contexts.now a.0 c.args.thread a.1 c.args.ctx c.args.number h.0 a.2 h.3 ∙ ap (action_layer (program_of c.args.program.now)) h.4)

pub print-requires-clause-console : goal.print-requires-clause-console
print-requires-clause-console g c =
    let a = c.requires.arrives in
    few-console (program_of c.args.program.now) (image_in (g.N.Nv.words c.args.tx)) c.args.contexts.now a.0 c.args.thread a.1 c.args.ctx (Action c.args.number) a.2

pub returns-clause-happened : goal.returns-clause-happened
returns-clause-happened g c =
    let p = program_of c.args.program.now in
    let d = image_in (g.N.Nv.words c.args.tx) in
    let t = c.args.thread in
    let h = c.requires.here in
    ok_one c.commit.result
    (λ next. image_in (g.N.Nv.words next) ≡ image_in (g.N.Nv.words c.print.new.tx))
    (λ next. (K : State) (runner : Thread) → Arrives p d c.args.contexts.now K t runner c.args.ctx (Action c.args.number) → KernelStands p (image_in (g.N.Nv.words next)) c.set.new.self (one p K Step))
    c.commit.ensures.image
    (λ next image K runner a.
    subst (λ contexts. KernelStands p (image_in (g.N.Nv.words next)) contexts (one p K Step)) (sym c.set.ensures.put)
    (subst (λ image. KernelStands p image (slice_set c.args.contexts.now t (Some c.print.new.ctx)) (one p K Step)) (sym image)
    (stands-print p d c.args.contexts.now K t runner c.args.ctx c.args.number h.0 h.1 c.args.items.now h.2 (image_in (g.N.Nv.words c.print.new.tx)) c.print.new.ctx (c.standing_laws.ensures.served p) c.soundness.ensures.kept c.tree.ensures.within a h.3 h.4 (search (rules, c.words_used.ensures.used)) (search rules) (search rules))))

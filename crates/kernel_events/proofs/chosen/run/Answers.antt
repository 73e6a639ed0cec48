-- The chosen thread has its context, and where it arrives the event follows the step.
use Rattle.std.proofs.Common.{◌≡◌, ◌+◌, ◌<◌, sym, subst, ◌∙◌, Some, None, arith}
use Rattle.std.specs.Prelude.{slice_set}
use Rattle.thread_tree.specs.Ahead.{most_moves}
use Rattle.thread_tree.specs.Program.{program_of}
use Rattle.thread_machine.specs.declared.next.Next.TheVariants.{Action, Finished, Watchdog}
use Rattle.thread_machine.specs.Context.{local_of}
use Rattle.kernel_image.specs.Decoded.{image_in, row_at, with_row}
use Rattle.kernel_model.specs.declared.event.Event.TheVariants.{Step}
use Rattle.kernel_model.specs.Kernel.{State, Thread}
use Rattle.kernel_model.specs.Order.{chosen}
use Rattle.kernel_model.specs.Run.{one}
use Rattle.replay_list.specs.Stands.{KernelStands}
use Rattle.kernel_events.specs.Follows.{Arrives}
use Rattle.kernel_events.proofs.ArriveLaws.{ahead-moves, arrives-at, chosen-context, chosen-has, stands-finished, stands-watchdog}
use Rattle.kernel_events.proofs.ResultLaws.{ok_one}
use Rattle.kernel_events.proofs.chosen.run.Goals as goal

pub ahead-requires : goal.ahead-requires
ahead-requires g c =
    let p = program_of c.args.program.now in
    let d = image_in (g.N.Nv.words c.args.tx) in
    let h = c.requires.stands in
    record {
      context = (chosen-context p d c.args.contexts.now h.0 c.args.thread c.in-Some.ctx c.order.ensures.passes (c.standing_laws.ensures.context p) h.1 h.3 (sym c.take.ensures.taken ∙ c.in-Some.is)).3.context;
    }

pub act-requires-clause-arrives : goal.act-requires-clause-arrives
act-requires-clause-arrives g c =
    let p = program_of c.args.program.now in
    let d = image_in (g.N.Nv.words c.args.tx) in
    let h = c.requires.stands in
    let has = arrives-at p d c.args.contexts.now h.0 c.args.thread c.in-Some.ctx c.ahead.new.self (Action c.in-Action.number) c.order.ensures.passes (c.standing_laws.ensures.context p) h.1 h.2 h.3 (sym c.take.ensures.taken ∙ c.in-Some.is) c.ahead.ensures.moved c.in-Action.ensures.arrived c.ahead.ensures.context in
    (h.0, has.0, subst (λ contexts. Arrives p d contexts h.0 c.args.thread has.0 c.ahead.new.self (Action c.in-Action.number)) (sym c.take.ensures.left) has.1)

pub unreachable-requires : goal.unreachable-requires
unreachable-requires g c =
    let p = program_of c.args.program.now in
    let h = c.requires.stands in
    chosen-has p (image_in (g.N.Nv.words c.args.tx)) c.args.contexts.now h.0 c.args.thread c.order.ensures.passes (c.standing_laws.ensures.context p) h.1 h.3 (sym c.take.ensures.taken ∙ c.in-None.is)

pub returns-in-Finished-clause-happened : goal.returns-in-Finished-clause-happened
returns-in-Finished-clause-happened g c =
    let p = program_of c.args.program.now in
    let d = image_in (g.N.Nv.words c.args.tx) in
    let t = c.args.thread in
    ok_one c.stop.result
    (λ next. image_in (g.N.Nv.words next) ≡ with_row (record d { events = d.events + 1 }) t (record (row_at d t) { state = 4; code = 0 }))
    (λ next. (K : State) → KernelStands p d c.args.contexts.now K → K.events < 1000000 → chosen K ≡ Some t → KernelStands p (image_in (g.N.Nv.words next)) c.take.new.self (one p K Step))
    c.stop.ensures.stopped
    (λ next image K stands early some.
    let has = arrives-at p d c.args.contexts.now K t c.in-Some.ctx c.ahead.new.self Finished c.order.ensures.passes (c.standing_laws.ensures.context p) stands early some (sym c.take.ensures.taken ∙ c.in-Some.is) c.ahead.ensures.moved c.in-Finished.ensures.arrived c.ahead.ensures.context in
    subst (λ contexts. KernelStands p (image_in (g.N.Nv.words next)) contexts (one p K Step)) (sym c.take.ensures.left)
    (stands-finished p d (slice_set c.args.contexts.now t None) K t has.0 c.ahead.new.self (image_in (g.N.Nv.words next)) c.soundness.ensures.kept c.tree.ensures.within has.1 image))

pub returns-in-Watchdog-clause-happened : goal.returns-in-Watchdog-clause-happened
returns-in-Watchdog-clause-happened g c =
    let p = program_of c.args.program.now in
    let d = image_in (g.N.Nv.words c.args.tx) in
    let t = c.args.thread in
    ok_one c.stop-in-Watchdog.result
    (λ next. image_in (g.N.Nv.words next) ≡ with_row (record d { events = d.events + 1 }) t (record (row_at d t) { state = 4; code = 1 }))
    (λ next. (K : State) → KernelStands p d c.args.contexts.now K → K.events < 1000000 → chosen K ≡ Some t → KernelStands p (image_in (g.N.Nv.words next)) c.take.new.self (one p K Step))
    c.stop-in-Watchdog.ensures.stopped
    (λ next image K stands early some.
    let has = arrives-at p d c.args.contexts.now K t c.in-Some.ctx c.ahead.new.self Watchdog c.order.ensures.passes (c.standing_laws.ensures.context p) stands early some (sym c.take.ensures.taken ∙ c.in-Some.is) c.ahead.ensures.moved c.in-Watchdog.ensures.arrived c.ahead.ensures.context in
    subst (λ contexts. KernelStands p (image_in (g.N.Nv.words next)) contexts (one p K Step)) (sym c.take.ensures.left)
    (stands-watchdog p d (slice_set c.args.contexts.now t None) K t has.0 c.ahead.new.self (image_in (g.N.Nv.words next)) c.soundness.ensures.kept c.tree.ensures.within has.1 image))

pub returns-in-Action-clause-happened : goal.returns-in-Action-clause-happened
returns-in-Action-clause-happened g c =
    let p = program_of c.args.program.now in
    let d = image_in (g.N.Nv.words c.args.tx) in
    let t = c.args.thread in
    ok_one c.act.result
    (λ next. (K : State) (runner : Thread) → Arrives p d c.take.new.self K t runner c.ahead.new.self (Action c.in-Action.number) → KernelStands p (image_in (g.N.Nv.words next)) c.act.new.contexts (one p K Step))
    (λ next. (K : State) → KernelStands p d c.args.contexts.now K → K.events < 1000000 → chosen K ≡ Some t → KernelStands p (image_in (g.N.Nv.words next)) c.act.new.contexts (one p K Step))
    c.act.ensures.happened
    (λ next happened K stands early some.
    let has = arrives-at p d c.args.contexts.now K t c.in-Some.ctx c.ahead.new.self (Action c.in-Action.number) c.order.ensures.passes (c.standing_laws.ensures.context p) stands early some (sym c.take.ensures.taken ∙ c.in-Some.is) c.ahead.ensures.moved c.in-Action.ensures.arrived c.ahead.ensures.context in
    happened K has.0 (subst (λ contexts. Arrives p d contexts K t has.0 c.ahead.new.self (Action c.in-Action.number)) (sym c.take.ensures.left) has.1))

pub returns-in-Finished-clause-steps : goal.returns-in-Finished-clause-steps
returns-in-Finished-clause-steps g c =
    let p = program_of c.args.program.now in
    omega (arith, c.ahead.ensures.stepped, ahead-moves p most_moves (local_of p c.in-Some.ctx))

pub returns-in-Watchdog-clause-steps : goal.returns-in-Watchdog-clause-steps
returns-in-Watchdog-clause-steps g c =
    let p = program_of c.args.program.now in
    omega (arith, c.ahead.ensures.stepped, ahead-moves p most_moves (local_of p c.in-Some.ctx))

pub returns-in-Action-clause-steps : goal.returns-in-Action-clause-steps
returns-in-Action-clause-steps g c =
    let p = program_of c.args.program.now in
    omega (arith, c.ahead.ensures.stepped, ahead-moves p most_moves (local_of p c.in-Some.ctx))

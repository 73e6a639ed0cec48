-- The chosen thread runs; where there is none the event is counted alone.
use Rattle.std.proofs.Common.{◌≡◌, ◌+◌, ◌<◌, sym, subst, ◌∙◌, Some}
use Rattle.thread_tree.specs.Program.{program_of}
use Rattle.kernel_image.specs.Decoded.{image_in}
use Rattle.kernel_model.specs.declared.event.Event.TheVariants.{Step}
use Rattle.kernel_model.specs.Kernel.{State}
use Rattle.kernel_model.specs.Order.{chosen}
use Rattle.kernel_model.specs.Run.{one}
use Rattle.replay_list.specs.Stands.{KernelStands}
use Rattle.ready_delay_lists.proofs.Callers.{sound_formed}
use Rattle.replay_list.proofs.Callers.{rows_agree}
use Rattle.kernel_events.proofs.ActLaws.{stands-nobody}
use Rattle.kernel_events.proofs.ResultLaws.{ok_one}
use Rattle.kernel_events.proofs.events.perform_event.Goals as goal

pub run-requires-clause-stands : goal.run-requires-clause-stands
run-requires-clause-stands g c =
    let p = program_of c.args.program.now in
    let h = c.requires.stands in
    let stands = subst (λ nv. KernelStands p (image_in (g.N.Nv.words nv)) c.args.contexts.now h.0) (sym c.begin-tx.ensures.same) h.1 in
    (h.0, stands, h.2, sym (c.chosen.ensures.chosen h.0 (sound_formed p h.0 stands.image.sound) (rows_agree p (image_in (g.N.Nv.words c.begin-tx.result)).rows h.0.rows stands.image.rows)) ∙ c.in-Some.is)

pub returns-in-Some-clause-happened : goal.returns-in-Some-clause-happened
returns-in-Some-clause-happened g c =
    let p = program_of c.args.program.now in
    ok_one c.run.result
    (λ next. (K : State) → KernelStands p (image_in (g.N.Nv.words c.begin-tx.result)) c.args.contexts.now K → K.events < 1000000 → chosen K ≡ Some c.in-Some.thread → KernelStands p (image_in (g.N.Nv.words next)) c.run.new.contexts (one p K Step))
    (λ next. (K : State) → KernelStands p (image_in (g.N.Nv.words c.args.idle)) c.args.contexts.now K → K.events < 1000000 → KernelStands p (image_in (g.N.Nv.words next)) c.run.new.contexts (one p K c.args.event))
    c.run.ensures.happened
    (λ next happened K before early.
    let stands = subst (λ nv. KernelStands p (image_in (g.N.Nv.words nv)) c.args.contexts.now K) (sym c.begin-tx.ensures.same) before in
    let some = sym (c.chosen.ensures.chosen K (sound_formed p K stands.image.sound) (rows_agree p (image_in (g.N.Nv.words c.begin-tx.result)).rows K.rows stands.image.rows)) ∙ c.in-Some.is in
    subst (λ event. KernelStands p (image_in (g.N.Nv.words next)) c.run.new.contexts (one p K event)) (sym c.requires.step) (happened K stands early some))

pub returns-in-None-clause-happened : goal.returns-in-None-clause-happened
returns-in-None-clause-happened g c =
    let p = program_of c.args.program.now in
    let d = image_in (g.N.Nv.words c.begin-tx.result) in
    ok_one c.pass.result
    (λ next. image_in (g.N.Nv.words next) ≡ record d { events = d.events + 1 })
    (λ next. (K : State) → KernelStands p (image_in (g.N.Nv.words c.args.idle)) c.args.contexts.now K → K.events < 1000000 → KernelStands p (image_in (g.N.Nv.words next)) c.args.contexts.now (one p K c.args.event))
    c.pass.ensures.counted
    (λ next image K before early.
    let stands = subst (λ nv. KernelStands p (image_in (g.N.Nv.words nv)) c.args.contexts.now K) (sym c.begin-tx.ensures.same) before in
    let none = sym (c.chosen.ensures.chosen K (sound_formed p K stands.image.sound) (rows_agree p d.rows K.rows stands.image.rows)) ∙ c.in-None.is in
    let sound = c.soundness.ensures.kept p K Step c.tree.ensures.within stands.image.sound early in
    subst (λ event. KernelStands p (image_in (g.N.Nv.words next)) c.args.contexts.now (one p K event)) (sym c.requires.step)
    (stands-nobody p d (image_in (g.N.Nv.words next)) c.args.contexts.now K sound stands none image))

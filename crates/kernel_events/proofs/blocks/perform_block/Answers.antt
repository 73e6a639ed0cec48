-- A block that gives, aborts or faults.
use Rattle.std.proofs.Common.{◌≡◌, ℕ, suc, true, Option, ◌+◌, ◌-◌, ◌*◌, ◌∷◌, length, ap, sym, subst, ◌∙◌, Some, arith}
use Rattle.std.specs.Prelude.{IsSomeAnd, replicate}
use Rattle.std.proofs.lemmas.List.{length-replicate}
use Rattle.thread_tree.specs.Kinds.{Action as TheAction, action_layer, result_count}
use Rattle.thread_tree.specs.LocalState.{next_action}
use Rattle.thread_tree.specs.Program.{program_of}
use Rattle.thread_machine.specs.declared.next.Next.TheVariants.{Action}
use Rattle.thread_machine.specs.Context.{local_of}
use Rattle.kernel_image.specs.Decoded.{Decoded, image_in, row_at, with_row}
use Rattle.kernel_model.specs.declared.event.Event.TheVariants.{Step}
use Rattle.kernel_model.specs.Kernel.{State, Thread}
use Rattle.kernel_model.specs.Run.{one}
use Rattle.replay_list.specs.Stands.{KernelStands}
use Rattle.user_transactions.specs.Works.{IsEnd}
use Rattle.thread_check.specs.Gives.{block_gives}
use Rattle.kernel_events.specs.Blocks.{IsRecordedEvent, IsBound}
use Rattle.kernel_events.specs.Follows.{Arrives}
use Rattle.kernel_events.proofs.ArriveLaws.{action-is, statement-here}
use Rattle.kernel_events.proofs.BlockLaws.{block_action}
use Rattle.kernel_events.proofs.BlockEndLaws.{ends-anew, image-anew, performed_end, gave-many, stands-gave, stands-aborted, stands-faulted}
use Rattle.kernel_events.proofs.ResultLaws.{ok_and, ok_one}
use Rattle.kernel_events.proofs.blocks.perform_block.Goals as goal

pub perform-requires-clause-here : goal.perform-requires-clause-here
perform-requires-clause-here g c =
    let a = c.requires.arrives in
    let h = c.requires.here in
    (h.0, h.1, h.2, h.3, h.4, statement-here (program_of c.args.program.now) (image_in (g.N.Nv.words c.args.tx)) c.args.contexts.now a.0 c.args.thread a.1 c.args.ctx c.args.number h.0 a.2 h.4, h.5, h.7)

-- what holds of an action that comes next
next-has : (found : Option TheAction) (action : TheAction) (n : ℕ) → found ≡ Some action → n ≡ result_count action.kind action.given → IsSomeAnd found (λ action. n ≡ result_count action.kind action.given)
next-has found action n is many = subst (λ found. IsSomeAnd found (λ action. n ≡ result_count action.kind action.given)) (sym is) many

pub finish_action-requires-clause-action : goal.finish_action-requires-clause-action
finish_action-requires-clause-action g c =
    let p = program_of c.args.program.now in
    let d = image_in (g.N.Nv.words c.args.tx) in
    let now = image_in (g.N.Nv.words c.perform.new.tx) in
    let a = c.requires.arrives in
    let h = c.requires.here in
    let ended = subst (λ end. IsEnd p end now (performed_end p d c.args.contexts.now a.0 c.args.thread a.1 c.args.ctx c.args.number h.0 h.1 h.2 h.3)) c.in-Ok-Gave.field-0-is (c.in-Ok-Gave.ensures.ended h.0 h.1 h.2 h.3 h.4 h.5) in
    let gives : block_gives (length h.2 - 1) h.3 ≡ true = subst (λ n. block_gives n h.3 ≡ true) h.6 h.8 in
    let many = gave-many p d c.args.contexts.now a.0 c.args.thread a.1 c.args.ctx c.args.number h.0 h.1 h.2 h.3 c.in-Ok-Gave.values now (omega (arith, h.6, c.requires.few)) gives ended in
    let is = ap (λ ctx. next_action p (local_of p ctx)) c.perform.ensures.same ∙ action-is p d c.args.contexts.now a.0 c.args.thread a.1 c.args.ctx c.args.number h.0 a.2 h.4 ∙ ap (action_layer p) h.5 in
    let one_more : length c.gave.result.items ≡ suc (length c.in-Ok-Gave.values.items) = ap length c.gave.ensures.results in
    let size : length c.gave.result.items ≡ 1 + (length h.2 - 1) = omega (arith, one_more, many) in
    next-has (next_action p (local_of p c.perform.new.ctx)) (block_action h.2) (length c.gave.result.items) is size

pub finish_action-requires-clause-fits : goal.finish_action-requires-clause-fits
finish_action-requires-clause-fits g c =
    let p = program_of c.args.program.now in
    let d = image_in (g.N.Nv.words c.args.tx) in
    let now = image_in (g.N.Nv.words c.perform.new.tx) in
    let a = c.requires.arrives in
    let h = c.requires.here in
    let ended = subst (λ end. IsEnd p end now (performed_end p d c.args.contexts.now a.0 c.args.thread a.1 c.args.ctx c.args.number h.0 h.1 h.2 h.3)) c.in-Ok-Gave.field-0-is (c.in-Ok-Gave.ensures.ended h.0 h.1 h.2 h.3 h.4 h.5) in
    let gives : block_gives (length h.2 - 1) h.3 ≡ true = subst (λ n. block_gives n h.3 ≡ true) h.6 h.8 in
    let many = gave-many p d c.args.contexts.now a.0 c.args.thread a.1 c.args.ctx c.args.number h.0 h.1 h.2 h.3 c.in-Ok-Gave.values now (omega (arith, h.6, c.requires.few)) gives ended in
    let used : (row_at now c.args.thread).used ≡ (row_at d c.args.thread).used = ap (λ (x : Decoded). (row_at x c.args.thread).used) c.in-Ok-Gave.ensures.frame in
    omega (arith, used, many, ap length c.gave.ensures.results, h.6, c.requires.fits)

pub finish_action-requires-in-Ok-clause-action : goal.finish_action-requires-in-Ok-clause-action
finish_action-requires-in-Ok-clause-action g c =
    let p = program_of c.args.program.now in
    let d = image_in (g.N.Nv.words c.args.tx) in
    let a = c.requires.arrives in
    let h = c.requires.here in
    let is = ap (λ ctx. next_action p (local_of p ctx)) c.perform.ensures.same ∙ action-is p d c.args.contexts.now a.0 c.args.thread a.1 c.args.ctx c.args.number h.0 a.2 h.4 ∙ ap (action_layer p) h.5 in
    next-has (next_action p (local_of p c.perform.new.ctx)) (block_action h.2) (length c.zeros.result.items) is (ap length c.zeros.ensures.results ∙ length-replicate (c.args.given + 1) 0 ∙ omega (arith, h.6))

pub finish_action-requires-in-Ok-clause-fits : goal.finish_action-requires-in-Ok-clause-fits
finish_action-requires-in-Ok-clause-fits g c =
    let d = image_in (g.N.Nv.words c.args.tx) in
    let image = image-anew (g.N.Nv.words c.args.tx) (g.N.Nv.words c.perform.new.tx) (g.N.Nv.words c.in-Ok.tx) c.requires.at_rest c.perform.ensures.lent.undone c.in-Ok.ensures.words in
    let used : (row_at (image_in (g.N.Nv.words c.in-Ok.tx)) c.args.thread).used ≡ (row_at d c.args.thread).used = ap (λ (x : Decoded). (row_at x c.args.thread).used) image in
    let size : length c.zeros.result.items ≡ c.args.given + 1 = ap length c.zeros.ensures.results ∙ length-replicate (c.args.given + 1) 0 in
    omega (arith, used, size, c.requires.fits)

pub returns-in-Ok-Gave-clause-happened : goal.returns-in-Ok-Gave-clause-happened
returns-in-Ok-Gave-clause-happened g c =
    let p = program_of c.args.program.now in
    let d = image_in (g.N.Nv.words c.args.tx) in
    let t = c.args.thread in
    let now = image_in (g.N.Nv.words c.perform.new.tx) in
    let h = c.requires.here in
    let kind : 16 + 256 * c.args.given ≡ 16 + 256 * (length h.2 - 1) = ap (λ n. 16 + 256 * n) h.6 in
    let gives : block_gives (length h.2 - 1) h.3 ≡ true = subst (λ n. block_gives n h.3 ≡ true) h.6 h.8 in
    ok_and c.finish_action.result
    (λ next. IsRecordedEvent t (16 + 256 * c.args.given) c.gave.result.items now (image_in (g.N.Nv.words next)))
    (IsBound p t c.gave.result.items c.perform.new.ctx c.args.contexts.now c.finish_action.new.contexts)
    (λ next. (K : State) (runner : Thread) → Arrives p d c.args.contexts.now K t runner c.args.ctx (Action c.args.number) → KernelStands p (image_in (g.N.Nv.words next)) c.finish_action.new.contexts (one p K Step))
    c.finish_action.ensures.recorded c.finish_action.ensures.bound
    (λ next recorded bound K runner arrives.
    let ended = subst (λ end. IsEnd p end now (performed_end p d c.args.contexts.now K t runner c.args.ctx c.args.number h.0 h.1 h.2 h.3)) c.in-Ok-Gave.field-0-is (c.in-Ok-Gave.ensures.ended h.0 h.1 h.2 h.3 h.4 h.5) in
    stands-gave p d c.args.contexts.now K t runner c.args.ctx c.args.number h.0 h.1 h.2 h.3 c.in-Ok-Gave.values now (image_in (g.N.Nv.words next)) c.finish_action.new.contexts (c.standing_laws.ensures.served p) c.soundness.ensures.kept c.tree.ensures.within arrives h.4 h.5 (omega (arith, h.6, c.requires.fits)) (omega (arith, h.6, c.requires.few)) gives ended c.in-Ok-Gave.ensures.frame c.in-Ok-Gave.ensures.layout
    (subst (λ n. IsRecordedEvent t n (1 ∷ c.in-Ok-Gave.values.items) now (image_in (g.N.Nv.words next))) kind (subst (λ results. IsRecordedEvent t (16 + 256 * c.args.given) results now (image_in (g.N.Nv.words next))) c.gave.ensures.results recorded))
    (subst (λ ctx. IsBound p t (1 ∷ c.in-Ok-Gave.values.items) ctx c.args.contexts.now c.finish_action.new.contexts) c.perform.ensures.same (subst (λ results. IsBound p t results c.perform.new.ctx c.args.contexts.now c.finish_action.new.contexts) c.gave.ensures.results bound)))

pub returns-in-Ok-clause-happened : goal.returns-in-Ok-clause-happened
returns-in-Ok-clause-happened g c =
    let p = program_of c.args.program.now in
    let d = image_in (g.N.Nv.words c.args.tx) in
    let t = c.args.thread in
    let now = image_in (g.N.Nv.words c.perform.new.tx) in
    let h = c.requires.here in
    let kind : 16 + 256 * c.args.given ≡ 16 + 256 * (length h.2 - 1) = ap (λ n. 16 + 256 * n) h.6 in
    let image = image-anew (g.N.Nv.words c.args.tx) (g.N.Nv.words c.perform.new.tx) (g.N.Nv.words c.in-Ok.tx) c.requires.at_rest c.perform.ensures.lent.undone c.in-Ok.ensures.words in
    let results : c.zeros.result.items ≡ replicate (length h.2 - 1 + 1) 0 = c.zeros.ensures.results ∙ ap (λ n. replicate (n + 1) 0) h.6 in
    ok_and c.finish_action-in-Ok.result
    (λ next. IsRecordedEvent t (16 + 256 * c.args.given) c.zeros.result.items (image_in (g.N.Nv.words c.in-Ok.tx)) (image_in (g.N.Nv.words next)))
    (IsBound p t c.zeros.result.items c.perform.new.ctx c.args.contexts.now c.finish_action-in-Ok.new.contexts)
    (λ next. (K : State) (runner : Thread) → Arrives p d c.args.contexts.now K t runner c.args.ctx (Action c.args.number) → KernelStands p (image_in (g.N.Nv.words next)) c.finish_action-in-Ok.new.contexts (one p K Step))
    c.finish_action-in-Ok.ensures.recorded c.finish_action-in-Ok.ensures.bound
    (λ next recorded bound K runner arrives.
    let ended = subst (λ end. IsEnd p end now (performed_end p d c.args.contexts.now K t runner c.args.ctx c.args.number h.0 h.1 h.2 h.3)) c.in-Ok-Aborted.field-0-is (c.in-Ok-Aborted.ensures.ended h.0 h.1 h.2 h.3 h.4 h.5) in
    stands-aborted p d c.args.contexts.now K t runner c.args.ctx c.args.number h.0 h.1 h.2 h.3 now (image_in (g.N.Nv.words next)) c.finish_action-in-Ok.new.contexts (c.standing_laws.ensures.served p) c.soundness.ensures.kept c.tree.ensures.within arrives h.4 h.5 (omega (arith, h.6, c.requires.fits)) ended
    (subst (λ (x : Decoded). IsRecordedEvent t (16 + 256 * (length h.2 - 1)) (replicate (length h.2 - 1 + 1) 0) x (image_in (g.N.Nv.words next))) image (subst (λ n. IsRecordedEvent t n (replicate (length h.2 - 1 + 1) 0) (image_in (g.N.Nv.words c.in-Ok.tx)) (image_in (g.N.Nv.words next))) kind (subst (λ results. IsRecordedEvent t (16 + 256 * c.args.given) results (image_in (g.N.Nv.words c.in-Ok.tx)) (image_in (g.N.Nv.words next))) results recorded)))
    (subst (λ ctx. IsBound p t (replicate (length h.2 - 1 + 1) 0) ctx c.args.contexts.now c.finish_action-in-Ok.new.contexts) c.perform.ensures.same (subst (λ results. IsBound p t results c.perform.new.ctx c.args.contexts.now c.finish_action-in-Ok.new.contexts) results bound)))

pub returns-in-Ok-clause-ends : goal.returns-in-Ok-clause-ends
returns-in-Ok-clause-ends g c =
    ends-anew g.N.Nv c.args.tx c.perform.new.tx c.in-Ok.tx 5 29 c.finish_action-in-Ok.result (omega arith) c.perform.ensures.lent c.in-Ok-Aborted.ensures.within c.in-Ok.ensures.ends c.in-Ok.ensures.words c.finish_action-in-Ok.ensures.ends

pub returns-in-Ok-anew-clause-happened : goal.returns-in-Ok-anew-clause-happened
returns-in-Ok-anew-clause-happened g c =
    let p = program_of c.args.program.now in
    let d = image_in (g.N.Nv.words c.args.tx) in
    let t = c.args.thread in
    let now = image_in (g.N.Nv.words c.perform.new.tx) in
    let h = c.requires.here in
    let again = image_in (g.N.Nv.words c.in-Ok-anew.tx) in
    let image = image-anew (g.N.Nv.words c.args.tx) (g.N.Nv.words c.perform.new.tx) (g.N.Nv.words c.in-Ok-anew.tx) c.requires.at_rest c.perform.ensures.lent.undone c.in-Ok-anew.ensures.words in
    ok_one c.stop.result
    (λ next. image_in (g.N.Nv.words next) ≡ with_row (record again { events = again.events + 1 }) t (record (row_at again t) { state = 4; code = c.in-Ok-Fault.code }))
    (λ next. (K : State) (runner : Thread) → Arrives p d c.args.contexts.now K t runner c.args.ctx (Action c.args.number) → KernelStands p (image_in (g.N.Nv.words next)) c.args.contexts.now (one p K Step))
    c.stop.ensures.stopped
    (λ next stopped K runner arrives.
    let ended = subst (λ end. IsEnd p end now (performed_end p d c.args.contexts.now K t runner c.args.ctx c.args.number h.0 h.1 h.2 h.3)) c.in-Ok-Fault.field-0-is (c.in-Ok-Fault.ensures.ended h.0 h.1 h.2 h.3 h.4 h.5) in
    stands-faulted p d c.args.contexts.now K t runner c.args.ctx c.args.number h.0 h.1 h.2 h.3 c.in-Ok-Fault.code now (image_in (g.N.Nv.words next)) c.soundness.ensures.kept c.tree.ensures.within arrives h.4 h.5 (omega (arith, h.6, c.requires.fits)) ended
    (stopped ∙ ap (λ (x : Decoded). with_row (record x { events = x.events + 1 }) t (record (row_at x t) { state = 4; code = c.in-Ok-Fault.code })) image))

pub returns-in-Ok-anew-clause-ends : goal.returns-in-Ok-anew-clause-ends
returns-in-Ok-anew-clause-ends g c =
    ends-anew g.N.Nv c.args.tx c.perform.new.tx c.in-Ok-anew.tx 5 13 c.stop.result (omega arith) c.perform.ensures.lent c.in-Ok-Fault.ensures.within c.in-Ok-anew.ensures.ends c.in-Ok-anew.ensures.words c.stop.ensures.ends

-- What each end of a block leaves stands for the kernel after the step.
use Rattle.std.proofs.Common.{◌≡◌, ℕ, ◌+◌, ◌-◌, ◌*◌, ◌≤◌, List, [], length, Option, Some, refl, ap, sym, subst, ◌∙◌, arith}
use Rattle.std.specs.Prelude.{slice_set}
use Rattle.thread_tree.specs.declared.block.Stmt.{Stmt, out-Stmt}
use Rattle.thread_tree.specs.declared.block.Stmt.TheOpen.{Atomic}
use Rattle.thread_tree.specs.declared.place.At.{At}
use Rattle.thread_tree.specs.declared.place.Place.{Place}
use Rattle.thread_tree.specs.declared.transaction.TBlock.{TBlock}
use Rattle.thread_tree.specs.Ahead.{ahead}
use Rattle.thread_tree.specs.Ahead.Arrival.{AtAction}
use Rattle.thread_tree.specs.Kinds.{Action, action_layer, taking}
use Rattle.thread_tree.specs.LocalState.{bind}
use Rattle.thread_tree.specs.Program.{Program}
use Rattle.thread_machine.specs.declared.context.Ctx.{Ctx}
use Rattle.thread_machine.specs.Context.{local_of}
use Rattle.thread_machine.specs.Reached.{IsContext}
use Rattle.kernel_model.specs.declared.event.Event.TheVariants.{Step}
use Rattle.kernel_model.specs.Act.{effect_of_layer, effect_of_end}
use Rattle.kernel_model.specs.Kernel.{Thread, State, thread_of}
use Rattle.kernel_model.specs.Kernel.Activity.{Ready}
use Rattle.kernel_model.specs.Objects.{first_place}
use Rattle.kernel_model.specs.Order.{chosen}
use Rattle.kernel_model.specs.Run.{record_room, one}
use Rattle.kernel_model.specs.Serve.{settle, settled}
use Rattle.kernel_model.specs.Serve.Fate.{Serves}
use Rattle.kernel_model.specs.Sound.{IsSound}
use Rattle.kernel_model.specs.Transactions.{BlockEnd, block}
use Rattle.kernel_model.specs.Visible.{Object}
use Rattle.kernel_image.specs.Decoded.{Decoded}
use Rattle.kernel_image.specs.Shown.{objects_in}
use Rattle.persistent_objects.specs.Layout.{IsLaidOut}
use Rattle.replay_list.specs.Stands.{KernelStands, console_in}
use Rattle.kernel_events.specs.Actions.{IsServed}
use Rattle.kernel_events.specs.Follows.{Follows}
use Rattle.kernel_model.specs.Effects.{ran_ahead, words_wanted}
use Rattle.kernel_model.proofs.Callers.{step-acted}
use Rattle.kernel_events.proofs.ActLaws.{ServedLaw, IsDone, needed_by, follows-served, stands-after}

-- the action that a block is, whose results these names take
abbrev pub block_action : List At → Action
block_action to = record { kind = 16; given = length to - 1; operands = []; names = taking to }

-- the words that a block needs
pub block-needs : (p : Program) (t : ℕ) (thread : Thread) (s : Stmt) (place : Place) (to : List At) (body : TBlock) → out-Stmt s ≡ Atomic place to body → words_wanted p t thread s ≡ thread.debt + (2 + (length to - 1))
block-needs p t thread s place to body layer = ap (λ n. thread.debt + n) (ap (needed_by p t (ahead p thread.local).local.top.locals) layer) ∙ omega arith

module _ (p : Program) (d : Decoded) (before : List (Option Ctx)) (K : State) (t : ℕ) (thread : Thread) (s : Stmt) (place : Place) (to : List At) (body : TBlock) where
  -- how the block ends
  abbrev pub block_end : BlockEnd
  block_end = block p K.objects (ahead p thread.local).local.top.locals (length to - 1) body

  -- a step that performs the block
  pub step-block : (end : BlockEnd) → chosen K ≡ Some t → thread_of K t ≡ Some thread → (ahead p thread.local).arrival ≡ AtAction s → out-Stmt s ≡ Atomic place to body → thread.debt + (2 + (length to - 1)) ≤ 256 → block_end ≡ end → one p K Step ≡ settled p t (effect_of_end (ran_ahead p K t thread) (length to - 1) end)
  step-block end some lives arrival layer room is =
      let no_more : words_wanted p t thread s ≤ record_room = omega (arith, room, block-needs p t thread s place to body layer) in
      step-acted p K t thread s some lives arrival no_more
      ∙ ap (settled p t) (ap (effect_of_layer p (ran_ahead p K t thread) t (ahead p thread.local).local.top.locals) layer)
      ∙ ap (λ end. settled p t (effect_of_end (ran_ahead p K t thread) (length to - 1) end)) is

  -- a block that has these results and leaves these objects
  pub stands-results : (new : Decoded) (ctx now : Ctx) (given : List ℕ) (objects : List Object) → ServedLaw p → IsSound p (one p K Step) → KernelStands p d before K → thread_of K t ≡ Some thread → thread.activity ≡ Ready → (ahead p thread.local).arrival ≡ AtAction s → out-Stmt s ≡ Atomic place to body → length given ≡ 1 + (length to - 1) → one p K Step ≡ settle p t (Serves given) (record (ran_ahead p K t thread) { console = K.console; objects = objects }) → IsServed t (16 + 256 * (length to - 1)) given d new → console_in new ≡ K.console → objects_in p new.heap new.live ≡ objects → IsLaidOut new.heap new.first_hole first_place objects → local_of p ctx ≡ (ahead p thread.local).local → local_of p now ≡ bind p (local_of p ctx) given → IsContext p now
      → KernelStands p new (slice_set before t (Some now)) (one p K Step)
  stands-results new ctx now given objects law sound stands lives ready arrival layer many after served on are layout arrives bound context =
      let done : IsDone p thread s (block_action to) given = record { ready = ready; arrives = arrival; is_action = ap (action_layer p) layer; recorded = refl; many = many } in
      stands-after p new (slice_set before t (Some now)) (one p K Step) sound
      (subst (Follows p new (slice_set before t (Some now))) (sym after)
      (follows-served p d new before K t thread ctx now s (block_action to) given K.console objects law stands lives done served on are layout arrives bound context))

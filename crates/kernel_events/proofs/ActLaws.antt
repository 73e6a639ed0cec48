-- What each action leaves stands for the kernel after the step.
use Rattle.std.proofs.Common.{◌≡◌, ℕ, ◌+◌, ◌<◌, ◌≤◌, List, [], ◌∷◌, length, Option, Some, None, Bool, true, false, refl, ap, sym, subst, ◌∙◌, arith}
use Rattle.std.specs.Prelude.{if◌then◌else◌, nat_le, slice_set}
use Rattle.thread_tree.specs.declared.action.Call.TheVariants.{Print}
use Rattle.thread_tree.specs.declared.action.Item.{Item}
use Rattle.thread_tree.specs.declared.block.Stmt.{Stmt, out-Stmt}
use Rattle.thread_tree.specs.declared.block.Stmt.TheOpen.{Stmt-F, Call}
use Rattle.thread_tree.specs.declared.place.At.{At}
use Rattle.thread_tree.specs.declared.place.Place.{Place}
use Rattle.thread_tree.specs.Ahead.{ahead}
use Rattle.thread_tree.specs.Ahead.Arrival.{AtAction}
use Rattle.thread_tree.specs.Kinds.{Action, action_of, action_layer, taking, is_unrecorded, kind_word, result_count}
use Rattle.thread_tree.specs.LocalState.{bind}
use Rattle.thread_tree.specs.Program.{Program}
use Rattle.thread_machine.specs.declared.context.Ctx.{Ctx}
use Rattle.thread_machine.specs.Context.{local_of}
use Rattle.thread_machine.specs.Reached.{IsContext}
use Rattle.kernel_model.specs.declared.event.Event.TheVariants.{Step}
use Rattle.std.proofs.lemmas.List.FromFn.{length-map-range_with_len}
use Rattle.thread_tree.specs.declared.block.Block.{Block}
use Rattle.thread_tree.specs.declared.local.Local.{Local}
use Rattle.kernel_model.specs.Act.{effect_of, effect_of_layer, printed_line, need, deletes_itself, call_of}
use Rattle.kernel_model.specs.Serve.{words_of}
use Rattle.kernel_model.specs.Calls.{print, console_room}
use Rattle.kernel_model.specs.Kernel.{Thread, State, thread_of}
use Rattle.kernel_model.specs.Kernel.Activity.{Ready}
use Rattle.kernel_model.specs.Kernel.Row.{Live, Ended}
use Rattle.kernel_model.specs.Objects.{first_place}
use Rattle.kernel_model.specs.Visible.{Object}
use Rattle.kernel_model.specs.Order.{chosen}
use Rattle.kernel_model.specs.Run.{record_room, arrived, one}
use Rattle.kernel_model.specs.Serve.{served, settle, settled}
use Rattle.kernel_model.specs.Serve.Fate.{Serves, Stops}
use Rattle.kernel_model.specs.Sound.{IsSound}
use Rattle.kernel_image.specs.Decoded.{Decoded, RowWords, blank_row, row_at, with_row, listed}
use Rattle.kernel_image.specs.Shown.{objects_in, byte_of}
use Rattle.kernel_image.specs.Unread.{links_of}
use Rattle.persistent_objects.specs.Layout.{IsLaidOut}
use Rattle.replay_list.proofs.Callers.{both_length, agrees_recorded, agrees_ended, row_live, shows_parts}
use Rattle.replay_list.specs.Records.{IsRecorded}
use Rattle.replay_list.specs.Stands.{IsRow, IsLife, KernelStands, console_in}
use Rattle.kernel_events.specs.Actions.{IsServed, IsPrinted, print_action, fits_on, ok_of, printed_on}
use Rattle.kernel_events.specs.Follows.{Follows}
use Rattle.kernel_events.proofs.FollowLaws.{IsCounted, follows-row, follows-nobody, served-is, stopped-is, thread-row}
use Rattle.kernel_model.specs.Effects.{ran_ahead, words_wanted}
use Rattle.kernel_model.proofs.Callers.{step-acted, step-nobody}
use Rattle.kernel_events.proofs.SetLaws.{set-at}

-- what follows a sound kernel stands for it
pub stands-after : (p : Program) (d : Decoded) (contexts : List (Option Ctx)) (K : State) → IsSound p K → Follows p d contexts K → KernelStands p d contexts K
stands-after p d contexts K sound follows = record {
  image = record {
    sound = sound;
    shows = shows_parts p d K sound follows.events follows.ticks follows.rows follows.queues follows.counts follows.console follows.objects;
    events = follows.events;
    ticks = follows.ticks;
    rows = follows.rows;
    queues = follows.queues;
    counts = follows.counts;
    console = follows.console;
    objects = follows.objects;
    layout = follows.layout;
    unread = follows.unread;
    stamp = follows.stamp;
    few_stamps = follows.few_stamps;
  };
  restored = follows.restored;
}

-- a served action, with these results
pub record IsDone (p : Program) (thread : Thread) (s : Stmt) (action : Action) (results : List ℕ) : Type 0 where
  pub ready : thread.activity ≡ Ready
  pub arrives : (ahead p thread.local).arrival ≡ AtAction s
  pub is_action : action_of p s ≡ Some action
  pub recorded : is_unrecorded action.kind ≡ false
  pub many : length results ≡ result_count action.kind action.given

-- the law of a row with one record more
abbrev pub ServedLaw : Program → Type 0
ServedLaw p = (old new : RowWords) (thread : Thread) (s : Stmt) (action : Action) (results : List ℕ) → IsLife p old thread → IsRecorded (kind_word action.kind action.given) results old new → thread.activity ≡ Ready → (ahead p thread.local).arrival ≡ AtAction s → action_of p s ≡ Some action → is_unrecorded action.kind ≡ false → length results ≡ result_count action.kind action.given → IsLife p new (served p results (arrived (ahead p thread.local) thread))

module _ (p : Program) (d new : Decoded) (before : List (Option Ctx)) (K : State) (t : ℕ) (thread : Thread) (ctx now : Ctx) where
  -- a thread was served, and the console and the objects are these
  pub follows-served : (s : Stmt) (action : Action) (results console : List ℕ) (objects : List Object) → ServedLaw p → KernelStands p d before K → thread_of K t ≡ Some thread → IsDone p thread s action results → IsServed t (kind_word action.kind action.given) results d new → console_in new ≡ console → objects_in p new.heap new.live ≡ objects → IsLaidOut new.heap new.first_hole first_place objects → local_of p ctx ≡ (ahead p thread.local).local → local_of p now ≡ bind p (local_of p ctx) results → IsContext p now
      → Follows p new (slice_set before t (Some now)) (settle p t (Serves results) (record (ran_ahead p K t thread) { console = console; objects = objects }))
  follows-served s action results console objects law stands lives done is_served on are layout arrives bound context =
      let old_row = row_live p d.rows K.rows t thread stands.image.rows lives in
      let life = law (row_at d t) (row_at new t) thread s action results old_row.1 is_served.row done.ready done.arrives done.is_action done.recorded done.many in
      let agrees = agrees_recorded p (row_at d t) (row_at new t) thread (ahead p thread.local) (kind_word action.kind action.given) results old_row.0 is_served.row in
      let local : local_of p now ≡ bind p (ahead p thread.local).local results = bound ∙ ap (λ s. bind p s results) arrives in
      subst (Follows p new (slice_set before t (Some now))) (sym (served-is p K t thread results console objects lives))
      (follows-row p d new before K t (Live (served p results (arrived (ahead p thread.local) thread))) (Some now) console objects stands is_served.rest (agrees, life) (ap links_of is_served.row.rest) (record { local = local; context = context }) on are layout)

-- the effect of a print, by whether it fits
printed-by : (p : Program) (K : State) (t : ℕ) (bytes : List ℕ) (b : Bool) → nat_le (length K.console + length bytes) console_room ≡ b → settled p t (print K bytes) ≡ settle p t (Serves (ok_of b ∷ [])) (record K { console = printed_on b K.console bytes })
printed-by p K t bytes true is = rw is refl
printed-by p K t bytes false is = rw is refl

-- the words that a statement needs, by its layer
abbrev pub needed_by : Program → ℕ → List Local → Stmt-F Stmt Block → ℕ
needed_by p t locals layer = if deletes_itself t locals (call_of layer) then 0 else words_of (action_layer p layer)

-- the console has as many bytes as its length says
pub console-length : (d : Decoded) → length (console_in d) ≡ d.console_length
unfolding listed
console-length d = length-map-range_with_len (byte_of d.console) 0 d.console_length

module _ (p : Program) (d new : Decoded) (before : List (Option Ctx)) (K : State) (t : ℕ) (thread : Thread) (ctx now : Ctx) where
  -- a print
  pub stands-printed : (s : Stmt) (place : Place) (items : List Item) (to : List At) → ServedLaw p → IsSound p (one p K Step) → KernelStands p d before K → chosen K ≡ Some t → thread_of K t ≡ Some thread → thread.activity ≡ Ready → (ahead p thread.local).arrival ≡ AtAction s → out-Stmt s ≡ Call place (Print items) to → thread.debt + 2 ≤ 256 → local_of p ctx ≡ (ahead p thread.local).local → IsPrinted p t (printed_line (local_of p ctx).top.locals items) d new (local_of p ctx) (local_of p now) → IsContext p now
      → KernelStands p new (slice_set before t (Some now)) (one p K Step)
  stands-printed s place items to law sound stands some lives ready arrival layer room arrives printed context =
      let locals = (ahead p thread.local).local.top.locals in
      let bytes = printed_line (local_of p ctx).top.locals items in
      let fits = fits_on d bytes in
      let line : bytes ≡ printed_line locals items = ap (λ local. printed_line local.top.locals items) arrives in
      let action : action_of p s ≡ Some (print_action items (taking to)) = ap (action_layer p) layer in
      let done : IsDone p thread s (print_action items (taking to)) (ok_of fits ∷ []) = record { ready = ready; arrives = arrival; is_action = action; recorded = refl; many = refl } in
      let size : length K.console ≡ d.console_length = ap length (sym stands.image.console) ∙ console-length d in
      let same_fits : nat_le (length K.console + length bytes) console_room ≡ fits = ap (λ n. nat_le (n + length bytes) console_room) size in
      let needed : need p t locals s ≡ 2 = ap (needed_by p t locals) layer in
      let no_more : words_wanted p t thread s ≤ record_room = omega (arith, room, needed) in
      let stepped = step-acted p K t thread s some lives arrival no_more in
      let effect : effect_of p (ran_ahead p K t thread) t locals s ≡ print (ran_ahead p K t thread) bytes = ap (effect_of_layer p (ran_ahead p K t thread) t locals) layer ∙ ap (print (ran_ahead p K t thread)) (sym line) in
      let after : one p K Step ≡ settle p t (Serves (ok_of fits ∷ [])) (record (ran_ahead p K t thread) { console = printed_on fits K.console bytes; objects = K.objects }) =
      stepped ∙ ap (settled p t) effect ∙ printed-by p (ran_ahead p K t thread) t bytes fits same_fits in
      let on : console_in new ≡ printed_on fits K.console bytes = printed.console ∙ ap (λ console. printed_on fits console bytes) stands.image.console in
      let live : new.live ≡ d.live = ap (λ (x : Decoded). x.live) printed.served.rest in
      let first : new.first_hole ≡ d.first_hole = ap (λ (x : Decoded). x.first_hole) printed.served.rest in
      let are : objects_in p new.heap new.live ≡ K.objects = ap (λ heap. objects_in p heap new.live) printed.heap ∙ ap (objects_in p d.heap) live ∙ stands.image.objects in
      let layout : IsLaidOut new.heap new.first_hole first_place K.objects = subst (λ heap. IsLaidOut heap new.first_hole first_place K.objects) (sym printed.heap) (subst (λ hole. IsLaidOut d.heap hole first_place K.objects) (sym first) stands.image.layout) in
      stands-after p new (slice_set before t (Some now)) (one p K Step) sound
      (subst (Follows p new (slice_set before t (Some now))) (sym after)
      (follows-served p d new before K t thread ctx now s (print_action items (taking to)) (ok_of fits ∷ []) (printed_on fits K.console bytes) K.objects law stands lives done printed.served on are layout arrives printed.bound context))

  -- a thread that ends with a code
  pub stands-stopped : (code : ℕ) → IsSound p (one p K Step) → KernelStands p d before K → thread_of K t ≡ Some thread → one p K Step ≡ settle p t (Stops code) (ran_ahead p K t thread) → new ≡ with_row (record d { events = d.events + 1 }) t (record (row_at d t) { state = 4; code = code })
      → KernelStands p new (slice_set before t None) (one p K Step)
  stands-stopped code sound stands lives after same =
      let old_row = row_live p d.rows K.rows t thread stands.image.rows lives in
      let within : t < length d.rows = omega (arith, (thread-row K t thread lives).1, both_length (IsRow p) d.rows K.rows stands.image.rows) in
      let row : row_at new t ≡ record (row_at d t) { state = 4; code = code } = ap (λ (x : Decoded). row_at x t) same ∙ set-at d.rows t (record (row_at d t) { state = 4; code = code }) blank_row within in
      let rest : IsCounted t d new = ap (λ (x : Decoded). record x { console_length = d.console_length; console = d.console; heap = d.heap }) same ∙ ap (λ row. record (with_row d t row) { events = d.events + 1 }) (sym row) in
      let heap : new.heap ≡ d.heap = ap (λ (x : Decoded). x.heap) same in
      let live : new.live ≡ d.live = ap (λ (x : Decoded). x.live) same in
      let first : new.first_hole ≡ d.first_hole = ap (λ (x : Decoded). x.first_hole) same in
      let on : console_in new ≡ K.console = ap console_in same ∙ stands.image.console in
      let are : objects_in p new.heap new.live ≡ K.objects = ap (λ heap. objects_in p heap new.live) heap ∙ ap (objects_in p d.heap) live ∙ stands.image.objects in
      let layout : IsLaidOut new.heap new.first_hole first_place K.objects = subst (λ heap. IsLaidOut heap new.first_hole first_place K.objects) (sym heap) (subst (λ hole. IsLaidOut d.heap hole first_place K.objects) (sym first) stands.image.layout) in
      stands-after p new (slice_set before t None) (one p K Step) sound
      (subst (Follows p new (slice_set before t None)) (sym (after ∙ stopped-is p K t thread code lives))
      (follows-row p d new before K t (Ended thread.template thread.priority code) None K.console K.objects stands rest (agrees_ended (row_at d t) (row_at new t) thread code old_row.0 row, tt) (ap links_of row) tt on are layout))

-- nobody is ready
pub stands-nobody : (p : Program) (d new : Decoded) (contexts : List (Option Ctx)) (K : State) → IsSound p (one p K Step) → KernelStands p d contexts K → chosen K ≡ None → new ≡ record d { events = d.events + 1 } → KernelStands p new contexts (one p K Step)
stands-nobody p d new contexts K sound stands none same =
    stands-after p new contexts (one p K Step) sound (subst (Follows p new contexts) (sym (step-nobody p K none)) (follows-nobody p d new contexts K 0 stands same))

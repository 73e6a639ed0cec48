-- The ends of a block, on the image.
use Rattle.std.proofs.Common.{◌≡◌, ℕ, zero, suc, ◌+◌, ◌-◌, ◌*◌, ◌<◌, ◌≤◌, List, [], ◌∷◌, length, take, Option, Some, None, true, refl, ap, sym, subst, ◌∙◌, arith}
use Rattle.std.specs.Prelude.{Result, Ok, Err, MatchResult, replicate, slice_set, slice_get}
use Rattle.std.proofs.lemmas.List.{length-replicate}
use Rattle.nv_memory.specs.declared.nv.Nv.{Ghosts}
use Rattle.undo_journal.specs.Undo.{durable, outside, IsAtRest}
use Rattle.undo_journal.specs.Lending.{IsLent, IsWithin}
use Rattle.undo_journal.proofs.Callers.{durable-at_rest}
use Rattle.thread_tree.specs.declared.block.Stmt.{Stmt, out-Stmt}
use Rattle.thread_tree.specs.declared.block.Stmt.TheOpen.{Atomic}
use Rattle.thread_tree.specs.declared.place.At.{At}
use Rattle.thread_tree.specs.declared.place.Place.{Place}
use Rattle.thread_tree.specs.declared.transaction.TBlock.{TBlock}
use Rattle.thread_tree.specs.Actions.{actions}
use Rattle.thread_tree.specs.Ahead.{ahead}
use Rattle.thread_tree.specs.Limits.{IsWithinLimits}
use Rattle.thread_tree.specs.LocalState.{LocalState}
use Rattle.thread_tree.specs.Program.{Program}
use Rattle.thread_machine.specs.declared.context.Ctx.{Ctx}
use Rattle.thread_machine.specs.declared.next.Next.TheVariants as next
use Rattle.thread_machine.specs.Context.{local_of}
use Rattle.kernel_model.specs.declared.event.Event.TheVariants.{Step}
use Rattle.kernel_model.specs.Kernel.{Thread, State}
use Rattle.kernel_model.specs.Objects.{first_place}
use Rattle.kernel_model.specs.Act.{effect_of_end}
use Rattle.kernel_model.specs.Run.{one}
use Rattle.kernel_model.specs.Serve.{settle, settled}
use Rattle.kernel_model.specs.Serve.Fate.{Serves, Stops}
use Rattle.arrayvec.specs.ArrayVec.{ArrayVec}
use Rattle.kernel_model.specs.Transactions.{BlockEnd, block}
use Rattle.kernel_model.specs.Transactions.BlockEnd.{Gave, Aborted, Fault}
use Rattle.kernel_model.specs.Visible.{Object}
use Rattle.kernel_image.specs.Decoded.{Decoded, image_in, row_at, with_row, listed}
use Rattle.kernel_image.specs.Shown.{byte_of, objects_in}
use Rattle.persistent_objects.specs.Layout.{IsLaidOut, KeepsLayout}
use Rattle.persistent_objects.specs.Objects.{objects_of}
use Rattle.replay_list.specs.Stands.{KernelStands, console_in}
use Rattle.thread_check.specs.Gives.{block_gives}
use Rattle.user_transactions.specs.declared.tx_end.TxEnd.TheVariants as tx_end
use Rattle.user_transactions.specs.Works.{IsEnd}
use Rattle.kernel_events.specs.Actions.{IsServed}
use Rattle.kernel_events.specs.Blocks.{IsRecordedEvent, IsBound}
use Rattle.kernel_events.specs.Ends.{IsCommitted, IsLost}
use Rattle.kernel_events.specs.Follows.{Arrives}
use Rattle.kernel_model.specs.Effects.{ran_ahead}
use Rattle.kernel_events.proofs.ActLaws.{ServedLaw, stands-stopped}
use Rattle.kernel_events.proofs.ArriveLaws.{KeptLaw, action-here, used-is, stands-full}
use Rattle.kernel_events.proofs.BlockLaws.{step-block, stands-results, block-needs}
use Rattle.kernel_events.proofs.SetLaws.{set-again}
use Rattle.kernel_events.proofs.EndLaws.{image_outside, fell-then, least-behind, short-fell, committed-then, lost-then}
use Rattle.kernel_events.proofs.GivenLaws.{gives-many}

-- the first three of at most three are all
all-of : {X : Type 0} (n : ℕ) (xs : List X) → length xs ≤ n → take n xs ≡ xs
all-of zero [] few = refl
all-of zero (x ∷ xs) few = absurd (omega (arith, few))
all-of (suc n) [] few = refl
all-of (suc n) (x ∷ xs) few = ap (λ rest. x ∷ rest) (all-of n xs (omega (arith, few)))

-- what was served with the heap changed before
served-heap : (t kind : ℕ) (results heap : List ℕ) (d new : Decoded) → IsServed t kind results (record d { heap = heap }) new → IsServed t kind results d new
served-heap t kind results heap d new is = record { row = is.row; rest = ap (λ (x : Decoded). record x { heap = d.heap }) is.rest }

-- words that were undone and opened anew
pub image-anew : (old now new : List ℕ) → IsAtRest old → durable now ≡ durable old → outside new ≡ durable now → image_in new ≡ image_in old
image-anew old now new rest same undone = image_outside old new (undone ∙ same ∙ durable-at_rest old rest)

module _ {N : Type 0} (g : Ghosts N) where
  -- an end behind a transaction that was undone and opened anew, whose block was lent it
  pub ends-anew : (old lent anew : N) (n m : ℕ) (r : Result N N) → m ≤ 1000 → IsLent g old lent → IsWithin g old lent 960 → IsCommitted g 0 961 lent anew → outside (g.words anew) ≡ durable (g.words lent) → MatchResult r (IsCommitted g n m anew) (IsLost g m anew) → MatchResult r (IsCommitted g n 6400 old) (IsLost g 6400 old)
  ends-anew old lent anew n m (Ok idle) few is within done undone end =
      committed-then g n 960 (961 + m) 6400 old lent idle (omega (arith, few)) is within (record {
        at_rest = end.at_rest;
        at_least = least-behind n 961 (g.left lent) (g.left anew) (g.left idle) done.left end.at_least;
        left = fell-then 961 m (g.left lent) (g.left anew) (g.left idle) done.left end.left;
        to_come = end.to_come ∙ done.to_come;
        ends = end.ends ∙ done.ends;
      })
  ends-anew old lent anew n m (Err dark) few is within done undone end =
      lost-then g 960 (961 + m) 6400 old lent dark (omega (arith, few)) is within (record {
        short = short-fell 961 m (g.left lent) (g.left anew) done.left end.short;
        dark = end.dark;
        undone = end.undone ∙ durable-at_rest (g.words anew) done.at_rest ∙ undone;
        journalled = end.journalled;
        to_come = end.to_come ∙ done.to_come;
        ends = end.ends ∙ done.ends;
      })

module _ (p : Program) (d : Decoded) (contexts : List (Option Ctx)) (K : State) (t : ℕ) (thread : Thread) (ctx : Ctx) (number : ℕ) (s : Stmt) (place : Place) (to : List At) (body : TBlock) where
  -- the block over the objects in the words and the locals of the context
  abbrev pub performed_end : BlockEnd
  performed_end = block p (objects_of p d) (local_of p ctx).top.locals (length to - 1) body

  same-end : Arrives p d contexts K t thread ctx (next.Action number) → block p K.objects (ahead p thread.local).local.top.locals (length to - 1) body ≡ performed_end
  same-end a =
      ap (λ objects. block p objects (ahead p thread.local).local.top.locals (length to - 1) body) (sym a.stands.image.objects)
      ∙ ap (λ (local : LocalState). block p (objects_of p d) local.top.locals (length to - 1) body) (sym a.arrived)

  -- results that were recorded over these objects
  stands-recorded : (new : Decoded) (heap given : List ℕ) (objects : List Object) (end : BlockEnd) (after : List (Option Ctx)) → ServedLaw p → KeptLaw → IsWithinLimits p → Arrives p d contexts K t thread ctx (next.Action number) → slice_get (actions p) number ≡ Some s → out-Stmt s ≡ Atomic place to body → length given ≡ 1 + (length to - 1) → one p K Step ≡ settle p t (Serves given) (record (ran_ahead p K t thread) { console = K.console; objects = objects }) → IsRecordedEvent t (16 + 256 * (length to - 1)) given (record d { heap = heap }) new → objects_in p heap d.live ≡ objects → IsLaidOut heap d.first_hole first_place objects → IsBound p t given ctx contexts after → KernelStands p new after (one p K Step)
  stands-recorded new heap given objects end after law kept limits a here layer many stepped recorded are layout bound =
      let sound = kept p K Step limits a.stands.image.sound a.early in
      let served = served-heap t (16 + 256 * (length to - 1)) given heap d new recorded.served in
      let live : new.live ≡ d.live = ap (λ (x : Decoded). x.live) served.rest in
      let first : new.first_hole ≡ d.first_hole = ap (λ (x : Decoded). x.first_hole) served.rest in
      let on : console_in new ≡ K.console = ap (λ n. listed n (byte_of new.console)) recorded.length_same ∙ ap (λ console. listed d.console_length (byte_of console)) recorded.console ∙ a.stands.image.console in
      let there : objects_in p new.heap new.live ≡ objects = ap (λ heap. objects_in p heap new.live) recorded.heap ∙ ap (objects_in p heap) live ∙ are in
      let between : IsLaidOut new.heap new.first_hole first_place objects = subst (λ heap. IsLaidOut heap new.first_hole first_place objects) (sym recorded.heap) (subst (λ hole. IsLaidOut heap hole first_place objects) (sym first) layout) in
      let put : after ≡ slice_set a.before t (Some bound.now) = bound.put ∙ ap (λ contexts. slice_set contexts t (Some bound.now)) a.taken ∙ set-again a.before t None (Some bound.now) in
      subst (λ contexts. KernelStands p new contexts (one p K Step)) (sym put)
      (stands-results p d a.before K t thread s place to body new ctx bound.now given objects law sound a.stands a.lives a.ready (action-here p d contexts K t thread ctx number s a here) layer many stepped served on there between a.arrived bound.bound bound.context)

  -- the step that performs the block
  stepped-by : (end : BlockEnd) → Arrives p d contexts K t thread ctx (next.Action number) → slice_get (actions p) number ≡ Some s → out-Stmt s ≡ Atomic place to body → (row_at d t).used + 2 + (length to - 1) ≤ 256 → performed_end ≡ end → one p K Step ≡ settled p t (effect_of_end (ran_ahead p K t thread) (length to - 1) end)
  stepped-by end a here layer room is =
      step-block p d a.before K t thread s place to body end a.chosen a.lives (action-here p d contexts K t thread ctx number s a here) layer (omega (arith, room, used-is p d contexts K t thread ctx (next.Action number) a)) (same-end a ∙ is)

  gave-by : (values : ArrayVec ℕ) (now new : Decoded) (after : List (Option Ctx)) (end : BlockEnd) → ServedLaw p → KeptLaw → IsWithinLimits p → Arrives p d contexts K t thread ctx (next.Action number) → slice_get (actions p) number ≡ Some s → out-Stmt s ≡ Atomic place to body → (row_at d t).used + 2 + (length to - 1) ≤ 256 → length to - 1 ≤ 3 → block_gives (length to - 1) body ≡ true → performed_end ≡ end → IsEnd p (tx_end.Gave values) now end → now ≡ record d { heap = now.heap } → KeepsLayout p d now → IsRecordedEvent t (16 + 256 * (length to - 1)) (1 ∷ values.items) now new → IsBound p t (1 ∷ values.items) ctx contexts after → KernelStands p new after (one p K Step)
  gave-by values now new after (Gave objects given) law kept limits a here layer room few gives is ended frame keeps recorded bound =
      let many : length given ≡ length to - 1 = gives-many p (objects_of p d) (local_of p ctx).top.locals (length to - 1) body gives objects given is in
      let same : values.items ≡ given = ended.1 ∙ all-of 3 given (omega (arith, many, few)) in
      let stepped = stepped-by (Gave objects given) a here layer room is in
      let recorded_now : IsRecordedEvent t (16 + 256 * (length to - 1)) (1 ∷ given) (record d { heap = now.heap }) new = subst (λ (x : Decoded). IsRecordedEvent t (16 + 256 * (length to - 1)) (1 ∷ given) x new) frame (subst (λ results. IsRecordedEvent t (16 + 256 * (length to - 1)) (1 ∷ results) now new) same recorded) in
      let live : now.live ≡ d.live = ap (λ (x : Decoded). x.live) frame in
      let are : objects_in p now.heap d.live ≡ objects = ap (objects_in p now.heap) (sym live) ∙ sym ended.0 in
      let before : IsLaidOut d.heap d.first_hole first_place (objects_of p d) = subst (IsLaidOut d.heap d.first_hole first_place) (sym a.stands.image.objects) a.stands.image.layout in
      let layout : IsLaidOut now.heap d.first_hole first_place objects = subst (IsLaidOut now.heap d.first_hole first_place) (sym ended.0) (keeps d.first_hole before) in
      stands-recorded new now.heap (1 ∷ given) objects (Gave objects given) after law kept limits a here layer (ap suc many ∙ omega arith) stepped recorded_now are layout (subst (λ results. IsBound p t (1 ∷ results) ctx contexts after) same bound)
  gave-by values now new after Aborted law kept limits a here layer room few gives is ended frame keeps recorded bound = absurd ended
  gave-by values now new after (Fault code) law kept limits a here layer room few gives is ended frame keeps recorded bound = absurd ended

  -- a block that gave
  pub stands-gave : (values : ArrayVec ℕ) (now new : Decoded) (after : List (Option Ctx)) → ServedLaw p → KeptLaw → IsWithinLimits p → Arrives p d contexts K t thread ctx (next.Action number) → slice_get (actions p) number ≡ Some s → out-Stmt s ≡ Atomic place to body → (row_at d t).used + 2 + (length to - 1) ≤ 256 → length to - 1 ≤ 3 → block_gives (length to - 1) body ≡ true → IsEnd p (tx_end.Gave values) now performed_end → now ≡ record d { heap = now.heap } → KeepsLayout p d now → IsRecordedEvent t (16 + 256 * (length to - 1)) (1 ∷ values.items) now new → IsBound p t (1 ∷ values.items) ctx contexts after → KernelStands p new after (one p K Step)
  stands-gave values now new after law kept limits a here layer room few gives ended frame keeps recorded bound =
      gave-by values now new after performed_end law kept limits a here layer room few gives refl ended frame keeps recorded bound

  aborted-by : (now new : Decoded) (after : List (Option Ctx)) (end : BlockEnd) → ServedLaw p → KeptLaw → IsWithinLimits p → Arrives p d contexts K t thread ctx (next.Action number) → slice_get (actions p) number ≡ Some s → out-Stmt s ≡ Atomic place to body → (row_at d t).used + 2 + (length to - 1) ≤ 256 → performed_end ≡ end → IsEnd p tx_end.Aborted now end → IsRecordedEvent t (16 + 256 * (length to - 1)) (replicate (length to - 1 + 1) 0) d new → IsBound p t (replicate (length to - 1 + 1) 0) ctx contexts after → KernelStands p new after (one p K Step)
  aborted-by now new after (Gave objects given) law kept limits a here layer room is ended recorded bound = absurd ended
  aborted-by now new after Aborted law kept limits a here layer room is ended recorded bound =
      stands-recorded new d.heap (replicate (length to - 1 + 1) 0) K.objects Aborted after law kept limits a here layer (length-replicate (length to - 1 + 1) 0 ∙ omega arith) (stepped-by Aborted a here layer room is) recorded a.stands.image.objects a.stands.image.layout bound
  aborted-by now new after (Fault code) law kept limits a here layer room is ended recorded bound = absurd ended

  -- a block that aborted
  pub stands-aborted : (now new : Decoded) (after : List (Option Ctx)) → ServedLaw p → KeptLaw → IsWithinLimits p → Arrives p d contexts K t thread ctx (next.Action number) → slice_get (actions p) number ≡ Some s → out-Stmt s ≡ Atomic place to body → (row_at d t).used + 2 + (length to - 1) ≤ 256 → IsEnd p tx_end.Aborted now performed_end → IsRecordedEvent t (16 + 256 * (length to - 1)) (replicate (length to - 1 + 1) 0) d new → IsBound p t (replicate (length to - 1 + 1) 0) ctx contexts after → KernelStands p new after (one p K Step)
  stands-aborted now new after law kept limits a here layer room ended recorded bound = aborted-by now new after performed_end law kept limits a here layer room refl ended recorded bound

  faulted-by : (code : ℕ) (now new : Decoded) (end : BlockEnd) → KeptLaw → IsWithinLimits p → Arrives p d contexts K t thread ctx (next.Action number) → slice_get (actions p) number ≡ Some s → out-Stmt s ≡ Atomic place to body → (row_at d t).used + 2 + (length to - 1) ≤ 256 → performed_end ≡ end → IsEnd p (tx_end.Fault code) now end → new ≡ with_row (record d { events = d.events + 1 }) t (record (row_at d t) { state = 4; code = code }) → KernelStands p new contexts (one p K Step)
  faulted-by code now new (Gave objects given) kept limits a here layer room is ended same = absurd ended
  faulted-by code now new Aborted kept limits a here layer room is ended same = absurd ended
  faulted-by code now new (Fault cause) kept limits a here layer room is ended same =
      let sound = kept p K Step limits a.stands.image.sound a.early in
      let stepped : one p K Step ≡ settle p t (Stops code) (ran_ahead p K t thread) = stepped-by (Fault cause) a here layer room is ∙ ap (λ cause. settle p t (Stops cause) (ran_ahead p K t thread)) (sym ended) in
      subst (λ contexts. KernelStands p new contexts (one p K Step)) (sym a.taken) (stands-stopped p d new a.before K t thread ctx ctx code sound a.stands a.lives stepped same)

  -- a block that faulted
  pub stands-faulted : (code : ℕ) (now new : Decoded) → KeptLaw → IsWithinLimits p → Arrives p d contexts K t thread ctx (next.Action number) → slice_get (actions p) number ≡ Some s → out-Stmt s ≡ Atomic place to body → (row_at d t).used + 2 + (length to - 1) ≤ 256 → IsEnd p (tx_end.Fault code) now performed_end → new ≡ with_row (record d { events = d.events + 1 }) t (record (row_at d t) { state = 4; code = code }) → KernelStands p new contexts (one p K Step)
  stands-faulted code now new kept limits a here layer room ended same = faulted-by code now new performed_end kept limits a here layer room refl ended same

  many-by : (values : ArrayVec ℕ) (now : Decoded) (end : BlockEnd) → length to - 1 ≤ 3 → block_gives (length to - 1) body ≡ true → performed_end ≡ end → IsEnd p (tx_end.Gave values) now end → length values.items ≡ length to - 1
  many-by values now (Gave objects given) few gives is ended =
      let many : length given ≡ length to - 1 = gives-many p (objects_of p d) (local_of p ctx).top.locals (length to - 1) body gives objects given is in
      ap length (ended.1 ∙ all-of 3 given (omega (arith, many, few))) ∙ many
  many-by values now Aborted few gives is ended = absurd ended
  many-by values now (Fault code) few gives is ended = absurd ended

  -- a block that gave has as many values as it gives
  pub gave-many : (values : ArrayVec ℕ) (now : Decoded) → length to - 1 ≤ 3 → block_gives (length to - 1) body ≡ true → IsEnd p (tx_end.Gave values) now performed_end → length values.items ≡ length to - 1
  gave-many values now few gives ended = many-by values now performed_end few gives refl ended

  -- the records have no room for the block
  pub stands-no_room : (new : Decoded) → KeptLaw → IsWithinLimits p → Arrives p d contexts K t thread ctx (next.Action number) → slice_get (actions p) number ≡ Some s → out-Stmt s ≡ Atomic place to body → 256 < (row_at d t).used + 2 + (length to - 1) → new ≡ with_row (record d { events = d.events + 1 }) t (record (row_at d t) { state = 4; code = 4 }) → KernelStands p new contexts (one p K Step)
  stands-no_room new kept limits a here layer full same =
      stands-full p d contexts K t thread ctx number s new kept limits a here (omega (arith, full, used-is p d contexts K t thread ctx (next.Action number) a, block-needs p t thread s place to body layer)) same

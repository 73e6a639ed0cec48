-- Each turn gives the next name its value.
use Rattle.std.proofs.Common.{◌≡◌, ◌<◌, ◌≤◌, length, arith, get_or}
use Rattle.std.proofs.lemmas.List.{length-map}
use Rattle.std.proofs.lemmas.Option.{slice_get-get_or}
use Rattle.thread_tree.specs.Program.{names_of}
use Rattle.thread_tree.specs.declared.place.At.{At}
use Rattle.thread_machine.proofs.ScopeLemmas.{get_map}
use Rattle.thread_machine.proofs.StateLemmas.{length_assigned}
use Rattle.thread_machine.proofs.BindLemmas.{assigned_more, assigned_all}
use Rattle.thread_machine.proofs.bind.assign_all.Goals as goal

pub loop-at-preserved : goal.loop-at-preserved
loop-at-preserved c =
    let within : c.args.base ≤ length c.loop-at.slots.items = omega (arith, c.loop-at.invariant.2, c.requires.within) in
    let lt : c.loop-at.at < length c.args.values.now = omega arith in
    let name = c.get.result.now.name in
    let value = get_or c.args.values.now c.loop-at.at 0 in
    let more = assigned_more c.args.base c.loop-at.at name value c.args.slots.now.items c.loop-at.slots.items c.assign.new.slots.items (names_of c.args.names.now) c.args.values.now c.loop-at.invariant.0 c.loop-at.invariant.1 within c.assign.ensures.assigned (get_map (λ (a : At). a.name) c.args.names.now c.loop-at.at c.get.result.now c.get.ensures) (slice_get-get_or c.args.values.now c.loop-at.at 0 lt) in
    let same : length c.assign.new.slots.items ≡ length c.loop-at.slots.items = rw c.assign.ensures.assigned (length_assigned c.args.base name value c.loop-at.slots.items within) in
    (more.0, more.1, omega (arith, same, c.loop-at.invariant.2))

pub returns : goal.returns
returns c = record {
  assigned = assigned_all c.args.base c.args.slots.now.items c.loop-at.slots.items (names_of c.args.names.now) c.args.values.now c.loop-at.at c.loop-at.invariant.0 c.loop-at.invariant.1 (omega (arith, length-map c.args.names.now (λ (a : At). a.name)));
}

-- Each turn declares the next name with its value.
use Rattle.std.proofs.Common.{◌<◌, length, arith, get_or}
use Rattle.std.proofs.lemmas.List.{length-map}
use Rattle.std.proofs.lemmas.Option.{slice_get-get_or}
use Rattle.thread_tree.specs.Program.{names_of}
use Rattle.thread_tree.specs.declared.place.At.{At}
use Rattle.thread_machine.proofs.ScopeLemmas.{get_map}
use Rattle.thread_machine.proofs.BindLemmas.{declared_more, declared_all}
use Rattle.thread_machine.proofs.fresh.declare_all.Goals as goal

pub loop-at-preserved : goal.loop-at-preserved
loop-at-preserved c =
    let lt : c.loop-at.at < length c.args.values.now = omega arith in (
      declared_more c.args.slots.now.items c.loop-at.slots.items c.push.new.self.items (names_of c.args.names.now) c.args.values.now c.loop-at.at c.get.result.now.name (get_or c.args.values.now c.loop-at.at 0) c.loop-at.invariant.0 c.push.ensures.items (get_map (λ (a : At). a.name) c.args.names.now c.loop-at.at c.get.result.now c.get.ensures) (slice_get-get_or c.args.values.now c.loop-at.at 0 lt),
      omega arith,
    )

pub returns : goal.returns
returns c = record {
  declared = declared_all c.args.slots.now.items c.loop-at.slots.items (names_of c.args.names.now) c.args.values.now c.loop-at.at c.loop-at.invariant.0 (omega (arith, length-map c.args.names.now (λ (a : At). a.name)));
}

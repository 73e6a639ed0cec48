-- Each turn declares the next local's name with its value.
use Rattle.std.proofs.Common.{◌<◌, [], length, arith, get_or}
use Rattle.std.proofs.lemmas.List.{length-map}
use Rattle.std.proofs.lemmas.Option.{slice_get-get_or}
use Rattle.thread_tree.specs.declared.local.Local.{Local}
use Rattle.thread_machine.specs.Seeking.{names_in}
use Rattle.thread_machine.proofs.ScopeLemmas.{get_map}
use Rattle.thread_machine.proofs.BindLemmas.{declared_more, declared_all}
use Rattle.thread_machine.proofs.at_loop.with_values.Goals as goal

pub returns : goal.returns
returns c = record {
  values = declared_all [] c.loop-at.slots.items (names_in c.args.locals.now) c.args.values.now c.loop-at.at c.loop-at.invariant.0 (omega (arith, length-map c.args.locals.now (λ (a : Local). a.name)));
}

pub loop-at-preserved : goal.loop-at-preserved
loop-at-preserved c =
    let zero : Local = record { name = 0; value = 0 } in
    let lt : c.loop-at.at < length c.args.values.now = omega arith in
    let in_locals : c.loop-at.at < length c.args.locals.now = omega arith in
    let found = slice_get-get_or c.args.locals.now c.loop-at.at zero in_locals in (
      declared_more [] c.loop-at.slots.items c.push.new.self.items (names_in c.args.locals.now) c.args.values.now c.loop-at.at (get_or c.args.locals.now c.loop-at.at zero).name (get_or c.args.values.now c.loop-at.at 0) c.loop-at.invariant.0 c.push.ensures.items (get_map (λ (a : Local). a.name) c.args.locals.now c.loop-at.at (get_or c.args.locals.now c.loop-at.at zero) found) (slice_get-get_or c.args.values.now c.loop-at.at 0 lt),
      omega arith,
    )

-- Each turn declares the next parameter with the value of its argument.
use Rattle.std.proofs.Common.{◌≡◌, arith, ap, ◌∙◌, take, drop}
use Rattle.thread_tree.specs.LocalState.{named}
use Rattle.thread_tree.specs.Program.{names_of}
use Rattle.thread_tree.specs.Value.{value_of, values_in}
use Rattle.thread_machine.proofs.ScopeLemmas.{filled_more, filled_all, range_of}
use Rattle.thread_machine.proofs.scope.fill.Goals as goal

pub loop-at-preserved : goal.loop-at-preserved
loop-at-preserved c =
    let own = drop c.args.base c.args.slots.now.items in
    let names = named (take c.loop-at.at (names_of c.args.parameters.now)) (take c.loop-at.at (values_in own c.args.arguments.now)) in
    let locals = range_of c.args.slots.now.items c.loop-at.slots.items c.as_slice.result.now names c.args.base c.len-begin.result c.as_slice.ensures.value c.loop-at.invariant.0 c.loop-at.invariant.2 c.requires.within in
    let value : c.evaluate-value.result ≡ value_of own c.get.result.now = c.evaluate-value.ensures.value ∙ ap (λ xs. value_of xs c.get.result.now) locals in (
      filled_more c.args.slots.now.items c.loop-at.slots.items c.push.new.self.items own c.args.parameters.now c.args.arguments.now c.loop-at.at c.get-in-loop-at.result.now c.get.result.now c.loop-at.invariant.0 (rw (← value) c.push.ensures.items) c.get-in-loop-at.ensures c.get.ensures,
      omega arith,
      omega arith,
    )

pub returns : goal.returns
returns c = record {
  filled = filled_all c.args.slots.now.items c.loop-at.slots.items (drop c.args.base c.args.slots.now.items) c.args.parameters.now c.args.arguments.now c.loop-at.at c.loop-at.invariant.0 (omega arith);
}

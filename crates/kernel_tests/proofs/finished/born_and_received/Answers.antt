use Rattle.thread_tree.specs.Program.{program_of}
use Rattle.thread_machine.specs.Context.{local_of}
use Rattle.kernel_tests.proofs.ArrivedLaws.{arrived_at}
use Rattle.kernel_tests.proofs.finished.born_and_received.Goals as goal

pub received-requires-clause-stands : goal.received-requires-clause-stands
received-requires-clause-stands g c =
    let p = program_of c.args.program.now in
    arrived_at p (local_of p c.fresh-ctx.result) (local_of p c.ahead.new.self) c.in-Action.number c.in-Action.ensures.arrived c.in-Action.ensures.moved

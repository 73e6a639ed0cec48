-- The block of the action that was found.
use Rattle.std.proofs.Common.{ℕ, ◌≡◌, ◌+◌, ◌-◌, ◌≤◌, List, length, sym, subst, ap, ◌∙◌, arith}
use Rattle.thread_tree.specs.Need.{need_of_tblock, callees}
use Rattle.thread_tree.specs.Program.{program_of}
use Rattle.thread_tree.specs.LocalState.{next_statement}
use Rattle.thread_tree.specs.declared.local.Local.{Local}
use Rattle.thread_tree.specs.declared.transaction.TBlock.{TBlock}
use Rattle.thread_machine.specs.Context.{local_of}
use Rattle.user_transactions.proofs.PerformLaws.{body-same, room-inside, room-next}
use Rattle.user_transactions.proofs.performing.perform.Goals as goal

pub perform_body-requires-clause-locals : goal.perform_body-requires-clause-locals
perform_body-requires-clause-locals g c =
    let p = program_of c.args.program.now in
    let s = c.requires.here.0 in
    let same = body-same p c.args.block s c.action-statement.result.now c.requires.here.1 c.requires.here.2 c.requires.here.3 c.requires.here.4 c.action-statement.ensures c.requires.here.6 c.in-Some.body.now c.in-Some.ensures.body in
    let locals = (local_of p c.args.ctx.now).top.locals in
    let room = room-inside (callees p) s c.requires.here.1 c.requires.here.2 c.requires.here.3 (length locals) c.requires.here.6 (room-next (callees p) (next_statement (local_of p c.args.ctx.now).top.todo) s (length locals) c.requires.here.5 c.own_locals-locals.ensures.room) in
    omega (arith, room, ap (λ (b : TBlock). (need_of_tblock b).locals) same, ap (λ (xs : List Local). length xs) c.own_locals-locals.ensures.locals)

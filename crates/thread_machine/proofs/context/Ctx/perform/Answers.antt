-- The room of each move by the limits, and the locals in scope behind it.
use Rattle.std.proofs.Common.{◌≡◌, refl, ap, sym, ◌∙◌}
use Rattle.thread_tree.specs.declared.block.Stmt.{out-Stmt, out-roll-Stmt}
use Rattle.thread_tree.specs.declared.block.Stmt.TheVariants.{rolls-Let, rolls-Apply, rolls-Set, rolls-If, rolls-While}
use Rattle.thread_tree.specs.declared.block.Stmt.TheOpen as stmt
use Rattle.thread_tree.specs.Program.{program_of, function_of}
use Rattle.thread_machine.proofs.KeepLemmas.{declares}
use Rattle.thread_machine.proofs.RoomLemmas.{room_for_local, room_for_cursor, room_for_call}
use Rattle.thread_machine.proofs.context.Ctx.perform.Goals as goal

pub declare-requires-clause-room : goal.declare-requires-clause-room
declare-requires-clause-room c =
    let layer : out-Stmt c.args.statement.now ≡ stmt.Let c.in-Let.at c.in-Let.e =
    ap out-Stmt (c.in-Let.is ∙ sym (rolls-Let c.in-Let.at c.in-Let.e)) ∙ out-roll-Stmt (stmt.Let c.in-Let.at c.in-Let.e) in
    room_for_local (program_of c.args.tree.now) c.args.self.now c.args.statement.now c.in-Let.at c.in-Let.e c.requires.within c.requires.counted c.requires.here layer

pub call-requires-clause-room : goal.call-requires-clause-room
call-requires-clause-room c =
    room_for_cursor (program_of c.args.tree.now) c.args.self.now c.args.statement.now c.requires.within c.requires.counted c.requires.here

pub call-requires-clause-locals : goal.call-requires-clause-locals
call-requires-clause-locals c =
    let layer : out-Stmt c.args.statement.now ≡ stmt.Apply c.in-Apply.field-0 c.in-Apply.callee c.in-Apply.arguments =
    ap out-Stmt (c.in-Apply.is ∙ sym (rolls-Apply c.in-Apply.field-0 c.in-Apply.callee c.in-Apply.arguments)) ∙ out-roll-Stmt (stmt.Apply c.in-Apply.field-0 c.in-Apply.callee c.in-Apply.arguments) in
    room_for_call (program_of c.args.tree.now) c.args.self.now c.args.statement.now c.in-Apply.field-0 c.in-Apply.callee c.in-Apply.arguments (function_of (program_of c.args.tree.now) c.in-Apply.callee.name) c.requires.fits c.requires.within c.requires.counted c.requires.here layer refl

pub branch-self-requires-clause-room : goal.branch-self-requires-clause-room
branch-self-requires-clause-room c =
    room_for_cursor (program_of c.args.tree.now) c.args.self.now c.args.statement.now c.requires.within c.requires.counted c.requires.here

pub test-requires-clause-room : goal.test-requires-clause-room
test-requires-clause-room c =
    room_for_cursor (program_of c.args.tree.now) c.args.self.now c.args.statement.now c.requires.within c.requires.counted c.requires.here

pub returns-in-Let-clause-scoped : goal.returns-in-Let-clause-scoped
returns-in-Let-clause-scoped c =
    let layer : out-Stmt c.args.statement.now ≡ stmt.Let c.in-Let.at c.in-Let.e =
    ap out-Stmt (c.in-Let.is ∙ sym (rolls-Let c.in-Let.at c.in-Let.e)) ∙ out-roll-Stmt (stmt.Let c.in-Let.at c.in-Let.e) in
    c.declare.ensures.scoped (program_of c.args.tree.now) c.args.statement.now c.requires.here (declares c.args.statement.now (stmt.Let c.in-Let.at c.in-Let.e) layer)

pub returns-in-Set-clause-scoped : goal.returns-in-Set-clause-scoped
returns-in-Set-clause-scoped c =
    let layer : out-Stmt c.args.statement.now ≡ stmt.Set c.in-Set.at c.in-Set.e =
    ap out-Stmt (c.in-Set.is ∙ sym (rolls-Set c.in-Set.at c.in-Set.e)) ∙ out-roll-Stmt (stmt.Set c.in-Set.at c.in-Set.e) in
    c.set.ensures.scoped (program_of c.args.tree.now) c.args.statement.now c.requires.here (declares c.args.statement.now (stmt.Set c.in-Set.at c.in-Set.e) layer)

pub returns-in-If-clause-scoped : goal.returns-in-If-clause-scoped
returns-in-If-clause-scoped c =
    let layer : out-Stmt c.args.statement.now ≡ stmt.If c.in-If.e c.in-If.field-1 c.in-If.other =
    ap out-Stmt (c.in-If.is ∙ sym (rolls-If c.in-If.e c.in-If.field-1 c.in-If.other)) ∙ out-roll-Stmt (stmt.If c.in-If.e c.in-If.field-1 c.in-If.other) in
    c.branch-self.ensures.scoped (program_of c.args.tree.now) c.args.statement.now c.requires.here (declares c.args.statement.now (stmt.If c.in-If.e c.in-If.field-1 c.in-If.other) layer)

pub returns-in-While-clause-scoped : goal.returns-in-While-clause-scoped
returns-in-While-clause-scoped c =
    let layer : out-Stmt c.args.statement.now ≡ stmt.While c.in-While.e c.in-While.field-1 =
    ap out-Stmt (c.in-While.is ∙ sym (rolls-While c.in-While.e c.in-While.field-1)) ∙ out-roll-Stmt (stmt.While c.in-While.e c.in-While.field-1) in
    c.test.ensures.scoped (program_of c.args.tree.now) c.args.statement.now c.requires.here (declares c.args.statement.now (stmt.While c.in-While.e c.in-While.field-1) layer)

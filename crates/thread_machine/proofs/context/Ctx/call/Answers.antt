-- The body of a function that is called.
use Rattle.std.proofs.Common.{sym}
use Rattle.thread_tree.specs.declared.block.Stmt.TheOpen as stmt
use Rattle.thread_tree.specs.Program.{program_of}
use Rattle.thread_machine.proofs.KeepLemmas.{called_scoped, declares}
use Rattle.thread_machine.proofs.CallLemmas.{called_local, called_counted}
use Rattle.thread_machine.proofs.context.Ctx.call.Goals as goal

pub returns-in-Some-clause-counted : goal.returns-in-Some-clause-counted
returns-in-Some-clause-counted c =
    called_counted (program_of c.args.tree.now) c.args.self.now c.open.new.self _ _ c.open.ensures.cursors c.open.ensures.slots c.open.ensures.kept c.requires.counted

pub returns-in-Some-clause-moved : goal.returns-in-Some-clause-moved
returns-in-Some-clause-moved c = λ s to name here layer same.
    called_local (program_of c.args.tree.now) c.args.self.now c.open.new.self s to name c.args.arguments.now _ c.args.callee here layer same c.requires.counted.within (sym c.in-Some.ensures.found) c.open.ensures.cursors c.open.ensures.slots c.open.ensures.kept

pub returns-in-Some-clause-scoped : goal.returns-in-Some-clause-scoped
returns-in-Some-clause-scoped c = λ s to name here layer same scoped.
    called_scoped (program_of c.args.tree.now) c.args.self.now c.open.new.self s to name c.args.arguments.now _ c.args.callee here layer same (sym c.in-Some.ensures.found) c.open.ensures.cursors c.open.ensures.slots c.open.ensures.kept scoped

pub returns-in-None-clause-scoped : goal.returns-in-None-clause-scoped
returns-in-None-clause-scoped c = λ s to name here layer same scoped.
    c.pass.ensures.scoped (program_of c.args.tree.now) s here (declares s (stmt.Apply to name c.args.arguments.now) layer) scoped

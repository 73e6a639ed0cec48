-- What no fault says of the program's limits, its actions and its functions.
use Rattle.std.proofs.Common.{rules, subst}
use Rattle.thread_tree.specs.declared.tree.Tree.{Tree}
use Rattle.thread_tree.specs.Limits.{IsSound}
use Rattle.thread_tree.specs.Program.{program_of}
use Rattle.thread_check.proofs.ProgramFits.{fit, loopless}
use Rattle.thread_check.proofs.WithinLaws.{within, sound}
use Rattle.thread_check.proofs.checked.Checked.tree.Goals as goal

pub returns-clause-within : goal.returns-clause-within
returns-clause-within c = within c.args.self.now (search rules)

pub returns-clause-sound : goal.returns-clause-sound
returns-clause-sound c =
    subst (λ (t : Tree). IsSound (program_of t)) c.self.view_is (sound c.self.inside.tree c.self.invariant.0 c.self.invariant.1)

pub returns-clause-fit : goal.returns-clause-fit
returns-clause-fit c = fit c.args.self.now (search rules)

pub returns-clause-loopless : goal.returns-clause-loopless
returns-clause-loopless c = loopless c.args.self.now (search rules)

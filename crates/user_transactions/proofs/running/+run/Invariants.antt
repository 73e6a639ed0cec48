-- The statements up to a place were done; each turn spends a move.
use Rattle.thread_tree.specs.Program.{program_of}
use Rattle.user_transactions.proofs.RunLaws.{IsRunning}
use Rattle.user_transactions.proofs.running.+run.Given as goal

abbrev pub decreases-run : goal.decreases-run
decreases-run g l = l.work.now.moves

abbrev pub invariant-running : goal.invariant-running
invariant-running g l = IsRunning g.N.Nv (program_of l.program) l.fn.level l.block l.fn.tx l.fn.work l.keep l.at l.tx l.work

abbrev pub decreases-running : goal.decreases-running
decreases-running g l = l.work.moves

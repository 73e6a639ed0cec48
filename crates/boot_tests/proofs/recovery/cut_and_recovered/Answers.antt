use Rattle.std.proofs.Common.{List, ℕ, sym, subst}
use Rattle.thread_tree.specs.Program.{program_of}
use Rattle.kernel_model.specs.Run.{initial}
use Rattle.replay_list.specs.Kept.{IsKept}
use Rattle.boot_tests.proofs.recovery.cut_and_recovered.Goals as goal

pub recovered-requires-clause-kept : goal.recovered-requires-clause-kept
recovered-requires-clause-kept g c =
    (initial (program_of c.args.program.now), c.formatting_stands.ensures.blank (program_of c.args.program.now) (g.N.Nv.words c.args.nv) c.requires.blank)

pub recovered-requires-in-Err-clause-kept : goal.recovered-requires-in-Err-clause-kept
recovered-requires-in-Err-clause-kept g c =
    let start = initial (program_of c.args.program.now) in
    let blank = c.formatting_stands.ensures.blank (program_of c.args.program.now) (g.N.Nv.words c.args.nv) c.requires.blank in
    (start, subst (λ (words : List ℕ). IsKept (program_of c.args.program.now) words start) (sym c.again-nv.ensures.words) (c.in-Err.ensures.kept start blank))

use Rattle.std.proofs.Common.{◌<◌, ◌≤◌, length, refl, arith}
use Rattle.thread_tree.specs.Program.{program_of}
use Rattle.boot_report.proofs.Locals.{local_put, locals_last}
use Rattle.boot_report.proofs.threads.with_locals.Goals as goal

pub loop-at-preserved : goal.loop-at-preserved
loop-at-preserved c =
    let low : c.loop-at.at < length c.args.locals.now = omega arith in
    record {
      text = local_put (program_of c.args.program.now) _ _ _ _ c.args.locals.now c.loop-at.at low c.loop-at.invariant.text c.with_local-line.ensures.text;
      len = omega (arith, c.loop-at.invariant.len, c.with_local-line.ensures.len);
    }

pub returns-clause-text : goal.returns-clause-text
returns-clause-text c =
    let past : length c.args.locals.now ≤ c.loop-at.at = omega arith in
    locals_last (program_of c.args.program.now) _ _ c.args.locals.now c.loop-at.at past c.loop-at.invariant.text

use Rattle.std.proofs.Common.{arith}
use Rattle.served_program.proofs.StartLaws.{starts_next}
use Rattle.served_program.proofs.program.start_count.Goals as goal

pub loop-i-preserved : goal.loop-i-preserved
loop-i-preserved c =
    let more = starts_next c.args.decls.now c.loop-i.i c.get.result.now c.get.ensures in record {
      count = omega (arith, c.loop-i.invariant.count, c.starts_in-count.ensures.count);
      few = omega (arith, c.loop-i.invariant.few, c.starts_in-count.ensures.few);
    }

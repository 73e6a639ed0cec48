use Rattle.std.proofs.Common.{◌≡◌, arith}
use Rattle.std.specs.declared.num.ParseIntError.{ParseIntError}
use Rattle.intos_run.proofs.Numbers.{not_read, not_written, read_same}
use Rattle.intos_run.proofs.command.number_of.Goals as goal
use Rattle.intos_run.proofs.command.number_of.Goals.{else-number-most-via-then-number-most+else-eq, else-number-most-via-else-number-most}

pub returns-in_default-clause-none : goal.returns-in_default-clause-none
returns-in_default-clause-none c number most same = not_read c.args.text.now c.in_default.field-0 number c.in_default.ensures.value.0 (omega arith) same

pub returns-else-number-most-clause-none : goal.returns-else-number-most-clause-none
returns-else-number-most-clause-none c number most same =
    let equal : c.in-Ok.number ≡ number = read_same ParseIntError c.args.text.now c.in-Ok.number number c.in-Ok.ensures.value.0 (omega arith) same in
    elim c.else-number-most.branch [
      | else-number-most-via-then-number-most+else-eq w ↦ not_written w.format.result.now c.args.text.now c.in-Ok.number number w.if-eq.ensures w.format.ensures.text equal same
      | else-number-most-via-else-number-most w ↦ absurd (omega arith)
    ]

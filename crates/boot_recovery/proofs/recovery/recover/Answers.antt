use Rattle.std.proofs.Common.{arith}
use Rattle.thread_tree.specs.Program.{program_of}
use Rattle.boot_recovery.proofs.KeptLaws.{recovery_bound}
use Rattle.boot_recovery.proofs.recovery.recover.Goals as goal

pub restore_all-contexts-requires : goal.restore_all-contexts-requires
restore_all-contexts-requires g c =
    let stands = c.in_ok-idle.ensures.stands c.requires.kept.0 c.requires.kept.1 in
    record { stands = (c.requires.kept.0.rows, stands.rows) }

pub returns-clause-stands : goal.returns-clause-stands
returns-clause-stands g c = λ K kept.
    let stands = c.in_ok-idle.ensures.stands K kept in
    record { image = stands; restored = c.restore_all-contexts.ensures.restored K.rows stands.rows }

pub returns-clause-counted : goal.returns-clause-counted
returns-clause-counted g c =
    let stands = c.in_ok-idle.ensures.stands c.requires.kept.0 c.requires.kept.1 in
    let first = c.in_ok-idle.ensures.counted in
    let then_more = c.restore_all-contexts.ensures.stepped c.requires.kept.0.rows stands.rows in
    omega (arith, first, then_more)

pub returns-clause-steps : goal.returns-clause-steps
returns-clause-steps g c = λ K kept.
    let stands = c.in_ok-idle.ensures.stands K kept in
    recovery_bound (program_of c.args.program.now) (g.N.Nv.words c.args.nv) K c.args.steps.now _ _ kept c.in_ok-idle.ensures.steps (c.restore_all-contexts.ensures.stepped K.rows stands.rows)

use Rattle.std.proofs.Common.{◌∙◌}
use Rattle.std.proofs.lemmas.Result.{err_from_is_err_and}
use Rattle.thread_tree.specs.Program.{program_of}
use Rattle.boot_report.proofs.Beginning.{begin-first, begin-part, begin-all}
use Rattle.boot_report.proofs.starting.put_begin.Goals as goal

pub returns-in_err-put_start-clause-puts : goal.returns-in_err-put_start-clause-puts
returns-in_err-put_start-clause-puts g c K stands =
    let p = err_from_is_err_and c.from_residual.result c.from_residual.ensures.1 in
    rw p.1 (begin-first c.args.number c.args.undone (program_of c.args.program.now) K _ _ (c.counter-events.ensures.events ∙ stands.image.events) (c.passed_by_all-replayed.ensures.all K stands) _ _ c.in_err-put_start.ensures.puts)

pub returns-in_err-put_threads-clause-puts : goal.returns-in_err-put_threads-clause-puts
returns-in_err-put_threads-clause-puts g c K stands =
    let failed = c.from_residual-in_err-put_threads in
    let p = err_from_is_err_and failed.result failed.ensures.1 in
    rw p.1 (begin-part c.args.number c.args.undone (program_of c.args.program.now) K _ _ (c.counter-events.ensures.events ∙ stands.image.events) (c.passed_by_all-replayed.ensures.all K stands) _ _ _ c.in_ok-put_start.ensures.puts (c.in_err-put_threads.ensures.puts K stands))

pub returns-clause-puts : goal.returns-clause-puts
returns-clause-puts g c K stands =
    begin-all c.args.number c.args.undone (program_of c.args.program.now) K _ _ (c.counter-events.ensures.events ∙ stands.image.events) (c.passed_by_all-replayed.ensures.all K stands) _ _ _ c.in_ok-put_start.ensures.puts (c.in_ok-put_threads.ensures.puts K stands)

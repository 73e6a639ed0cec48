use Rattle.std.proofs.Common.{[], ◌∷◌}
use Rattle.std.proofs.lemmas.Result.{err_from_is_err_and}
use Rattle.kernel_model.specs.Dump.{events_line, ticks_line}
use Rattle.kernel_dump.proofs.PutInParts.{part_of_line, part_of_lines, put_lines}
use Rattle.kernel_dump.proofs.dump.put_counters.Goals as goal

pub returns-in_err-put_events-clause-puts : goal.returns-in_err-put_events-clause-puts
returns-in_err-put_events-clause-puts g c =
    let p = err_from_is_err_and c.from_residual.result c.from_residual.ensures.1 in
    rw p.1 (part_of_line _ _ (events_line c.args.events) (ticks_line c.args.ticks ∷ []) c.in_err-put_events.ensures.puts)

pub returns-in_err-put_ticks-clause-puts : goal.returns-in_err-put_ticks-clause-puts
returns-in_err-put_ticks-clause-puts g c =
    let failed = c.from_residual-in_err-put_ticks in
    let p = err_from_is_err_and failed.result failed.ensures.1 in
    rw p.1 (part_of_lines _ _ _ (events_line c.args.events) (ticks_line c.args.ticks ∷ []) c.in_ok-put_events.ensures.puts c.in_err-put_ticks.ensures.puts)

pub returns-clause-puts : goal.returns-clause-puts
returns-clause-puts g c =
    put_lines _ _ _ (events_line c.args.events) (ticks_line c.args.ticks ∷ []) c.in_ok-put_events.ensures.puts c.in_ok-put_ticks.ensures.puts

use Rattle.std.proofs.lemmas.Result.{err_from_is_err_and}
use Rattle.thread_tree.specs.Program.{program_of}
use Rattle.kernel_model.specs.Show.{names_of}
use Rattle.kernel_image.specs.Decoded.{image_in}
use Rattle.kernel_dump.proofs.DumpParts.{console_few, dump_read}
use Rattle.kernel_dump.proofs.PutInParts.{IsLeft-all, IsLeft-next, IsLeft-next_part, IsLeft-part, IsLeft-last}
use Rattle.kernel_dump.proofs.dump.put_dump.Goals as goal

pub put_console-requires : goal.put_console-requires
put_console-requires g c = record { few = console_few _ _ c.requires.sound.0 c.requires.sound.1 c.requires.sound.2 }

pub returns-in_err-put_counters-clause-puts : goal.returns-in_err-put_counters-clause-puts
returns-in_err-put_counters-clause-puts g c =
    let p = err_from_is_err_and c.from_residual.result c.from_residual.ensures.1 in
    let all = dump_read (program_of c.args.program.now) (names_of (program_of c.args.program.now)) (image_in (g.W.Words.present c.args.words.now)) _ _ c.counter.ensures.events c.ticks.ensures.ticks c.requires.no_queues c.requires.no_semaphores c.requires.untimed in
    let left_0 = IsLeft-all _ _ _ all in
    rw p.1 (IsLeft-next_part _ _ _ _ _ _ left_0 c.in_err-put_counters.ensures.puts)

pub returns-in_err-put_rows-clause-puts : goal.returns-in_err-put_rows-clause-puts
returns-in_err-put_rows-clause-puts g c =
    let failed = c.from_residual-in_err-put_rows in
    let p = err_from_is_err_and failed.result failed.ensures.1 in
    let all = dump_read (program_of c.args.program.now) (names_of (program_of c.args.program.now)) (image_in (g.W.Words.present c.args.words.now)) _ _ c.counter.ensures.events c.ticks.ensures.ticks c.requires.no_queues c.requires.no_semaphores c.requires.untimed in
    let left_0 = IsLeft-all _ _ _ all in
    let left_1 = IsLeft-next _ _ _ _ _ _ left_0 c.in_ok-put_counters.ensures.puts in
    rw p.1 (IsLeft-next_part _ _ _ _ _ _ left_1 c.in_err-put_rows.ensures.puts)

pub returns-in_err-put_ready-clause-puts : goal.returns-in_err-put_ready-clause-puts
returns-in_err-put_ready-clause-puts g c =
    let failed = c.from_residual-in_err-put_ready in
    let p = err_from_is_err_and failed.result failed.ensures.1 in
    let all = dump_read (program_of c.args.program.now) (names_of (program_of c.args.program.now)) (image_in (g.W.Words.present c.args.words.now)) _ _ c.counter.ensures.events c.ticks.ensures.ticks c.requires.no_queues c.requires.no_semaphores c.requires.untimed in
    let left_0 = IsLeft-all _ _ _ all in
    let left_1 = IsLeft-next _ _ _ _ _ _ left_0 c.in_ok-put_counters.ensures.puts in
    let left_2 = IsLeft-next _ _ _ _ _ _ left_1 c.in_ok-put_rows.ensures.puts in
    rw p.1 (IsLeft-next_part _ _ _ _ _ _ left_2 c.in_err-put_ready.ensures.puts)

pub returns-in_err-put_objects-clause-puts : goal.returns-in_err-put_objects-clause-puts
returns-in_err-put_objects-clause-puts g c =
    let failed = c.from_residual-in_err-put_objects in
    let p = err_from_is_err_and failed.result failed.ensures.1 in
    let all = dump_read (program_of c.args.program.now) (names_of (program_of c.args.program.now)) (image_in (g.W.Words.present c.args.words.now)) _ _ c.counter.ensures.events c.ticks.ensures.ticks c.requires.no_queues c.requires.no_semaphores c.requires.untimed in
    let left_0 = IsLeft-all _ _ _ all in
    let left_1 = IsLeft-next _ _ _ _ _ _ left_0 c.in_ok-put_counters.ensures.puts in
    let left_2 = IsLeft-next _ _ _ _ _ _ left_1 c.in_ok-put_rows.ensures.puts in
    let left_3 = IsLeft-next _ _ _ _ _ _ left_2 c.in_ok-put_ready.ensures.puts in
    rw p.1 (IsLeft-next_part _ _ _ _ _ _ left_3 c.in_err-put_objects.ensures.puts)

pub returns-in_err-put_console-clause-puts : goal.returns-in_err-put_console-clause-puts
returns-in_err-put_console-clause-puts g c =
    let failed = c.from_residual-in_err-put_console in
    let p = err_from_is_err_and failed.result failed.ensures.1 in
    let all = dump_read (program_of c.args.program.now) (names_of (program_of c.args.program.now)) (image_in (g.W.Words.present c.args.words.now)) _ _ c.counter.ensures.events c.ticks.ensures.ticks c.requires.no_queues c.requires.no_semaphores c.requires.untimed in
    let left_0 = IsLeft-all _ _ _ all in
    let left_1 = IsLeft-next _ _ _ _ _ _ left_0 c.in_ok-put_counters.ensures.puts in
    let left_2 = IsLeft-next _ _ _ _ _ _ left_1 c.in_ok-put_rows.ensures.puts in
    let left_3 = IsLeft-next _ _ _ _ _ _ left_2 c.in_ok-put_ready.ensures.puts in
    let left_4 = IsLeft-next _ _ _ _ _ _ left_3 c.in_ok-put_objects.ensures.puts in
    rw p.1 (IsLeft-part _ _ _ _ _ left_4 c.in_err-put_console.ensures.puts)

pub returns-clause-puts : goal.returns-clause-puts
returns-clause-puts g c =
    let all = dump_read (program_of c.args.program.now) (names_of (program_of c.args.program.now)) (image_in (g.W.Words.present c.args.words.now)) _ _ c.counter.ensures.events c.ticks.ensures.ticks c.requires.no_queues c.requires.no_semaphores c.requires.untimed in
    let left_0 = IsLeft-all _ _ _ all in
    let left_1 = IsLeft-next _ _ _ _ _ _ left_0 c.in_ok-put_counters.ensures.puts in
    let left_2 = IsLeft-next _ _ _ _ _ _ left_1 c.in_ok-put_rows.ensures.puts in
    let left_3 = IsLeft-next _ _ _ _ _ _ left_2 c.in_ok-put_ready.ensures.puts in
    let left_4 = IsLeft-next _ _ _ _ _ _ left_3 c.in_ok-put_objects.ensures.puts in
    IsLeft-last _ _ _ _ _ left_4 c.in_ok-put_console.ensures.puts

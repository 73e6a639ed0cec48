use Rattle.std.proofs.Common.{ℕ, List, ◌≤◌, ◌<◌, refl, ap, ◌∙◌, subst, arith}
use Rattle.std.proofs.lemmas.Result.{err_from_is_err_and}
use Rattle.outer_world.specs.Written.{put_to, IsPart}
use Rattle.thread_tree.specs.Program.{program_of}
use Rattle.kernel_model.specs.Dump.{text_of}
use Rattle.kernel_model.specs.Show.{names_of}
use Rattle.kernel_image.specs.Cells.{present}
use Rattle.kernel_dump.proofs.Looped.{put_none, put_next, put_part, put_all}
use Rattle.kernel_dump.proofs.ThreadLines.{lines_of_thread, row_lines_are}
use Rattle.kernel_dump.proofs.rows.put_rows.Goals as goal

pub loop-thread-init : goal.loop-thread-init
loop-thread-init g c = record {
  left = put_none (g.S.Sink.bytes c.args.sink.now) (lines_of_thread (names_of (program_of c.args.program.now)) (present (g.W.Words.present c.args.words.now))) 16;
  faults = refl;
}

pub loop-thread-preserved : goal.loop-thread-preserved
loop-thread-preserved g c =
    let low : c.loop-thread.thread < 16 = omega arith in
    record {
      left = put_next _ _ (lines_of_thread (names_of (program_of c.args.program.now)) (present (g.W.Words.present c.args.words.now))) 16 _ c.loop-thread.thread low c.loop-thread.invariant.left c.in_ok-put_row.ensures.puts;
      faults = c.in_ok-put_row.ensures.cause.kept ∙ c.loop-thread.invariant.faults;
    }

pub returns-clause-puts : goal.returns-clause-puts
returns-clause-puts g c =
    let lines = lines_of_thread (names_of (program_of c.args.program.now)) (present (g.W.Words.present c.args.words.now)) in
    let past : 16 ≤ c.loop-thread.thread = omega arith in
    put_all _ _ lines 16 c.loop-thread.thread past c.loop-thread.invariant.left
    ∙ ap (λ (all : List (List ℕ)). put_to (g.S.Sink.bytes c.args.sink.now) (text_of all)) (row_lines_are (names_of (program_of c.args.program.now)) (present (g.W.Words.present c.args.words.now)))

pub returns-in_err-put_row-clause-puts : goal.returns-in_err-put_row-clause-puts
returns-in_err-put_row-clause-puts g c =
    let lines = lines_of_thread (names_of (program_of c.args.program.now)) (present (g.W.Words.present c.args.words.now)) in
    let low : c.loop-thread.thread < 16 = omega arith in
    let p = err_from_is_err_and c.from_residual.result c.from_residual.ensures.1 in
    rw p.1 (subst (λ (all : List (List ℕ)). IsPart (g.S.Sink.bytes c.args.sink.now) (g.S.Sink.bytes c.put_row.new.sink) (text_of all))
    (row_lines_are (names_of (program_of c.args.program.now)) (present (g.W.Words.present c.args.words.now)))
    (put_part _ _ lines 16 _ c.loop-thread.thread low c.loop-thread.invariant.left c.in_err-put_row.ensures.puts))

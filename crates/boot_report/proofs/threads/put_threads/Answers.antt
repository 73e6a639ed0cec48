use Rattle.std.proofs.Common.{ℕ, List, ◌≤◌, ◌<◌, refl, ap, ◌∙◌, subst, arith}
use Rattle.std.proofs.lemmas.Result.{err_from_is_err_and}
use Rattle.outer_world.specs.Written.{put_to, IsPart}
use Rattle.thread_tree.specs.Program.{program_of}
use Rattle.kernel_image.specs.Decoded.{image_in}
use Rattle.kernel_model.specs.Dump.{text_of}
use Rattle.kernel_dump.proofs.Callers.{put_none, put_next, put_part, put_all}
use Rattle.boot_report.proofs.Rows.{context-at, lines_at, thread_lines_are}
use Rattle.boot_report.proofs.threads.put_threads.Goals as goal

pub loop-thread-init : goal.loop-thread-init
loop-thread-init g c = record {
  left = put_none (g.S.Sink.bytes c.args.sink.now) (lines_at c.args.number (program_of c.args.program.now) (image_in (g.W.Words.present c.args.words.now)) c.args.contexts.now) 16;
  faults = refl;
}

pub put_row-requires-clause-context : goal.put_row-requires-clause-context
put_row-requires-clause-context g c =
    let h = c.requires.stands in
    context-at (program_of c.args.program.now) (image_in (g.W.Words.present c.args.words.now)) c.args.contexts.now h.0 h.1 c.loop-thread.thread (omega (arith, c.loop-thread-test.true))

pub loop-thread-preserved : goal.loop-thread-preserved
loop-thread-preserved g c =
    let low : c.loop-thread.thread < 16 = omega arith in
    record {
      left = put_next _ _ (lines_at c.args.number (program_of c.args.program.now) (image_in (g.W.Words.present c.args.words.now)) c.args.contexts.now) 16 _ c.loop-thread.thread low c.loop-thread.invariant.left c.in_ok-put_row.ensures.puts;
      faults = c.in_ok-put_row.ensures.cause.kept ∙ c.loop-thread.invariant.faults;
    }

pub returns-clause-puts : goal.returns-clause-puts
returns-clause-puts g c K stands =
    let lines = lines_at c.args.number (program_of c.args.program.now) (image_in (g.W.Words.present c.args.words.now)) c.args.contexts.now in
    let past : 16 ≤ c.loop-thread.thread = omega arith in
    put_all _ _ lines 16 c.loop-thread.thread past c.loop-thread.invariant.left
    ∙ ap (λ (all : List (List ℕ)). put_to (g.S.Sink.bytes c.args.sink.now) (text_of all))
    (thread_lines_are c.args.number (program_of c.args.program.now) (image_in (g.W.Words.present c.args.words.now)) c.args.contexts.now K stands)

pub returns-in_err-put_row-clause-puts : goal.returns-in_err-put_row-clause-puts
returns-in_err-put_row-clause-puts g c K stands =
    let lines = lines_at c.args.number (program_of c.args.program.now) (image_in (g.W.Words.present c.args.words.now)) c.args.contexts.now in
    let low : c.loop-thread.thread < 16 = omega arith in
    let p = err_from_is_err_and c.from_residual.result c.from_residual.ensures.1 in
    rw p.1 (subst (λ (all : List (List ℕ)). IsPart (g.S.Sink.bytes c.args.sink.now) (g.S.Sink.bytes c.put_row.new.sink) (text_of all))
    (thread_lines_are c.args.number (program_of c.args.program.now) (image_in (g.W.Words.present c.args.words.now)) c.args.contexts.now K stands)
    (put_part _ _ lines 16 _ c.loop-thread.thread low c.loop-thread.invariant.left c.in_err-put_row.ensures.puts))

use Rattle.std.proofs.Common.{ℕ, List, [], ◌∷◌, ap, sym, ◌∙◌}
use Rattle.outer_world.proofs.Callers.{put_nothing}
use Rattle.outer_world.specs.Written.{put_to}
use Rattle.thread_tree.specs.Program.{program_of}
use Rattle.kernel_model.specs.Dump.{is_free, row_line, text_of}
use Rattle.kernel_model.specs.Show.{names_of}
use Rattle.kernel_model.specs.declared.row_state.RowState.{RowState}
use Rattle.kernel_image.specs.Cells.{present}
use Rattle.kernel_image.specs.Decoded.{row_of}
use Rattle.kernel_image.specs.Shown.{state_of}
use Rattle.kernel_dump.proofs.Looped.{puts_same}
use Rattle.kernel_image.proofs.Callers.{row_at-decoded}
use Rattle.kernel_dump.proofs.ThreadLines.{lines_none, lines_one}
use Rattle.kernel_dump.proofs.rows.put_row.Goals as goal

pub returns-then-is_free-clause-puts : goal.returns-then-is_free-clause-puts
returns-then-is_free-clause-puts g c =
    let word = present (g.W.Words.present c.args.words.now) in
    let t = c.args.thread in
    let old = g.S.Sink.bytes c.args.sink.now in
    let state = c.row_state-state.ensures.state ∙ ap state_of (row_at-decoded word t c.requires.thread) in
    let none = ap is_free (sym state) ∙ sym c.is_free.ensures.is ∙ c.if-is_free.true in
    sym (ap (λ (lines : List (List ℕ)). put_to old (text_of lines)) (lines_none (names_of (program_of c.args.program.now)) t (row_of word t) none) ∙ put_nothing old)

pub returns-clause-puts : goal.returns-clause-puts
returns-clause-puts g c =
    let word = present (g.W.Words.present c.args.words.now) in
    let t = c.args.thread in
    let names = names_of (program_of c.args.program.now) in
    let state = c.row_state-state.ensures.state ∙ ap state_of (row_at-decoded word t c.requires.thread) in
    let some = ap is_free (sym state) ∙ sym c.is_free.ensures.is ∙ c.if-is_free.false in
    puts_same c.put_thread.result (g.S.Sink.bytes c.args.sink.now) (g.S.Sink.bytes c.put_thread.new.sink) _ _
    (ap (λ (s : RowState). row_line names t (record { template = (row_of word t).template; priority = (row_of word t).priority; state = s }) ∷ []) state
    ∙ sym (lines_one names t (row_of word t) some)) c.put_thread.ensures.puts

use Rattle.std.proofs.Common.{◌∙◌, sym, arith}
use Rattle.thread_tree.specs.Program.{program_of}
use Rattle.kernel_image.specs.Cells.{present}
use Rattle.kernel_image.specs.Decoded.{image_in, row_at}
use Rattle.boot_recovery.proofs.RowLaws.{row_word_0}
use Rattle.boot_recovery.proofs.BothLaws.{no_context, no_age, some_thread, some_context, some_age}
use Rattle.boot_recovery.proofs.rows.restore_row.Goals as goal

pub returns-then-state-eq-FREE-clause-restored : goal.returns-then-state-eq-FREE-clause-restored
returns-then-state-eq-FREE-clause-restored g c = λ known is.
    let state = row_word_0 (present (g.W.Words.present c.args.words.now)) c.args.thread c.requires.thread ∙ sym c.load-state.ensures.word ∙ c.if-state-eq-FREE.true in
    no_context (program_of c.args.program.now) (row_at (image_in (g.W.Words.present c.args.words.now)) c.args.thread) known is (λ some. absurd (omega (arith, state, some)))

pub returns-then-state-eq-FREE-clause-stepped : goal.returns-then-state-eq-FREE-clause-stepped
returns-then-state-eq-FREE-clause-stepped g c = λ known is.
    let state = row_word_0 (present (g.W.Words.present c.args.words.now)) c.args.thread c.requires.thread ∙ sym c.load-state.ensures.word ∙ c.if-state-eq-FREE.true in
    let age = no_age (program_of c.args.program.now) (row_at (image_in (g.W.Words.present c.args.words.now)) c.args.thread) known is (λ some. absurd (omega (arith, state, some))) in
    omega (arith, age)

pub returns-then-state-gt3-clause-restored : goal.returns-then-state-gt3-clause-restored
returns-then-state-gt3-clause-restored g c = λ known is.
    let state = row_word_0 (present (g.W.Words.present c.args.words.now)) c.args.thread c.requires.thread ∙ sym c.load-state.ensures.word in
    let more = c.if-state-gt3.true in
    no_context (program_of c.args.program.now) (row_at (image_in (g.W.Words.present c.args.words.now)) c.args.thread) known is (λ some. omega (arith, state, more))

pub returns-then-state-gt3-clause-stepped : goal.returns-then-state-gt3-clause-stepped
returns-then-state-gt3-clause-stepped g c = λ known is.
    let state = row_word_0 (present (g.W.Words.present c.args.words.now)) c.args.thread c.requires.thread ∙ sym c.load-state.ensures.word in
    let more = c.if-state-gt3.true in
    let age = no_age (program_of c.args.program.now) (row_at (image_in (g.W.Words.present c.args.words.now)) c.args.thread) known is (λ some. omega (arith, state, more)) in
    omega (arith, age)

pub restore-ctx-requires-clause-live : goal.restore-ctx-requires-clause-live
restore-ctx-requires-clause-live g c =
    let state = row_word_0 (present (g.W.Words.present c.args.words.now)) c.args.thread c.requires.thread ∙ sym c.load-state.ensures.word in
    let some = c.if-state-eq-FREE.false in
    let most = c.if-state-gt3.false in
    some_thread (program_of c.args.program.now) (row_at (image_in (g.W.Words.present c.args.words.now)) c.args.thread) c.requires.stands.0 c.requires.stands.1 (omega (arith, state, some)) (omega (arith, state, most))

pub returns-clause-restored : goal.returns-clause-restored
returns-clause-restored g c = λ known is.
    let state = row_word_0 (present (g.W.Words.present c.args.words.now)) c.args.thread c.requires.thread ∙ sym c.load-state.ensures.word in
    let some = c.if-state-eq-FREE.false in
    let most = c.if-state-gt3.false in
    some_context (program_of c.args.program.now) (row_at (image_in (g.W.Words.present c.args.words.now)) c.args.thread) c.restore-ctx.result known is (omega (arith, state, some)) (omega (arith, state, most)) c.restore-ctx.ensures.restored

pub returns-clause-stepped : goal.returns-clause-stepped
returns-clause-stepped g c = λ known is.
    let state = row_word_0 (present (g.W.Words.present c.args.words.now)) c.args.thread c.requires.thread ∙ sym c.load-state.ensures.word in
    let some = c.if-state-eq-FREE.false in
    let most = c.if-state-gt3.false in
    some_age (program_of c.args.program.now) (row_at (image_in (g.W.Words.present c.args.words.now)) c.args.thread) c.args.steps.now c.restore-ctx.new.steps known is (omega (arith, state, some)) (omega (arith, state, most)) c.restore-ctx.ensures.stepped

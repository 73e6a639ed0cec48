use Rattle.std.proofs.Common.{◌+◌, ◌<◌, ◌≤◌, ◌∙◌, ap, sym, arith}
use Rattle.kernel_image.specs.Cells.{present}
use Rattle.kernel_image.specs.Decoded.{image_in, row_at}
use Rattle.thread_tree.specs.Program.{program_of}
use Rattle.replay_list.specs.Records.{results_of}
use Rattle.boot_recovery.proofs.LifeLaws.{one_turn, turn_action, turned_to}
use Rattle.boot_recovery.proofs.RowLaws.{records_sized, record_word, record_cell}
use Rattle.boot_recovery.proofs.restoring.replay_record.Goals as goal

pub load-requires : goal.load-requires
load-requires g c =
    let turn = one_turn (program_of c.args.program.now) (row_at (image_in (g.W.Words.present c.args.words.now)) c.args.thread) c.args.from _ _ (records_sized (present (g.W.Words.present c.args.words.now)) c.args.thread c.requires.thread) c.requires.some c.requires.more in
    let fits = turn.fits in
    record { cell = record_cell c.args.thread c.args.from c.requires.thread (omega (arith, fits)) }

pub overflow_add-from : goal.overflow_add-from
overflow_add-from g c =
    let turn = one_turn (program_of c.args.program.now) (row_at (image_in (g.W.Words.present c.args.words.now)) c.args.thread) c.args.from _ _ (records_sized (present (g.W.Words.present c.args.words.now)) c.args.thread c.requires.thread) c.requires.some c.requires.more in
    let fits = turn.fits in
    let low : c.args.from < 256 = omega (arith, fits) in
    omega (arith, low)

pub words_at-requires-clause-within : goal.words_at-requires-clause-within
words_at-requires-clause-within g c =
    let turn = one_turn (program_of c.args.program.now) (row_at (image_in (g.W.Words.present c.args.words.now)) c.args.thread) c.args.from _ _ (records_sized (present (g.W.Words.present c.args.words.now)) c.args.thread c.requires.thread) c.requires.some c.requires.more in
    let fits = turn.fits in
    let many = c.result_count-count.ensures.count ∙ ap results_of (c.load.ensures.word ∙ sym (record_word (present (g.W.Words.present c.args.words.now)) c.args.thread c.args.from c.requires.thread (omega (arith, fits)))) in
    omega (arith, fits, many)

pub replay-requires-clause-action : goal.replay-requires-clause-action
replay-requires-clause-action g c =
    let turn = one_turn (program_of c.args.program.now) (row_at (image_in (g.W.Words.present c.args.words.now)) c.args.thread) c.args.from _ _ (records_sized (present (g.W.Words.present c.args.words.now)) c.args.thread c.requires.thread) c.requires.some c.requires.more in
    let fits = turn.fits in
    let many = c.result_count-count.ensures.count ∙ ap results_of (c.load.ensures.word ∙ sym (record_word (present (g.W.Words.present c.args.words.now)) c.args.thread c.args.from c.requires.thread (omega (arith, fits)))) in
    turn_action (program_of c.args.program.now) (row_at (image_in (g.W.Words.present c.args.words.now)) c.args.thread) c.args.from c.result_count-count.result _ _ _ _ c.as_slice.result.now (records_sized (present (g.W.Words.present c.args.words.now)) c.args.thread c.requires.thread) turn many
    (c.as_slice.ensures.value ∙ c.words_at.ensures.words)

pub overflow_add-result : goal.overflow_add-result
overflow_add-result g c =
    let turn = one_turn (program_of c.args.program.now) (row_at (image_in (g.W.Words.present c.args.words.now)) c.args.thread) c.args.from _ _ (records_sized (present (g.W.Words.present c.args.words.now)) c.args.thread c.requires.thread) c.requires.some c.requires.more in
    let fits = turn.fits in
    let low : c.args.from < 256 = omega (arith, fits) in
    omega (arith, low)

pub overflow_add-result-2 : goal.overflow_add-result-2
overflow_add-result-2 g c =
    let turn = one_turn (program_of c.args.program.now) (row_at (image_in (g.W.Words.present c.args.words.now)) c.args.thread) c.args.from _ _ (records_sized (present (g.W.Words.present c.args.words.now)) c.args.thread c.requires.thread) c.requires.some c.requires.more in
    let fits = turn.fits in
    let many = c.result_count-count.ensures.count ∙ ap results_of (c.load.ensures.word ∙ sym (record_word (present (g.W.Words.present c.args.words.now)) c.args.thread c.args.from c.requires.thread (omega (arith, fits)))) in
    let within : c.args.from + 1 + c.result_count-count.result ≤ 256 = omega (arith, fits, many) in
    omega (arith, within)

pub returns-clause-within : goal.returns-clause-within
returns-clause-within g c =
    let turn = one_turn (program_of c.args.program.now) (row_at (image_in (g.W.Words.present c.args.words.now)) c.args.thread) c.args.from _ _ (records_sized (present (g.W.Words.present c.args.words.now)) c.args.thread c.requires.thread) c.requires.some c.requires.more in
    let fits = turn.fits in
    let many = c.result_count-count.ensures.count ∙ ap results_of (c.load.ensures.word ∙ sym (record_word (present (g.W.Words.present c.args.words.now)) c.args.thread c.args.from c.requires.thread (omega (arith, fits)))) in
    omega (arith, fits, many)

pub returns-clause-turned : goal.returns-clause-turned
returns-clause-turned g c = λ before known remains.
    let turn = one_turn (program_of c.args.program.now) (row_at (image_in (g.W.Words.present c.args.words.now)) c.args.thread) c.args.from _ _ (records_sized (present (g.W.Words.present c.args.words.now)) c.args.thread c.requires.thread) c.requires.some c.requires.more in
    let fits = turn.fits in
    let many = c.result_count-count.ensures.count ∙ ap results_of (c.load.ensures.word ∙ sym (record_word (present (g.W.Words.present c.args.words.now)) c.args.thread c.args.from c.requires.thread (omega (arith, fits)))) in
    turned_to (program_of c.args.program.now) (row_at (image_in (g.W.Words.present c.args.words.now)) c.args.thread) c.args.from c.result_count-count.result _ _ before _ _ known c.as_slice.result.now (records_sized (present (g.W.Words.present c.args.words.now)) c.args.thread c.requires.thread) remains c.requires.some many
    (c.as_slice.ensures.value ∙ c.words_at.ensures.words) c.replay.ensures.bound c.replay.ensures.stepped

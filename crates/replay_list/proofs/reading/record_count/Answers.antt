use Rattle.std.proofs.Common.{arith, ap}
use Rattle.kernel_image.specs.Cells.{present}
use Rattle.kernel_image.specs.Decoded.{image_in, row_at}
use Rattle.replay_list.specs.Records.{results_of}
use Rattle.replay_list.proofs.RecordLaws.{counted_more}
use Rattle.replay_list.proofs.WordLaws.{record_words_many}
use Rattle.replay_list.proofs.reading.record_count.Goals as goal

pub overflow_add-count : goal.overflow_add-count
overflow_add-count g c =
    let counted = c.loop-from.invariant c.requires.encoded.0 c.requires.encoded.1 c.requires.encoded.2 in
    let least = counted.least in
    let used = c.words_used-used.ensures.used in
    omega (arith, least, used)

pub loop-from-preserved : goal.loop-from-preserved
loop-from-preserved g c rs words fit =
    let many = record_words_many (present (g.W.Words.present c.args.words.now)) c.args.thread c.requires.thread in
    let used = c.words_used-used.ensures.used in
    counted_more (row_at (image_in (g.W.Words.present c.args.words.now)) c.args.thread) rs c.loop-from.count c.loop-from.from _ words fit (omega (arith, many)) (omega (arith, used)) (omega (arith, c.result_count.ensures.count, ap results_of c.record_word.ensures.word)) (c.loop-from.invariant rs words fit)

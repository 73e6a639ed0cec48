use Rattle.std.proofs.Common.{arith}
use Rattle.kernel_image.specs.Cells.{present}
use Rattle.replay_list.proofs.AppendLaws.{appended_is}
use Rattle.replay_list.proofs.appending.append.Goals as goal

pub returns-clause-appended : goal.returns-clause-appended
returns-clause-appended g c =
    let used = c.words_used-used.ensures.used in
    appended_is (present (g.N.Nv.words c.args.tx.now)) c.args.thread c.args.kind_word c.words_used-used.result c.args.results.now c.requires.thread _ _ _
    used (omega (arith, used)) c.in_ok-store_word.ensures.stored c.in_ok-store_results.ensures.stored c.in_ok-store_used.ensures.stored

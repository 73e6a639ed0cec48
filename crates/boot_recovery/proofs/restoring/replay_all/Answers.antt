use Rattle.std.proofs.Common.{ℕ, ◌<◌, ◌≤◌, ◌∙◌, sym, subst}
use Rattle.boot_recovery.proofs.RowLaws.{row_word_15}
use Rattle.boot_recovery.proofs.restoring.replay_all.Goals as goal

pub replay_record-from-requires-clause-some : goal.replay_record-from-requires-clause-some
replay_record-from-requires-clause-some g c =
    subst (λ (m : ℕ). c.loop-from.from < m) (c.load-used.ensures.word ∙ sym (row_word_15 _ c.args.thread c.requires.thread)) c.loop-from-test.true

pub replay_record-from-requires-clause-more : goal.replay_record-from-requires-clause-more
replay_record-from-requires-clause-more g c = (c.requires.more.0, c.requires.more.1, c.loop-from.invariant.goes c.requires.more.0 c.requires.more.1 c.requires.more.2)

pub returns-clause-replayed : goal.returns-clause-replayed
returns-clause-replayed g c = λ before known remains. (
  c.loop-from.from,
  subst (λ (m : ℕ). m ≤ c.loop-from.from) (c.load-used.ensures.word ∙ sym (row_word_15 _ c.args.thread c.requires.thread)) c.loop-from-test.false,
  c.loop-from.invariant.goes before known remains,
)

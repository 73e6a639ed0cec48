use Rattle.std.proofs.Common.{◌∙◌, ap, take, arith}
use Rattle.kernel_image.specs.Decoded.{image_in, row_at}
use Rattle.replay_list.proofs.starting.start_values.Goals as goal

pub returns : goal.returns
returns g c = record {
  values = c.loop-i.invariant
      ∙ ap (λ (n : _). take n (row_at (image_in (g.W.Words.present c.args.words.now)) c.args.thread).start_values) (omega (arith, c.value_count-count.ensures.count));
}

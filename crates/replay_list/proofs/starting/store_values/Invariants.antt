use Rattle.std.proofs.Common.{◌≡◌}
use Rattle.std.proofs.Math.Seq.{paste}
use Rattle.undo_journal.specs.Lending.{IsLent, IsWithin}
use Rattle.kernel_image.specs.Decoded.{image_in, row_at, with_row}
use Rattle.replay_list.proofs.starting.store_values.Given as goal

abbrev pub invariant-loop-at : goal.invariant-loop-at
invariant-loop-at g l = record {
  lent : IsLent g.N.Nv l.initial.tx l.tx;
  within : IsWithin g.N.Nv l.initial.tx l.tx l.at;
  stored : image_in (g.N.Nv.words l.tx) ≡ with_row (image_in (g.N.Nv.words l.initial.tx)) l.thread (record (row_at (image_in (g.N.Nv.words l.initial.tx)) l.thread)
      { start_values = paste (row_at (image_in (g.N.Nv.words l.initial.tx)) l.thread).start_values 0 l.values l.at });
}

use Rattle.std.proofs.Common.{◌≡◌, ◌-◌, ◌/◌}
use Rattle.undo_journal.specs.Lending.{IsLent, IsWithin}
use Rattle.kernel_image.specs.Decoded.{image_in}
use Rattle.console_store.proofs.Bytes.{IsGrown}
use Rattle.console_store.proofs.appending.store_words.Given as goal

abbrev pub invariant-loop-i : goal.invariant-loop-i
invariant-loop-i g l = record {
  lent : IsLent g.N.Nv l.initial.tx l.tx;
  within : IsWithin g.N.Nv l.initial.tx l.tx (l.i - l.len / 4);
  rest : record (image_in (g.N.Nv.words l.tx)) { console = (image_in (g.N.Nv.words l.initial.tx)).console } ≡ image_in (g.N.Nv.words l.initial.tx);
  grown : IsGrown (image_in (g.N.Nv.words l.initial.tx)).console l.len l.bytes l.i (image_in (g.N.Nv.words l.tx)).console;
}

use Rattle.std.proofs.Common.{◌≡◌, take, length}
use Rattle.kernel_image.specs.Decoded.{image_in}
use Rattle.console_store.specs.Console.{bytes_in}
use Rattle.kernel_dump.proofs.console.read_console.Given as goal

abbrev pub invariant-loop-at : goal.invariant-loop-at
invariant-loop-at g l = record {
  len : length l.bytes.items ≡ l.at;
  read : l.bytes.items ≡ take l.at (bytes_in (image_in (g.W.Words.present l.words)));
}

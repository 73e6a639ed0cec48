use Rattle.std.proofs.Common.{refl}
use Rattle.thread_print.proofs.Writer.{wrote_two}
use Rattle.thread_print.proofs.printer.Printer.pieces.Goals as goal

pub returns-in-Five : goal.returns-in-Five
returns-in-Five c = rw (c.in-Five.is) (wrote_two c.piece-in-Five.ensures (wrote_two c.next_piece-in-Five.ensures (wrote_two c.next_piece-in-Five-2.ensures (wrote_two c.next_piece-in-Five-3.ensures c.next_piece-in-Five-4.ensures refl) refl) refl) refl)

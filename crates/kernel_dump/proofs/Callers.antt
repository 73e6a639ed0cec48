-- What the crates above may cite of these proofs.
pub use Rattle.kernel_dump.proofs.PutInParts.{part_of_line, part_of_lines, put_lines, IsLeft}
pub use Rattle.kernel_dump.proofs.Looped.{put_none, put_next, put_part, put_all, lines_below, text_from}

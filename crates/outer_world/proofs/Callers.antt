-- What the crates above may cite of these proofs.
pub use Rattle.outer_world.proofs.WrittenLaws.{put_nothing, part_of_first, all_is_part, put_twice, part_of_second}

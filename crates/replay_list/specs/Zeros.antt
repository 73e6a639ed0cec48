-- What the words are that nothing reads.
use Rattle.std.specs.Prelude.{replicate}
use Rattle.kernel_image.specs.Unread.{Unread}
use Rattle.thread_tree.specs.declared.limits.TheConstants.{ROWS, TARGETS}

-- all of them are 0: nine heads, four links of each row, the heads and the unused words of each queue and semaphore, and
-- the unused words of the header and behind the journal
abbrev pub zeros : Unread
zeros = record {
  heads = replicate 9 0;
  links = replicate ROWS (replicate 4 0);
  of_queues = replicate TARGETS (replicate 14 0);
  of_semaphores = replicate TARGETS (replicate 3 0);
  header = replicate 48 0;
  behind = replicate 1856 0;
}

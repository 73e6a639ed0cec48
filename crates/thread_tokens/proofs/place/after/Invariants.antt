use Rattle.std.proofs.Common.{◌≡◌, ◌+◌, ◌≤◌, take}
use Rattle.thread_tokens.specs.Scan.{after}
use Rattle.thread_tokens.proofs.place.after.Given as goal

abbrev pub invariant-loop-byte : goal.invariant-loop-byte
invariant-loop-byte l = record {
  same : l.place ≡ after l.initial.place (take l.byte-index l.bytes);
  line : l.place.line ≤ l.initial.place.line + l.byte-index;
  column : l.place.column ≤ l.initial.place.column + l.byte-index;
}

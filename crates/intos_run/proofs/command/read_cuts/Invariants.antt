use Rattle.std.proofs.Common.{◌≡◌, ◌<◌, ◌^◌, All, map, take, string_bytes, decimal}
use Rattle.intos_run.proofs.command.read_cuts.Given as goal

abbrev pub invariant-loop-word : goal.invariant-loop-word
invariant-loop-word l = (map string_bytes (take l.word-index l.words) ≡ map decimal l.cuts.items) × All (λ cut. cut < 2 ^ 32) l.cuts.items

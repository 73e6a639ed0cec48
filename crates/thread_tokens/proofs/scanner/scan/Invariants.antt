use Rattle.std.proofs.Common.{◌≡◌, length}
use Rattle.thread_tokens.specs.Scan.{scan_of}
use Rattle.thread_tokens.specs.Steps.{HasRoom, going_on}
use Rattle.thread_tokens.proofs.scanner.scan.Given as goal

abbrev pub invariant-loop-rest : goal.invariant-loop-rest
invariant-loop-rest l = record {
  same : scan_of l.fn.text ≡ going_on l.scanner.tokens.items l.scanner.names l.scanner.place l.rest;
  room : HasRoom l.scanner.names l.scanner.place l.rest;
}

abbrev pub decreases-loop-rest : goal.decreases-loop-rest
decreases-loop-rest l = length l.rest

-- Sets of laws, by the functions that use them.
use Rattle.std.proofs.Common.{append_assoc, append-nil}

-- for texts behind texts
pub ruleset text_laws = (append_assoc, append-nil)

use Rattle.std.proofs.Common.{rules}
use Rattle.thread_text.proofs.Made.{begins_at}
use Rattle.thread_text.proofs.cursor.Cursor.place.Goals as goal

pub returns-clause-begins : goal.returns-clause-begins
returns-clause-begins c = begins_at _ c.first-item.result (search rules) (search rules)

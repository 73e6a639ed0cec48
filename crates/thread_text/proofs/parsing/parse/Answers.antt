use Rattle.thread_tokens.specs.Scan.{scan_of}
use Rattle.thread_text.proofs.Explained.{answer_explained}
use Rattle.thread_text.proofs.Parsed.{answer_parsed}
use Rattle.thread_text.proofs.parsing.parse.Goals as goal

pub returns-clause-explained : goal.returns-clause-explained
returns-clause-explained c = answer_explained c.answered.result (scan_of c.args.text.now).tokens (scan_of c.args.text.now).ending c.answered.ensures.answer

pub returns-clause-parsed : goal.returns-clause-parsed
returns-clause-parsed c = answer_parsed c.args.text.now c.answered.result c.answered.ensures.ok c.answered.ensures.names

use Rattle.thread_tokens.proofs.PieceLemmas.{piece_word}
use Rattle.thread_tokens.proofs.lexeme.name.Goals as goal

pub returns-in-Some : goal.returns-in-Some
returns-in-Some c = record { same = piece_word c.args.text.now c.name_length-length.result c.in-Some.word c.requires.unseparated c.requires.letter c.name_length-length.ensures.same c.in-Some.ensures.first }

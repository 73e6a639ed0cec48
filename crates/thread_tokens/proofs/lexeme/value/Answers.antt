use Rattle.std.proofs.Common.{arith}
use Rattle.std.proofs.lemmas.Int.Digits.{digits_value_more}
use Rattle.thread_tokens.proofs.ByteLemmas.{digit-at}
use Rattle.thread_tokens.proofs.lexeme.value.Goals as goal

pub loop-byte-preserved : goal.loop-byte-preserved
loop-byte-preserved c =
    let digits = c.args.digits.now in
    let i = c.loop-byte.byte-index in
    omega (arith, digits_value_more 10 digits i (omega arith), digit-at digits i c.requires.digits (omega arith))

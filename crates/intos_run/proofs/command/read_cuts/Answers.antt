use Rattle.std.proofs.Common.{string_bytes, ◌∙◌, arith}
use Rattle.intos_run.proofs.Commands.{word_number}
use Rattle.intos_run.proofs.command.read_cuts.Goals as goal

pub returns-in_default-clause-usage : goal.returns-in_default-clause-usage
returns-in_default-clause-usage c = λ fault cuts few fit same.
    let number = word_number string_bytes c.args.words.now cuts c.loop-word.word-index c.word-item.result same fit c.loop-word-test.true c.word-item.is in
    c.in_default.ensures.none number.0 (omega (arith, number.1)) (c.as_str.ensures.value ∙ number.2)

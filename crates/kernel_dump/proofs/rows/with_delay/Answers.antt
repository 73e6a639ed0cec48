use Rattle.std.proofs.Common.{ℕ, List, ◌++◌, codes, ap, ◌∙◌, append_assoc}
use Rattle.std.specs.Fmt.{decimal}
use Rattle.kernel_dump.proofs.rows.with_delay.Goals as goal

pub returns-clause-text : goal.returns-clause-text
returns-clause-text c =
    c.number.ensures.text ∙ ap (λ (text : List ℕ). text ++ decimal c.args.wake) c.word.ensures.text
    ∙ append_assoc c.args.line (codes "delayed until ") (decimal c.args.wake)

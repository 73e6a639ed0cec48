use Rattle.std.proofs.Common.{◌++◌, List, ℕ, sym, ◌∙◌, ap, append_assoc, codes}
use Rattle.std.specs.Fmt.{decimal}
use Rattle.intos_run.specs.Refusals.{fault_text}
use Rattle.intos_run.proofs.refusal.with_fault.Goals as goal

pub returns-in-OutOfRange-clause-text : goal.returns-in-OutOfRange-clause-text
returns-in-OutOfRange-clause-text c =
    c.number.ensures.text ∙ ap (λ (t : List ℕ). t ++ decimal c.in-OutOfRange.number) c.word-in-OutOfRange.ensures.text
    ∙ append_assoc c.args.line (codes "OutOfRange ") (decimal c.in-OutOfRange.number)
    ∙ ap (λ f. c.args.line ++ fault_text f) (sym c.in-OutOfRange.is)

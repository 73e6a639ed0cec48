use Rattle.std.proofs.Common.{rules, ap, sym, ◌∙◌}
use Rattle.thread_tree.specs.declared.transaction.TStmt.{out-TStmt, out-roll-TStmt}
use Rattle.thread_tree.specs.declared.transaction.TStmt.TheVariants.{rolls-Let, rolls-Set}
use Rattle.user_transactions.proofs.steps.step.Goals as goal

pub returns-in-Ok-clause-stepped : goal.returns-in-Ok-clause-stepped
returns-in-Ok-clause-stepped g c todo rest = rw (ap out-TStmt (c.in-Let.is ∙ sym (rolls-Let c.in-Let.at c.in-Let.e)) ∙ out-roll-TStmt _) (c.in-Ok.ensures.moved todo rest)

pub returns-in-Err-clause-stepped : goal.returns-in-Err-clause-stepped
returns-in-Err-clause-stepped g c todo rest = rw (ap out-TStmt (c.in-Let.is ∙ sym (rolls-Let c.in-Let.at c.in-Let.e)) ∙ out-roll-TStmt _) (c.in-Err.ensures.moved todo rest)

pub returns-in-Ok-set-clause-stepped : goal.returns-in-Ok-set-clause-stepped
returns-in-Ok-set-clause-stepped g c todo rest = rw (ap out-TStmt (c.in-Set.is ∙ sym (rolls-Set c.in-Set.at c.in-Set.e)) ∙ out-roll-TStmt _) (c.in-Ok-set.ensures.moved todo rest)

pub returns-in-Err-set-clause-stepped : goal.returns-in-Err-set-clause-stepped
returns-in-Err-set-clause-stepped g c todo rest = rw (ap out-TStmt (c.in-Set.is ∙ sym (rolls-Set c.in-Set.at c.in-Set.e)) ∙ out-roll-TStmt _) (c.in-Err-set.ensures.moved todo rest)

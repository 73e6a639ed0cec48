-- A value more, or a fault.
use Rattle.std.proofs.Common.{ℕ, List, refl, ap, sym, subst, ◌∙◌}
use Rattle.std.specs.Prelude.{Result}
use Rattle.thread_tree.specs.declared.local.Local.{Local}
use Rattle.thread_tree.specs.Program.{program_of}
use Rattle.kernel_image.specs.Decoded.{image_in}
use Rattle.kernel_model.specs.Transactions.{read, gives}
use Rattle.persistent_objects.specs.Objects.{objects_of}
use Rattle.user_transactions.specs.declared.tx_end.TxEnd.TheVariants.{Fault}
use Rattle.user_transactions.specs.Seen.{seen_value}
use Rattle.user_transactions.specs.Works.{IsEnd}
use Rattle.user_transactions.proofs.GiveLaws.{IsGiven-more, IsGiven-fault}
use Rattle.user_transactions.proofs.ends.give.Goals as goal

pub returns-in-Err : goal.returns-in-Err
returns-in-Err g c =
    let found = sym (c.in-Err.ensures.read ∙ ap (λ (locals : List Local). read (program_of c.args.program.now) (objects_of (program_of c.args.program.now) (image_in (g.N.Nv.words c.args.tx.now))) locals c.get.result.now c.loop-at.operations) c.as_slice.ensures.value) in
    let faults = IsGiven-fault _ _ _ _ _ c.loop-at.at c.loop-at.operations c.loop-at.values.items c.get.result.now c.in-Err.fault c.loop-at.invariant c.get.ensures found in
    record { gave = subst (λ (r : Result (List ℕ) ℕ). IsEnd (program_of c.args.program.now) (Fault c.in-Err.fault) (image_in (g.N.Nv.words c.args.tx.now)) (gives (objects_of (program_of c.args.program.now) (image_in (g.N.Nv.words c.args.tx.now))) r)) (sym faults) refl }

pub loop-at-preserved : goal.loop-at-preserved
loop-at-preserved g c =
    let found = sym (c.in-Ok.ensures.read ∙ ap (λ (locals : List Local). read (program_of c.args.program.now) (objects_of (program_of c.args.program.now) (image_in (g.N.Nv.words c.args.tx.now))) locals c.get.result.now c.loop-at.operations) c.as_slice.ensures.value) in
    IsGiven-more _ _ _ _ _ c.loop-at.at c.loop-at.operations c.loop-at.values.items c.keep.new.values.items c.get.result.now (seen_value c.in-Ok.found) c.loop-at.invariant c.get.ensures found c.keep.ensures.kept

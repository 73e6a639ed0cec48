-- A store to a field that the type doesn't have changes nothing.
use Rattle.std.proofs.Common.{ℕ, List, ◌≤◌, ap, subst, ◌∙◌}
use Rattle.thread_tree.specs.declared.local.Local.{Local}
use Rattle.thread_tree.specs.Program.{program_of}
use Rattle.kernel_image.specs.Decoded.{image_in}
use Rattle.kernel_model.specs.Transactions.{reference_of}
use Rattle.user_transactions.specs.Seen.{seen_reference}
use Rattle.user_transactions.specs.Works.{work_of}
use Rattle.user_transactions.proofs.StoreLaws.{stored_past}
use Rattle.user_transactions.proofs.moves.store_at.Goals as goal

pub returns-in-Ok-clause-stored : goal.returns-in-Ok-clause-stored
returns-in-Ok-clause-stored g c todo rest =
    let past = subst (λ (n : ℕ). n ≤ c.reference_of-at.result.field) c.field_count.ensures.count c.if-at-field_count.true in
    let refers = c.reference_of-at.ensures.reference ∙ ap (λ (locals : List Local). reference_of (program_of c.args.program.now) locals c.args.field) c.as_slice.ensures.value in
    stored_past (program_of c.args.program.now) (work_of (program_of c.args.program.now) (image_in (g.N.Nv.words c.args.tx.now)) c.args.work.now todo) rest c.args.field c.args.value c.in-Ok.field-0 (seen_reference c.reference_of-at.result) refers c.if-work-ge-OPERATIONS.false c.requires.objects c.in-Ok.ensures.found past

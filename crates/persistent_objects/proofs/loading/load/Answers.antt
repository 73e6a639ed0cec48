use Rattle.std.proofs.Common.{◌≤◌, ◌<◌, ℕ, sym, ap, subst, ◌∙◌}
use Rattle.std.specs.Prelude.{Some}
use Rattle.thread_tree.specs.Program.{program_of}
use Rattle.persistent_objects.proofs.ImageLaws.{heap_word_at, heap_word_past}
use Rattle.persistent_objects.proofs.ClauseLaws.{field_value, field_past}
use Rattle.persistent_objects.proofs.loading.load.Goals as goal

pub returns-then-field-field_count : goal.returns-then-field-field_count
returns-then-field-field_count g c =
    let past = subst (λ (n : ℕ). n ≤ c.args.field) c.field_count.ensures.count c.if-field-field_count.true in
    record { found = field_past (program_of c.args.program.now) _ _ _ _ _ c.if-not-is_object.ensures.is past }

pub returns-then-at-ge4096 : goal.returns-then-at-ge4096
returns-then-at-ge4096 g c =
    let low = subst (λ (n : ℕ). c.args.field < n) c.field_count.ensures.count c.if-field-field_count.false in
    record { found = ap (λ (n : ℕ). Some n) (sym (heap_word_past _ _ c.if-at-ge4096.true)) ∙ field_value (program_of c.args.program.now) _ _ _ _ _ c.if-not-is_object.ensures.is low }

pub returns : goal.returns
returns g c =
    let low = subst (λ (n : ℕ). c.args.field < n) c.field_count.ensures.count c.if-field-field_count.false in
    record { found = ap (λ (n : ℕ). Some n) (c.load.ensures.word ∙ sym (heap_word_at _ _ c.if-at-ge4096.false)) ∙ field_value (program_of c.args.program.now) _ _ _ _ _ c.if-not-is_object.ensures.is low }

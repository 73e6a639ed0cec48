use Rattle.std.proofs.Common.{◌≡◌, Some, ap, subst, sym, ◌∙◌, length}
use Rattle.std.proofs.lemmas.List.{length-map}
use Rattle.std.specs.Prelude.{filter_map, slice_get, option_map}
use Rattle.thread_tree.specs.declared.place.At.{At}
use Rattle.thread_tree.specs.declared.tree.Tree.{Tree}
use Rattle.thread_tree.specs.Program.{names_of}
use Rattle.kernel_image.specs.Declarations.{kind_in}
use Rattle.persistent_objects.specs.NamesIn.{kind_fields}
use Rattle.persistent_objects.proofs.NumberLaws.{fields_of_some}
use Rattle.persistent_objects.proofs.declared.field_count.Goals as goal

pub returns-in-Some-clause-count : goal.returns-in-Some-clause-count
returns-in-Some-clause-count c =
    let fields = subst (λ (tree : Tree). Some (names_of c.in-Some.fields.now) ≡ option_map kind_fields (slice_get (filter_map kind_in tree.decls) c.args.kind)) c.tree.ensures.same c.in-Some.ensures.fields in
    c.len.ensures ∙ sym (length-map c.in-Some.fields.now (λ (at : At). at.name)) ∙ sym (ap length (fields_of_some c.args.program.now c.args.kind (names_of c.in-Some.fields.now) fields))

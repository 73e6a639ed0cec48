use Rattle.std.proofs.Common.{sym, ap, subst, ◌∙◌, arith}
use Rattle.thread_tree.specs.Program.{program_of}
use Rattle.kernel_model.specs.Sound.{AreSoundObjects}
use Rattle.kernel_image.specs.Decoded.{Decoded, image_in}
use Rattle.persistent_objects.specs.Layout.{KeepsLayout}
use Rattle.persistent_objects.specs.Objects.{objects_of}
use Rattle.persistent_objects.proofs.ImageLaws.{length_heap}
use Rattle.persistent_objects.proofs.ClauseLaws.{is_field, field_below, field_stored, field_sound, field_layout}
use Rattle.persistent_objects.proofs.storing.store.Goals as goal

pub overflow_add-place : goal.overflow_add-place
overflow_add-place g c =
    let low = field_below _ _ _ _ _ _ (is_field _ _ _ _ _ _ c.requires.field c.requires.objects c.if-not-is_object.ensures.is) in
    omega (arith, low)

pub overflow_add-place-2 : goal.overflow_add-place-2
overflow_add-place-2 g c =
    let low = field_below _ _ _ _ _ _ (is_field _ _ _ _ _ _ c.requires.field c.requires.objects c.if-not-is_object.ensures.is) in
    omega (arith, low)

pub put-requires-clause-place : goal.put-requires-clause-place
put-requires-clause-place g c =
    field_below _ _ _ _ _ _ (is_field _ _ _ _ _ _ c.requires.field c.requires.objects c.if-not-is_object.ensures.is)

pub returns-in-Ok-clause-stored : goal.returns-in-Ok-clause-stored
returns-in-Ok-clause-stored g c =
    ap (λ (d : Decoded). objects_of (program_of c.args.program.now) d) c.in-Ok.ensures.heap
    ∙ field_stored _ _ _ _ _ _ c.args.value (length_heap _) (is_field _ _ _ _ _ _ c.requires.field c.requires.objects c.if-not-is_object.ensures.is)

pub returns-in-Ok-clause-sound : goal.returns-in-Ok-clause-sound
returns-in-Ok-clause-sound g c =
    subst (λ (d : Decoded). AreSoundObjects (program_of c.args.program.now) (objects_of (program_of c.args.program.now) d)) (sym c.in-Ok.ensures.heap)
    (field_sound _ _ _ _ _ _ c.args.value (length_heap _) (is_field _ _ _ _ _ _ c.requires.field c.requires.objects c.if-not-is_object.ensures.is))

pub returns-in-Ok-clause-layout : goal.returns-in-Ok-clause-layout
returns-in-Ok-clause-layout g c =
    subst (λ (d : Decoded). KeepsLayout (program_of c.args.program.now) (image_in (g.N.Nv.words c.args.tx.now)) d) (sym c.in-Ok.ensures.heap)
    (field_layout _ _ _ _ _ _ c.args.value (length_heap _) (is_field _ _ _ _ _ _ c.requires.field c.requires.objects c.if-not-is_object.ensures.is))

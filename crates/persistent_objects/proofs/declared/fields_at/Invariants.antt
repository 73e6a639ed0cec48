-- The type is still to come: so many stand before it from here on.
use Rattle.std.specs.Prelude.{◌≡◌, filter_map, slice_get}
use Rattle.kernel_image.specs.Declarations.{kind_in}
use Rattle.persistent_objects.proofs.Given.{given_from}
use Rattle.persistent_objects.proofs.declared.fields_at.Given as goal

abbrev pub invariant-loop-at : goal.invariant-loop-at
invariant-loop-at l = slice_get (given_from kind_in l.decls l.at) l.left ≡ slice_get (filter_map kind_in l.decls) l.kind

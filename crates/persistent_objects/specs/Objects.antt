-- The objects in an image, and the values of their fields.
use Rattle.std.specs.Prelude.{ℕ, List, Option, Some, None, option_map, Result, Ok, Err, slice_index}
use Rattle.kernel_model.specs.Visible.{Object}
use Rattle.kernel_image.specs.Decoded.{Decoded}
use Rattle.kernel_image.specs.Shown.{objects_in}
use Rattle.thread_tree.specs.Program.{Program}

-- the live objects of an image, in order of place
abbrev pub objects_of : Program → Decoded → List Object
objects_of p d = objects_in p d.heap d.live

-- the value of a field of an object that may be missing
abbrev pub value_at : Option Object → ℕ → Option ℕ
value_at object field = option_map (λ o. slice_index o.values field) object

-- the value that was read, if there is one
abbrev pub value_in : {E : Type 0} → Result ℕ E → Option ℕ
value_in (Ok value) = Some value
value_in (Err e) = None

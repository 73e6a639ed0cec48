-- The objects of a kernel and their places.
use Rattle.std.specs.Prelude.{ℕ, ◌+◌, ◌%◌, ◌==◌, nat_lt, nat_le, not, ◌&&◌, Bool, true, false, if◌then◌else◌, List, [], ◌∷◌, ◌++◌, length, map, fold, filter, find, replicate, Option, Some, None, slice_get, slice_set}
use Rattle.kernel_model.specs.Visible.{Object}
use Rattle.kernel_model.specs.Order.{inserted}
use Rattle.thread_tree.specs.Numbers.{kind_number, fields_of}
use Rattle.thread_tree.specs.Program as program
use Rattle.thread_tree.specs.Program.{Program}

-- the places of an object with so many fields: one word more than the fields, rounded up to even
abbrev pub block_size : ℕ → ℕ
block_size fields = (fields + 1) + (fields + 1) % 2

-- the place after an object
abbrev pub end_of : Object → ℕ
end_of object = object.place + block_size (length object.values)

-- the first place of the heap, and the place after its last one
abbrev pub first_place : ℕ
first_place = 2

abbrev pub end_place : ℕ
end_place = 4096

-- the least place from this one on where so many places are outside of all objects, which are in order of place; 0
-- where there is none
abbrev pub least_from : ℕ → ℕ → List Object → ℕ
least_from place size [] = if nat_le (place + size) end_place then place else 0
least_from place size (object ∷ objects) =
    if nat_le (place + size) object.place then place else least_from (end_of object) size objects

-- the least place where an object with so many fields fits; 0 where there is none
abbrev pub least : List Object → ℕ → ℕ
least objects fields = least_from first_place (block_size fields) objects

-- an object whose fields are 0
abbrev pub blank_object : Program → ℕ → Bool → ℕ → Object
blank_object p kind is_static place =
    record { place = place; kind = kind; is_static = is_static; values = replicate (length (fields_of p kind)) 0 }

-- whether an object stands before another
abbrev pub is_before : Object → Object → Bool
is_before a b = nat_lt a.place b.place

-- the place where a new object of a type goes; 0 where none fits, and for what is no type of the program
abbrev pub place_for : Program → List Object → ℕ → ℕ
place_for p objects kind = elim (slice_get p.kinds kind) [ None ↦ 0 | Some k ↦ least objects (length k.fields) ]

-- the objects with a new one; where none fits it has place 0, and they stay
abbrev pub with_new : Program → List Object → ℕ → ℕ → List Object
with_new p objects kind place =
    if place == 0 then objects else inserted is_before (blank_object p kind false place) objects

-- the object at a place
abbrev pub object_at : List Object → ℕ → Option Object
object_at objects place = find (λ object. object.place == place) objects

-- the object of a type at a place
abbrev pub object_of : List Object → ℕ → ℕ → Option Object
object_of objects place kind = find (λ object. object.place == place && object.kind == kind) objects

-- whether an object at the place can be freed
abbrev pub is_made : Option Object → Bool
is_made None = false
is_made (Some object) = not object.is_static

-- the objects without the one at a place
abbrev pub without : List Object → ℕ → List Object
without objects place = filter (λ object. not (object.place == place)) objects

-- the object, with a field changed if it is the one at the place
abbrev pub object_with : ℕ → ℕ → ℕ → Object → Object
object_with place field value object =
    if object.place == place then record object { values = slice_set object.values field value } else object

-- the objects where a field of the one at a place has changed
abbrev pub with_field : List Object → ℕ → ℕ → ℕ → List Object
with_field objects place field value = map (object_with place field value) objects

-- the static object that a declaration makes, beside those declared before
abbrev pub static_object : Program → List Object → program.Object → Object
static_object p objects declared =
    let kind = kind_number p declared.kind in blank_object p kind true (place_for p objects kind)

-- the number of an object's type, and that of a declared one
abbrev pub kind_in : Object → ℕ
kind_in object = object.kind

abbrev pub declared_kind : Program → program.Object → ℕ
declared_kind p declared = kind_number p declared.kind

-- the objects, and the one that a declaration makes
abbrev pub with_static : Program → List Object → program.Object → List Object
with_static p objects declared = objects ++ static_object p objects declared ∷ []

-- the static objects of a program, in order of declaration
unfoldable pub static_objects : Program → List Object
static_objects p = fold (with_static p) [] p.objects

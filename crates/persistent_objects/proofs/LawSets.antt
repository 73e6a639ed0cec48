-- Sets of laws, by the functions that use them.
use Rattle.persistent_objects.proofs.ImageLaws.{heap_word_at, live_word_at, length_heap}
use Rattle.persistent_objects.proofs.FoundLaws.{found_odd, found_past, found_even}
use Rattle.persistent_objects.proofs.Given.{IsPassed-start, given_from-zero}
use Rattle.persistent_objects.proofs.NumberLaws.{IsBefore-start, kind_number_is, object_number_is, kind_number_few, object_number_few, fields_of_some, fields_of_none, fields_few, field_number_some, field_number_none, field_number_few, fields_of_few}
use Rattle.persistent_objects.proofs.StaticLaws.{IsAhead-start, IsAhead-other, IsAhead-none}

-- for reading words of the heap and of the live bits
pub ruleset word_laws = (heap_word_at, live_word_at)

-- for finding an object
pub ruleset finding_laws = (found_odd, found_past, found_even)

-- for storing one
pub ruleset storing_laws = (length_heap)

-- for the number of a name
pub ruleset name_laws = (IsPassed-start)

-- for the fields of a type by its number
pub ruleset field_laws = (given_from-zero)

-- for the number of a field
pub ruleset field_name_laws = (IsBefore-start)

-- for what a program declares
pub ruleset number_laws = (kind_number_is, object_number_is, kind_number_few, object_number_few, fields_of_some, fields_of_none, fields_few, field_number_some, field_number_none, field_number_few, fields_of_few)

-- for the static objects
pub ruleset static_laws = (IsAhead-start, IsAhead-other, IsAhead-none)

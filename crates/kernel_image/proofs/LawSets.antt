-- Sets of laws, by the functions that use them.
use Rattle.kernel_image.proofs.CellLaws.{address-plain, cells-word, cells-with_word, cells-written}
use Rattle.kernel_image.proofs.StartLaws.{values_of-at, values_of-past, started-found, started-none, argument_count-found, argument_count-none, start_value-found, start_value-none, argument_count-few, start_count-is, start_count-few, row_word-started, row_word-none}
use Rattle.kernel_image.proofs.InitialLaws.{heap_word-object, heap_word-hole, is_some-kind, has_live_place-cell_of, bits_from-none, bits_from-one, bits_from-all, bits_from-few}
use Rattle.kernel_image.proofs.Packed.{HasFewFields-within, IsSought-start, IsSought-other, IsSought-passed, IsSought-here, IsSought-none, IsEnding-start, IsEnding-other, IsEnding-passed, IsEnding-all}
use Rattle.kernel_image.proofs.PartLaws.{capacity_of-least, capacity_of-most, capacity_of-found, capacity_of-none, initial_count-found, initial_count-none, priority_of-found, priority_of-none, field_count-found, field_count-none, template_number-position, kind_number-position, template_number-few, kind_number-few}
use Rattle.kernel_image.proofs.Walks.{passing_from-zero, passing_from-passed, passing_from-failed, IsPassed-none, IsPassed-failed, IsPassed-other, IsPassed-here, IsPassed-all, IsCounted-none, IsCounted-passed, IsCounted-failed, IsCounted-all}
use Rattle.kernel_image.proofs.ItemLaws.{item-at}
use Rattle.kernel_image.proofs.StoreLaws.{row_at-decoded, queue_at-decoded, semaphore_at-decoded}

-- for the address of a cell
pub ruleset address_laws = (address-plain)

-- for reading a cell
pub ruleset load_laws = (cells-word)

-- for storing one
pub ruleset put_laws = (cells-with_word)

-- for a field of a table
pub ruleset field_laws = (cells-written)

-- for reading a row, a queue or a semaphore of the image
pub ruleset image_laws = (row_at-decoded, queue_at-decoded, semaphore_at-decoded)

-- for walks over declarations
pub ruleset walk_laws = (passing_from-zero, passing_from-passed, passing_from-failed)

-- for the number of a name
pub ruleset name_laws = (IsPassed-none, IsPassed-failed, IsPassed-other, IsPassed-here, IsPassed-all)

-- for the parts of a program by their numbers
pub ruleset part_laws = (capacity_of-found, capacity_of-none, initial_count-found, initial_count-none, priority_of-found, priority_of-none, field_count-found, field_count-none, template_number-position, kind_number-position, template_number-few, kind_number-few)

-- for a declared queue
pub ruleset queue_laws = (capacity_of-least, capacity_of-most)

-- for an item of a queue
pub ruleset item_laws = (item-at)

-- for the size of an object
pub ruleset size_laws = (HasFewFields-within)

-- for the static object at a place
pub ruleset static_laws = (IsSought-start, IsSought-other, IsSought-passed, IsSought-here, IsSought-none)

-- for the place after the static objects
pub ruleset hole_laws = (IsEnding-start, IsEnding-other, IsEnding-passed, IsEnding-all)

-- for how many declarations of a sort there are
pub ruleset count_laws = (IsCounted-none, IsCounted-passed, IsCounted-failed, IsCounted-all)

-- for an argument of a started thread
pub ruleset argument_laws = (values_of-at, values_of-past)

-- for the threads that are started
pub ruleset start_laws = (started-found, started-none, argument_count-found, argument_count-none, start_value-found, start_value-none, argument_count-few, start_count-is, start_count-few)

-- for the row of a thread
pub ruleset row_laws = (row_word-started, row_word-none)

-- for a word of the heap at the start
pub ruleset heap_laws = (heap_word-object, heap_word-hole, is_some-kind)

-- for a word of live bits at the start
pub ruleset live_laws = (bits_from-none, bits_from-one, bits_from-all, bits_from-few)

-- for the cell at an address
pub ruleset cell_laws = (has_live_place-cell_of)

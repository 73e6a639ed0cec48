-- Sets of laws, by the functions that use them.
use Rattle.std.proofs.Common.{append_assoc, append-nil}
use Rattle.outer_world.proofs.Callers.{put_nothing}
use Rattle.kernel_dump.proofs.Declarations.{bytes_of_at, bytes_of_past, name_of_found, name_of_none, field_name_at, field_count_is, fields_few}
use Rattle.kernel_dump.proofs.ObjectLines.{heap_word_in, heap_word_past, live_word, object_found, object_none}
use Rattle.kernel_dump.proofs.Spaced.{lines_of_none, lines_of_some}

-- for the names of parts
pub ruleset name_laws = (bytes_of_at, bytes_of_past, name_of_found, name_of_none)

-- for the fields of a type
pub ruleset field_laws = (field_name_at, field_count_is)

-- for texts behind texts
pub ruleset text_laws = (append_assoc, append-nil)

-- for the words of the heap
pub ruleset heap_laws = (heap_word_in, heap_word_past, live_word)

-- for a type
pub ruleset kind_laws = (fields_few)

-- for the line of an object
pub ruleset object_laws = (object_found, object_none)

-- for lists of threads
pub ruleset ready_laws = (put_nothing, lines_of_none, lines_of_some)

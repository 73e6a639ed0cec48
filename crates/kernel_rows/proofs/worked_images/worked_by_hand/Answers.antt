-- Each image computes to what it shows.
use Rattle.std.proofs.Common.{refl}
use Rattle.kernel_model.specs.Objects.{static_objects}
use Rattle.kernel_image.specs.Cells.{cell_of}
use Rattle.kernel_image.specs.Decoded.{listed}
use Rattle.kernel_image.specs.Initial.{initial_cell, of_bits}
use Rattle.kernel_image.specs.Shown.{shown, by_urgency, even_places}
use Rattle.kernel_rows.proofs.worked_images.worked_by_hand.Goals as goal

pub returns-clause-nothing_shown : goal.returns-clause-nothing_shown
unfolding listed shown by_urgency even_places
returns-clause-nothing_shown c = refl

pub returns-clause-stamps_tell : goal.returns-clause-stamps_tell
unfolding listed shown by_urgency even_places
returns-clause-stamps_tell c = refl

pub returns-clause-waiters : goal.returns-clause-waiters
unfolding listed shown by_urgency even_places
returns-clause-waiters c = refl

pub returns-clause-objects_and_console : goal.returns-clause-objects_and_console
unfolding listed shown by_urgency even_places
returns-clause-objects_and_console c = refl

pub returns-clause-empty_words : goal.returns-clause-empty_words
unfolding cell_of initial_cell of_bits static_objects
returns-clause-empty_words c = refl

pub returns-clause-static_words : goal.returns-clause-static_words
unfolding cell_of initial_cell of_bits static_objects
returns-clause-static_words c = refl

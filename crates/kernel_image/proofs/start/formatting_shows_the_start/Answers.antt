use Rattle.kernel_image.proofs.InitialShown.{formatted-image, formatted-rests, formatted-shows, initial-shown}
use Rattle.kernel_image.proofs.start.formatting_shows_the_start.Goals as goal

pub returns-clause-image : goal.returns-clause-image
returns-clause-image c = formatted-image

pub returns-clause-shown : goal.returns-clause-shown
returns-clause-shown c = initial-shown

pub returns-clause-at_rest : goal.returns-clause-at_rest
returns-clause-at_rest c = formatted-rests

pub returns-clause-formatted : goal.returns-clause-formatted
returns-clause-formatted c = formatted-shows

use Rattle.boot_recovery.proofs.KeptLaws.{blank_is_kept}
use Rattle.boot_recovery.proofs.StartLaws.{initial_stands}
use Rattle.boot_recovery.proofs.starting.formatting_stands.Goals as goal

pub returns-clause-stands : goal.returns-clause-stands
returns-clause-stands c = λ p within.
    let packed = c.places.ensures.packed p within in
    initial_stands p within (c.replay.ensures.born p) (c.soundness.ensures.initial p within) (c.formatting_shows_the_start.ensures.shown p within) packed.0 packed.1 packed.2

pub returns-clause-blank : goal.returns-clause-blank
returns-clause-blank c = blank_is_kept

use Rattle.boot_tests.proofs.recovery.cut_and_recovered.Given as goal

abbrev pub ghosts-recovered : goal.ghosts-recovered
ghosts-recovered g a = record { name = a.blank.name; parts = a.blank.parts }

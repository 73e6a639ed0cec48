use Rattle.boot_tests.proofs.boots.runs.Given as goal

abbrev pub ghosts-four_boots : goal.ghosts-four_boots
ghosts-four_boots g a = record { name = a.blank.name; parts = a.blank.parts }

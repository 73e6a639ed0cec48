use Rattle.boot_tests.proofs.boots.ends.Given as goal

abbrev pub ghosts-one_more : goal.ghosts-one_more
ghosts-one_more g a = record { name = a.blank.name; parts = a.blank.parts }

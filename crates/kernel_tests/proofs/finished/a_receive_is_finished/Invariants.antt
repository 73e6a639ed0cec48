use Rattle.kernel_tests.proofs.finished.a_receive_is_finished.Given as goal

abbrev pub ghosts-born_and_received : goal.ghosts-born_and_received
ghosts-born_and_received g a = record { name = a.blank.name; parts = a.blank.parts }

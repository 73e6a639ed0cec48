use Rattle.kernel_tests.proofs.objects.stored_and_undone.Given as goal

abbrev pub ghosts-settled : goal.ghosts-settled
ghosts-settled g a = record { name = a.blank.name; parts = a.blank.parts }

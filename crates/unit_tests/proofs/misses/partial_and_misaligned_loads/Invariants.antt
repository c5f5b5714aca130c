use Rattle.unit_tests.proofs.misses.partial_and_misaligned_loads.Given as goal

abbrev pub ghosts-report_of : goal.ghosts-report_of
ghosts-report_of g a = record { shape = a.shape }

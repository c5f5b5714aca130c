use Rattle.aprof_top.proofs.cache_job.count_misses.Given as goal

abbrev pub ghosts-misses_by : goal.ghosts-misses_by
ghosts-misses_by g a = record { shape = a.shape }

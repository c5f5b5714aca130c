use Rattle.shadow_core.proofs.profiler.Profiler.read_after.Given as goal

abbrev pub ghosts-read_known_with : goal.ghosts-read_known_with
ghosts-read_known_with g a = record { name = a.blank.name; parts = a.blank.parts }

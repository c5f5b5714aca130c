use Rattle.shadow_core.proofs.profiler.Profiler.apply.Given as goal

abbrev pub ghosts-apply_with : goal.ghosts-apply_with
ghosts-apply_with g a = record { name = a.blank.name; parts = a.blank.parts }

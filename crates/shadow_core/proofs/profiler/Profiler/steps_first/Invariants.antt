use Rattle.shadow_core.proofs.profiler.Profiler.steps_first.Given as goal

abbrev pub ghosts-step_first_with : goal.ghosts-step_first_with
ghosts-step_first_with g a = record { name = a.blank.name; parts = a.blank.parts }

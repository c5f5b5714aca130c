use Rattle.rv_exec.proofs.CallerLemmas.{effect_aligned, effect_calls, effect_kept, effect_others, effect_rights}
use Rattle.rv_exec.proofs.Reach.{effect_accesses}
use Rattle.rv_exec.proofs.laws.every_instruction.Goals as goal

pub returns : goal.returns
returns c = record { kept = effect_kept; calls = effect_calls; others = effect_others; rights = effect_rights; aligned = effect_aligned; accesses = effect_accesses }

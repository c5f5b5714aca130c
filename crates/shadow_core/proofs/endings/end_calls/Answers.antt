use Rattle.shadow_core.proofs.Popped.{none_ended, sums_left}
use Rattle.shadow_core.proofs.endings.end_calls.Goals as goal

pub end_call-requires-clause-sums : goal.end_call-requires-clause-sums
end_call-requires-clause-sums g c =
    let none = none_ended c.args.tid c.args.threads.now c.args.done.now.items c.requires.lives in
    sums_left c.args.tid 0 c.args.ended _ _ _ _ c.requires.lives none c.requires.sums

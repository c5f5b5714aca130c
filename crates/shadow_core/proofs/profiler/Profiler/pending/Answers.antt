use Rattle.std.proofs.Common.{length, ap, sym, ◌∙◌}
use Rattle.stamp_renumber.specs.Threads.{all_starts}
use Rattle.shadow_core.specs.State.{State}
use Rattle.shadow_core.proofs.StateTold.{frames_are_told}
use Rattle.shadow_core.proofs.profiler.Profiler.pending.Goals as goal

pub returns-clause-stands : goal.returns-clause-stands
returns-clause-stands g c = λ past stands.
    c.frame_count.ensures ∙ ap (λ (s : State). length (all_starts s.live.threads)) c.self.view_is ∙ sym (frames_are_told c.args.self.now) ∙ stands.counted.frames

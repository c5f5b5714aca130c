use Rattle.std.proofs.Common.{◌∙◌, ◌+◌, ◌*◌, ap, length, sym}
use Rattle.std.specs.Prelude.{◌&&◌, nat_lt}
use Rattle.stamp_renumber.specs.Threads.{all_starts}
use Rattle.shadow_core.proofs.Applied.{deep_by_frames, frames_fit}
use Rattle.shadow_core.proofs.profiler.Profiler.is_too_deep.Goals as goal

pub is_full-requires : goal.is_full-requires
is_full-requires g c = frames_fit g.S.Stamp.MAX c.args.e.now c.args.self.now c.requires

pub returns-then-begins : goal.returns-then-begins
returns-then-begins g c = λ past stands.
    let n = 3 * (length (all_starts c.args.self.now.live.threads) + 2) in
    c.is_full.ensures ∙ ap (λ b. b && nat_lt g.S.Stamp.MAX n) (sym c.if-begins.true ∙ c.begins.ensures)
    ∙ sym (deep_by_frames g.S.Stamp.MAX c.args.e.now c.args.self.now past stands)

pub returns-else-begins : goal.returns-else-begins
returns-else-begins g c = λ past stands.
    let n = 3 * (length (all_starts c.args.self.now.live.threads) + 2) in
    c.if-begins.false ∙ ap (λ b. b && nat_lt g.S.Stamp.MAX n) (sym c.if-begins.false ∙ c.begins.ensures)
    ∙ sym (deep_by_frames g.S.Stamp.MAX c.args.e.now c.args.self.now past stands)

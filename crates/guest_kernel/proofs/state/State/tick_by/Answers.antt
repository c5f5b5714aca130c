use Rattle.std.proofs.Common.{◌≡◌, ◌+◌, ◌*◌, refl, ap, sym, ◌∙◌, arith}
use Rattle.std.specs.Prelude.{min}
use Rattle.guest_kernel.specs.Kernel.{last_time, later_by, step_time}
use Rattle.guest_kernel.specs.State.{state_in}
use Rattle.guest_kernel.proofs.Times.{at_time_is_state, later_by_is}
use Rattle.guest_kernel.proofs.state.State.tick_by.Goals as goal

pub invariant_of-self : goal.invariant_of-self
invariant_of-self c = record {
  room = c.self.invariant.room;
  state = at_time_is_state (state_in c.self.inside) _ _ c.self.invariant.state refl;
}

pub returns : goal.returns
returns c =
    ap (λ time. record (state_in c.self.inside) { time = time })
    (let e : c.saturating_add-self-inside.result ≡ min (c.self.inside.time + min (c.args.steps * step_time) last_time) last_time =
    omega (arith, c.saturating_add-self-inside.ensures, c.saturating_mul.ensures) in
    e)
    ∙ sym (later_by_is c.args.steps (state_in c.self.inside) (omega arith)) ∙ ap (later_by c.args.steps) c.self.view_is

use Rattle.std.proofs.Common.{refl}
use Rattle.guest_kernel.specs.State.{state_in}
use Rattle.guest_kernel.proofs.Times.{at_time_is_state}
use Rattle.guest_kernel.proofs.state.State.tick.Goals as goal

pub invariant_of-self : goal.invariant_of-self
invariant_of-self c = record {
  room = c.self.invariant.room;
  state = at_time_is_state (state_in c.self.inside) _ _ c.self.invariant.state refl;
}

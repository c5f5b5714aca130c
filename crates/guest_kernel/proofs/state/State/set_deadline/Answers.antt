use Rattle.std.proofs.Common.{List, ◌≡◌, false, true, ap, arith, ◌∙◌}
use Rattle.virtual_clock.specs.declared.deadline.Deadline.{Deadline}
use Rattle.virtual_clock.specs.Once.{has}
use Rattle.guest_kernel.specs.Kernel.{KernelState, lives}
use Rattle.guest_kernel.specs.State.{state_in}
use Rattle.guest_kernel.proofs.Sleeps.{deadline_is_state, fewer_have}
use Rattle.guest_kernel.proofs.state.State.set_deadline.Goals as goal

pub set-requires-clause-room : goal.set-requires-clause-room
set-requires-clause-room c =
    let k = state_in c.self.inside in
    let live : lives k c.args.tid ≡ true = ap (λ (s : KernelState). lives s c.args.tid) c.self.view_is ∙ c.requires.lives in
    let none : has k.deadlines c.args.tid ≡ false = ap (λ (s : KernelState). has s.deadlines c.args.tid) c.self.view_is ∙ c.requires.none in
    let fewer = fewer_have k c.args.tid c.self.invariant.state c.has.ensures.once live none in
    omega (arith, fewer, c.self.invariant.state.few)

pub invariant_of-self : goal.invariant_of-self
invariant_of-self c =
    let k = state_in c.self.inside in
    let live : lives k c.args.tid ≡ true = ap (λ (s : KernelState). lives s c.args.tid) c.self.view_is ∙ c.requires.lives in
    record {
      room = c.self.invariant.room;
      state = deadline_is_state k _ c.args.tid c.args.at c.args.answer c.self.invariant.state live (ap (λ (ds : List Deadline). record k { deadlines = ds }) c.set.ensures.after);
    }

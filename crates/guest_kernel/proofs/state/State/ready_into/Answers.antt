use Rattle.std.proofs.Common.{◌≡◌, ℕ, Bool, List, map, take, subst, sym, refl, arith}
use Rattle.std.specs.Prelude.{not}
use Rattle.guest_words.specs.Ready.{IsAboveLast}
use Rattle.guest_kernel.specs.declared.thread.Thread.{Thread}
use Rattle.guest_kernel.specs.Invariant.{RisesTo}
use Rattle.guest_kernel.specs.Kernel.{is_blocked}
use Rattle.guest_kernel.proofs.Rising.{above_those_before}
use Rattle.guest_kernel.proofs.state.State.ready_into.Goals as goal

pub push-requires-clause-above : goal.push-requires-clause-above
push-requires-clause-above c =
    let f : Thread → ℕ × Bool = λ t. (t.tid, not (is_blocked c.args.self.now t.tid)) in
    let all : c.deref-t-items.result.now ≡ c.args.self.now.threads = grind (arith, c.self.view_is, c.deref-t-items.ensures.value) in
    let rising : RisesTo 0 c.deref-t-items.result.now c.self.inside.last_tid = subst (λ (ts : List Thread). RisesTo 0 ts c.self.inside.last_tid) (sym c.deref-t-items.ensures.value) c.self.invariant.state.rising in
    let above = above_those_before 0 c.deref-t-items.result.now c.self.inside.last_tid c.loop-t.t-index c.t-item.result f (λ u. refl) rising c.loop-t-test.true in
    let here = subst (λ (t : Thread). IsAboveLast t.tid (map f (take c.loop-t.t-index c.deref-t-items.result.now))) (sym c.t-item.is) above in
    subst (λ (xs : List (ℕ × Bool)). IsAboveLast c.t-item.result.tid xs) (sym c.loop-t.invariant) (subst (λ (ts : List Thread). IsAboveLast c.t-item.result.tid (map f (take c.loop-t.t-index ts))) all here)

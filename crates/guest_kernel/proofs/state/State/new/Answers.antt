use Rattle.std.proofs.Common.{List, [], ◌∷◌, ◌++◌, ap, ◌∙◌, arith}
use Rattle.guest_kernel.specs.declared.thread.Thread.{Thread}
use Rattle.guest_kernel.proofs.Started.{started_is_state}
use Rattle.guest_kernel.proofs.state.State.new.Goals as goal

pub invariant_of-result-2 : goal.invariant_of-result-2
invariant_of-result-2 c =
    let threads = c.in_ok-push.ensures.items ∙ ap (λ (xs : List Thread). xs ++ record { tid = 1; clear_tid = 0 } ∷ []) c.in_ok-threads.ensures.items in
    let waiting = c.in_ok-new.ensures.empty in
    let room = c.in_ok-push.ensures.capacity in
    let first = c.in_ok-threads.ensures.capacity in
    record {
      room = omega (arith, room, first);
      state = started_is_state _ c.args.inputs c.args.stdin.items c.args.first_break (grind (arith, threads, waiting));
    }

pub returns-clause-state : goal.returns-clause-state
returns-clause-state c =
    let threads = c.in_ok-push.ensures.items ∙ ap (λ (xs : List Thread). xs ++ record { tid = 1; clear_tid = 0 } ∷ []) c.in_ok-threads.ensures.items in
    let waiting = c.in_ok-new.ensures.empty in
    started_is_state _ c.args.inputs c.args.stdin.items c.args.first_break (grind (arith, threads, waiting))

use Rattle.std.proofs.Common.{◌≡◌, ℕ, true, false, arith, ap, ap₂, sym, ◌∙◌}
use Rattle.guest_kernel.specs.Threads.{with_thread}
use Rattle.guest_calls.specs.Clone.{are_flags_taken, child_registers, is_denied, sets_child, sets_parent}
use Rattle.guest_calls.specs.Outcome.{asked, guest_of}
use Rattle.guest_calls.specs.Results.{arg, has}
use Rattle.guest_calls.proofs.Cloned.{clone_does, clone_passed, room_where}
use Rattle.guest_calls.proofs.clone.clone_thread.Goals as goal

pub returns : goal.returns
returns c =
    record {
      does =
          let made = asked c.args.caller.now c.args.state.now c.args.memory.now c.args.held.now in
          let taken : are_flags_taken (arg made 0) ≡ true = ap are_flags_taken (sym c.argument-flags.ensures) ∙ (sym c.are_flags_taken.ensures ∙ c.if-not-are_flags_taken.false) in
          let to_parent : is_denied made.memory (has (arg made 0) sets_parent) (arg made 2) ≡ false =
          ap₂ (is_denied made.memory) (ap (λ flags. has flags sets_parent) (sym c.argument-flags.ensures) ∙ sym c.has-to_parent.ensures) (sym c.argument-parent.ensures)
          ∙ (sym c.is_denied.ensures ∙ c.if-is_denied.false) in
          let to_child : is_denied made.memory (has (arg made 0) sets_child) (arg made 4) ≡ false =
          ap₂ (is_denied made.memory) (ap (λ flags. has flags sets_child) (sym c.argument-flags.ensures) ∙ sym c.has-to_child.ensures) (sym c.argument-child.ensures)
          ∙ (sym c.is_denied-2.ensures ∙ c.if-is_denied-2.false) in
          let same = clone_passed made taken c.in-Some.ensures.room to_parent to_child in
          clone_does c.args.caller.now c.args.state.now c.add_thread.new.self c.args.memory.now c.fill_word_if-2.new.memory c.args.held.now c.fill_word_if-2.new.held
          c.forget.new.self c.args.events.now c.fill_word_if-2.new.events
          (guest_of c.fill_word_if.new.memory c.fill_word_if.new.held c.fill_word_if.new.events)
          c.argument-flags.result c.argument-parent.result c.argument-child.result c.number.result c.number-2.result c.in-Some.tid
          c.has-to_parent.result c.has-to_child.result c.child_cpu.result
          c.argument-flags.ensures c.argument-parent.ensures c.argument-child.ensures c.in-Some.ensures.some c.number.ensures.same c.number-2.ensures.same
          c.has-to_parent.ensures c.has-to_child.ensures same c.fill_word_if.ensures.filled c.fill_word_if-2.ensures.filled
          (c.child_cpu.ensures ∙ ap₂ (child_registers c.args.caller.now.cpu c.argument-flags.result) c.argument.ensures c.argument-2.ensures)
          (c.add_thread.ensures ∙ ap (λ (clear : ℕ). with_thread c.in-Some.tid clear c.args.state.now) c.child_clear_tid.ensures)
          c.forget.ensures
          (let first = c.fill_word_if.ensures.room in let second = c.fill_word_if-2.ensures.room in omega (arith, first, second));
    }

pub fill_word_if-requires-2-clause-room : goal.fill_word_if-requires-2-clause-room
fill_word_if-requires-2-clause-room c =
    let few = room_where c.has-to_parent.result c.argument-parent.result c.number.result _ _ c.fill_word_if.ensures.filled in
    let kept = c.fill_word_if.ensures.room in
    let room = c.requires.room in
    omega (arith, few, kept, room)

use Rattle.std.proofs.Common.{ap, ◌∙◌, drop, ◌+◌, List, ℕ}
use Rattle.std.specs.Borrow.{Bor}
use Rattle.command_line.proofs.Distinct.{Tests, all_at_first, all_found, goes_on, goes_on_with, texts}
use Rattle.command_line.proofs.guest_options.GuestOptions.inputs.Goals as goal
use Rattle.command_line.proofs.guest_options.GuestOptions.inputs.Goals.{then-is_new_input+in_ok-push, else-is_new_input}

pub loop-word-init : goal.loop-word-init
loop-word-init c =
    let words = texts c.args.self.now.words.items in
    ap (λ (found : List (Bor (List ℕ))). all_found (texts found) words) c.new-inputs.ensures.items ∙ all_at_first words

pub loop-word-preserved : goal.loop-word-preserved
loop-word-preserved c =
    let items = c.args.self.now.words.items in
    let i = c.loop-word.word-index in
    let inputs = c.loop-word.inputs.items in
    let words = c.deref-word-items.result.now in
    let found = c.deref.result.now in
    let tests : Tests items i _ inputs words found c.is_new_input.result = record {
      words_are = c.deref-word-items.ensures.value;
      found_are = c.deref.ensures.value;
      within = c.loop-word-test.true;
      answer = c.is_new_input.ensures;
    } in
    elim c.if-is_new_input.branch [
      | then-is_new_input+in_ok-push w ↦
          goes_on_with items i _ inputs words found c.is_new_input.result tests w.if-is_new_input.true _ c.loop-word.invariant
          c.if-is_new_input.inputs.items (ap (λ v. v.items) w.inputs-is ∙ w.in_ok-push.ensures.items)
      | else-is_new_input w ↦
          ap (λ v. all_found (texts v.items) (texts (drop (i + 1) items))) w.inputs-is
          ∙ goes_on items i _ inputs words found c.is_new_input.result tests w.if-is_new_input.false _ c.loop-word.invariant
    ]

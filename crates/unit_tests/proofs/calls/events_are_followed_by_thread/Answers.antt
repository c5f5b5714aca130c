use Rattle.std.proofs.Common.{◌≡◌, [], rules}
use Rattle.unit_tests.proofs.WorkedEvents.{formed_2, formed_3, formed_4, formed_5, formed_6, past_1, past_2, past_3, past_4, past_5}
use Rattle.unit_tests.proofs.calls.events_are_followed_by_thread.Goals as goal

pub apply-requires-2 : goal.apply-requires-2
apply-requires-2 g c = ∣ record {
  past = past_1;
  now = c.in_ok-apply.ensures.stands [] c.new-stacks.ensures;
  formed = formed_2;
} ∣₁

pub apply-requires-3 : goal.apply-requires-3
apply-requires-3 g c = ∣ record {
  past = past_2;
  now = c.in_ok-apply-2.ensures.stands past_1 (c.in_ok-apply.ensures.stands [] c.new-stacks.ensures);
  formed = formed_3;
} ∣₁

pub apply-requires-4 : goal.apply-requires-4
apply-requires-4 g c =
    let two : c.unwrap-second.result ≡ 2 = search rules in ∣ record {
      past = past_3;
      now = c.in_ok-apply-3.ensures.stands past_2 (c.in_ok-apply-2.ensures.stands past_1 (c.in_ok-apply.ensures.stands [] c.new-stacks.ensures));
      formed = formed_4 c.unwrap-second.result two;
    } ∣₁

pub apply-requires-5 : goal.apply-requires-5
apply-requires-5 g c =
    let two : c.unwrap-second.result ≡ 2 = search rules in ∣ record {
      past = past_4 c.unwrap-second.result;
      now = c.in_ok-apply-4.ensures.stands past_3 (c.in_ok-apply-3.ensures.stands past_2 (c.in_ok-apply-2.ensures.stands past_1 (c.in_ok-apply.ensures.stands [] c.new-stacks.ensures)));
      formed = formed_5 c.unwrap-second.result two;
    } ∣₁

pub apply-requires-6 : goal.apply-requires-6
apply-requires-6 g c =
    let two : c.unwrap-second.result ≡ 2 = search rules in ∣ record {
      past = past_5 c.unwrap-second.result;
      now = c.in_ok-apply-5.ensures.stands (past_4 c.unwrap-second.result)
          (c.in_ok-apply-4.ensures.stands past_3 (c.in_ok-apply-3.ensures.stands past_2 (c.in_ok-apply-2.ensures.stands past_1 (c.in_ok-apply.ensures.stands [] c.new-stacks.ensures))));
      formed = formed_6 c.unwrap-second.result two;
    } ∣₁

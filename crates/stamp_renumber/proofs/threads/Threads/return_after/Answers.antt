use Rattle.std.proofs.Common.{◌≡◌, ◌≤◌, ◌+◌, ◌∙◌, ℕ, List, length, ap, sym, subst, refl, arith, Some}
use Rattle.std.specs.Option.{option_copied_mut}
use Rattle.std.specs.Vec.{vec_capacity}
use Rattle.std.proofs.lemmas.Bool.Decides.{nat_tests}
use Rattle.guest_words.specs.ByThread.{value_of, with_value}
use Rattle.guest_words.proofs.ThreadTables.{with_own}
use Rattle.stamp_renumber.specs.Counted.{steps_added}
use Rattle.stamp_renumber.specs.Kept.{IsKept}
use Rattle.stamp_renumber.specs.Returned.{IsReturned, returned_by}
use Rattle.stamp_renumber.specs.declared.thread_stamps.Returned.TheVariants.{One}
use Rattle.stamp_renumber.specs.Threads.{Live, Stamped}
use Rattle.stamp_renumber.proofs.Called.{after_calls, ended_one}
use Rattle.stamp_renumber.proofs.Changed.{calls_are, kept_changed, now, popped_one, starts_of_one}
use Rattle.stamp_renumber.proofs.threads.Threads.return_after.Goals as goal

pub invariant_of-self : goal.invariant_of-self
invariant_of-self g c =
    let xs = c.self.inside.threads.list in
    let t = c.args.tid in
    let old : Stamped = c.unwrap-thread.result.now in
    let here : value_of xs t ≡ Some old = sym c.get_mut.ensures.found ∙ ap option_copied_mut c.unwrap-thread.ensures in
    let a = vec_capacity c.self.inside.starts in
    let b = vec_capacity c.self.inside.renewed in
    subst (λ (ys : List (ℕ × Stamped)). IsKept ys c.self.inside.frames c.self.inside.marks a b) (sym (with_own xs t old here)) c.self.invariant

pub returns-then-not-ends_one-clause-same : goal.returns-then-not-ends_one-clause-same
returns-then-not-ends_one-clause-same g c =
    let xs = c.self.inside.threads.list in
    let threads = c.args.self.now.threads in
    let is : xs ≡ threads = ap (λ (l : Live). l.threads) c.self.view_is in
    let t = c.args.tid in
    let old : Stamped = c.unwrap-thread.result.now in
    let here : value_of xs t ≡ Some old = sym c.get_mut.ensures.found ∙ ap option_copied_mut c.unwrap-thread.ensures in
    let list : with_value xs t old ≡ threads = with_own xs t old here ∙ is in
    (λ i. record { threads = list i; marks = (c.self.view_is i).marks })

pub overflow_sub-self : goal.overflow_sub-self
overflow_sub-self g c =
    let xs = c.self.inside.threads.list in
    let t = c.args.tid in
    let old : Stamped = c.unwrap-thread.result.now in
    let here : value_of xs t ≡ Some old = sym c.get_mut.ensures.found ∙ ap option_copied_mut c.unwrap-thread.ensures in
    let mid : Stamped = c.add_steps.new.self in
    let new : Stamped = c.pop-innermost.new.self in
    omega (arith, starts_of_one xs t old here, c.self.invariant.counted, ap (λ (s : Stamped). length s.frames) c.add_steps.ensures, popped_one mid.frames new.frames c.pop-innermost.result.sums c.pop-innermost.ensures.popped)

pub invariant_of-self-2 : goal.invariant_of-self-2
invariant_of-self-2 g c =
    let xs = c.self.inside.threads.list in
    let t = c.args.tid in
    let old : Stamped = c.unwrap-thread.result.now in
    let here : value_of xs t ≡ Some old = sym c.get_mut.ensures.found ∙ ap option_copied_mut c.unwrap-thread.ensures in
    let mid : Stamped = c.add_steps.new.self in
    let new : Stamped = c.pop-innermost.new.self in
    let one : length old.frames ≡ length new.frames + 1 = sym (ap (λ (s : Stamped). length s.frames) c.add_steps.ensures) ∙ popped_one mid.frames new.frames c.pop-innermost.result.sums c.pop-innermost.ensures.popped in
    let some : 1 ≤ c.self.inside.frames = omega (arith, starts_of_one xs t old here, c.self.invariant.counted, one) in
    kept_changed xs t old new c.self.inside.frames c.self.inside.marks _ _ _ _ c.self.invariant here (omega (arith, one, some)) (omega (arith, some))

pub returns-clause-ended : goal.returns-clause-ended
returns-clause-ended g c =
    let xs = c.self.inside.threads.list in
    let t = c.args.tid in
    let old : Stamped = c.unwrap-thread.result.now in
    let here : value_of xs t ≡ Some old = sym c.get_mut.ensures.found ∙ ap option_copied_mut c.unwrap-thread.ensures in
    let marks = c.self.inside.marks in
    let target = c.args.target in
    let mid : Stamped = c.add_steps.new.self in
    let new : Stamped = c.pop-innermost.new.self in
    let ended = c.pop-innermost.result in
    let is = c.if-not-ends_one.ensures in
    let one : returned_by target old.calls ≡ 1 = grind (arith, nat_tests, is) in
    let popped = c.pop-innermost.ensures in
    after_calls (λ before after. IsReturned t target before after (One ended)) xs marks (marks + 1) c.args.self.now t old mid new (steps_added c.args.steps) c.self.view_is here c.add_steps.ensures (
      ap (returned_by target) (calls_are xs xs refl t old here mid) ∙ ap (λ (s : Stamped). returned_by target s.calls) c.add_steps.ensures ∙ one,
      ended_one (with_value xs t mid) t marks (marks + 1) mid new (now xs xs refl t old here mid) ended popped.popped popped.pages popped.list popped.counts popped.counted popped.kept refl,
    )

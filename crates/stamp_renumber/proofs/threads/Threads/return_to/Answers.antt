use Rattle.std.proofs.Common.{◌≡◌, ◌+◌, ◌∙◌, refl, ℕ, List, length, ap, sym, subst, arith, Some}
use Rattle.std.specs.Option.{option_copied_mut}
use Rattle.std.specs.Vec.{vec_capacity}
use Rattle.std.proofs.lemmas.Bool.Decides.{nat_tests}
use Rattle.guest_words.specs.ByThread.{value_of, with_value}
use Rattle.guest_words.proofs.ThreadTables.{with_own}
use Rattle.call_tracker.specs.ThreadCalls.{Calls}
use Rattle.stamp_renumber.specs.Returned.{IsReturned, returned_by}
use Rattle.stamp_renumber.specs.declared.thread_stamps.Returned.TheVariants.{One}
use Rattle.stamp_renumber.proofs.Called.{ended_one}
use Rattle.shadow_stack.specs.Frames.{FitsPop, Frame, IsPopped}
use Rattle.stamp_renumber.specs.Kept.{IsKept}
use Rattle.stamp_renumber.specs.Threads.{Live, Stamped}
use Rattle.stamp_renumber.proofs.Changed.{calls_were, frames_were, kept_changed, popped_one, starts_of_one}
use Rattle.stamp_renumber.proofs.threads.Threads.return_to.Goals as goal

pub pop-innermost-requires-clause-frames : goal.pop-innermost-requires-clause-frames
pop-innermost-requires-clause-frames g c =
    let xs = c.self.inside.threads.list in
    let threads = c.args.self.now.threads in
    let is : xs ≡ threads = ap (λ (l : Live). l.threads) c.self.view_is in
    let t = c.args.tid in
    let old : Stamped = c.unwrap-thread.result.now in
    let same : c.ending-count.new.self ≡ old = c.ending-count.ensures.same in
    let here : value_of xs t ≡ Some old = sym c.get_mut.ensures.found ∙ ap option_copied_mut c.unwrap-thread.ensures in
    omega (arith, ap (λ (fs : List Frame). length fs) (frames_were xs threads is t old here), ap (λ (k : Calls). length k.list) (calls_were xs threads is t old here), ap (λ (s : Stamped). length s.frames) same, c.requires.frames, c.ending-count.ensures.within)

pub pop-innermost-requires-clause-calls : goal.pop-innermost-requires-clause-calls
pop-innermost-requires-clause-calls g c =
    let xs = c.self.inside.threads.list in
    let threads = c.args.self.now.threads in
    let is : xs ≡ threads = ap (λ (l : Live). l.threads) c.self.view_is in
    let t = c.args.tid in
    let old : Stamped = c.unwrap-thread.result.now in
    let same : c.ending-count.new.self ≡ old = c.ending-count.ensures.same in
    let here : value_of xs t ≡ Some old = sym c.get_mut.ensures.found ∙ ap option_copied_mut c.unwrap-thread.ensures in
    omega (arith, ap (λ (s : Stamped). length s.calls.list) same, c.ending-count.ensures.within)

pub pop-innermost-requires-clause-fits : goal.pop-innermost-requires-clause-fits
pop-innermost-requires-clause-fits g c =
    let xs = c.self.inside.threads.list in
    let threads = c.args.self.now.threads in
    let is : xs ≡ threads = ap (λ (l : Live). l.threads) c.self.view_is in
    let t = c.args.tid in
    let old : Stamped = c.unwrap-thread.result.now in
    let same : c.ending-count.new.self ≡ old = c.ending-count.ensures.same in
    let here : value_of xs t ≡ Some old = sym c.get_mut.ensures.found ∙ ap option_copied_mut c.unwrap-thread.ensures in
    subst (λ (s : Stamped). FitsPop s.frames) (sym same) (subst (λ (fs : List Frame). FitsPop fs) (frames_were xs threads is t old here) c.requires.fits)

pub invariant_of-self : goal.invariant_of-self
invariant_of-self g c =
    let xs = c.self.inside.threads.list in
    let threads = c.args.self.now.threads in
    let is : xs ≡ threads = ap (λ (l : Live). l.threads) c.self.view_is in
    let t = c.args.tid in
    let old : Stamped = c.unwrap-thread.result.now in
    let same : c.ending-count.new.self ≡ old = c.ending-count.ensures.same in
    let here : value_of xs t ≡ Some old = sym c.get_mut.ensures.found ∙ ap option_copied_mut c.unwrap-thread.ensures in
    let a = vec_capacity c.self.inside.starts in
    let b = vec_capacity c.self.inside.renewed in
    let kept = c.self.invariant in
    let list : with_value xs t c.ending-count.new.self ≡ xs = ap (with_value xs t) same ∙ with_own xs t old here in
    subst (λ (ys : List (ℕ × Stamped)). IsKept ys c.self.inside.frames c.self.inside.marks a b) (sym list) kept

pub returns-then-count-ne1 : goal.returns-then-count-ne1
returns-then-count-ne1 g c =
    let xs = c.self.inside.threads.list in
    let threads = c.args.self.now.threads in
    let is : xs ≡ threads = ap (λ (l : Live). l.threads) c.self.view_is in
    let t = c.args.tid in
    let old : Stamped = c.unwrap-thread.result.now in
    let same : c.ending-count.new.self ≡ old = c.ending-count.ensures.same in
    let here : value_of xs t ≡ Some old = sym c.get_mut.ensures.found ∙ ap option_copied_mut c.unwrap-thread.ensures in
    let list : with_value xs t c.ending-count.new.self ≡ threads = ap (with_value xs t) same ∙ with_own xs t old here ∙ is in (
      (let differs = c.if-count-ne1.true in grind (arith, nat_tests, differs)),
      c.ending-count.ensures.count ∙ ap (returned_by c.args.target) (sym (calls_were xs threads is t old here)),
      (λ i. record { threads = list i; marks = (c.self.view_is i).marks }),
    )

pub overflow_sub-self : goal.overflow_sub-self
overflow_sub-self g c =
    let xs = c.self.inside.threads.list in
    let threads = c.args.self.now.threads in
    let is : xs ≡ threads = ap (λ (l : Live). l.threads) c.self.view_is in
    let t = c.args.tid in
    let old : Stamped = c.unwrap-thread.result.now in
    let same : c.ending-count.new.self ≡ old = c.ending-count.ensures.same in
    let here : value_of xs t ≡ Some old = sym c.get_mut.ensures.found ∙ ap option_copied_mut c.unwrap-thread.ensures in
    omega (arith, starts_of_one xs t old here, c.self.invariant.counted, popped_one old.frames c.pop-innermost.new.self.frames c.pop-innermost.result.sums (subst (λ (s : Stamped). IsPopped s.frames (Some c.pop-innermost.result.sums) c.pop-innermost.new.self.frames) same c.pop-innermost.ensures.popped))

pub invariant_of-self-2 : goal.invariant_of-self-2
invariant_of-self-2 g c =
    let xs = c.self.inside.threads.list in
    let threads = c.args.self.now.threads in
    let is : xs ≡ threads = ap (λ (l : Live). l.threads) c.self.view_is in
    let t = c.args.tid in
    let old : Stamped = c.unwrap-thread.result.now in
    let same : c.ending-count.new.self ≡ old = c.ending-count.ensures.same in
    let here : value_of xs t ≡ Some old = sym c.get_mut.ensures.found ∙ ap option_copied_mut c.unwrap-thread.ensures in
    let some = starts_of_one xs t old here in
    let one = popped_one old.frames c.pop-innermost.new.self.frames c.pop-innermost.result.sums (subst (λ (s : Stamped). IsPopped s.frames (Some c.pop-innermost.result.sums) c.pop-innermost.new.self.frames) same c.pop-innermost.ensures.popped) in
    let counted = c.self.invariant.counted in
    kept_changed xs t old c.pop-innermost.new.self c.self.inside.frames c.self.inside.marks _ _ _ _ c.self.invariant here (omega arith) (omega arith)

pub returns : goal.returns
returns g c =
    let xs = c.self.inside.threads.list in
    let t = c.args.tid in
    let old : Stamped = c.ending-count.new.self in
    let here : value_of xs t ≡ Some old = sym c.get_mut.ensures.found ∙ ap option_copied_mut c.unwrap-thread.ensures ∙ ap (λ (s : Stamped). Some s) (sym c.ending-count.ensures.same) in
    let marks = c.self.inside.marks in
    let target = c.args.target in
    let new : Stamped = c.pop-innermost.new.self in
    let ended = c.pop-innermost.result in
    let count = c.ending-count.ensures.count ∙ ap (λ (s : Stamped). returned_by target s.calls) (sym c.ending-count.ensures.same) in
    let is = c.if-count-ne1.false in
    let one : c.ending-count.result ≡ 1 = grind (arith, nat_tests, is) in
    let popped = c.pop-innermost.ensures in
    subst (λ (l : Live). IsReturned t target l (record { threads = with_value xs t new; marks = marks + 1 }) (One ended)) c.self.view_is (
      ap (returned_by target) (calls_were xs xs refl t old here) ∙ sym count ∙ one,
      ended_one xs t marks (marks + 1) old new here ended popped.popped popped.pages popped.list popped.counts popped.counted popped.kept refl,
    )

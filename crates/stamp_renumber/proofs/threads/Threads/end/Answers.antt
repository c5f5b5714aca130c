use Rattle.std.proofs.Common.{◌≡◌, ◌∙◌, ◌∷◌, List, length, ap, sym, subst, arith, Some}
use Rattle.std.specs.Option.{option_copied_mut}
use Rattle.guest_words.specs.ByThread.{value_of}
use Rattle.call_tracker.specs.ThreadCalls.{Calls}
use Rattle.shadow_stack.specs.Frames.{FitsPop, Frame, IsPopped}
use Rattle.stamp_renumber.specs.Threads.{Live, Stamped, frames_of}
use Rattle.stamp_renumber.proofs.Changed.{calls_are, calls_were, changed_to, frames_are, frames_were, kept_changed, popped_one, spare_is, spare_was, starts_of_one}
use Rattle.stamp_renumber.proofs.threads.Threads.end.Goals as goal

pub pop-ended-requires-clause-frames : goal.pop-ended-requires-clause-frames
pop-ended-requires-clause-frames g c =
    let xs = c.self.inside.threads.list in
    let threads = c.args.self.now.threads in
    let is : xs ≡ threads = ap (λ (l : Live). l.threads) c.self.view_is in
    let t = c.args.tid in
    let old : Stamped = c.unwrap-thread.result.now in
    let here : value_of xs t ≡ Some old = sym c.get_mut.ensures.found ∙ ap option_copied_mut c.unwrap-thread.ensures in
    omega (arith, ap (λ (fs : List Frame). length fs) (frames_were xs threads is t old here), c.requires.frames)

pub pop-ended-requires-clause-calls : goal.pop-ended-requires-clause-calls
pop-ended-requires-clause-calls g c =
    let xs = c.self.inside.threads.list in
    let threads = c.args.self.now.threads in
    let is : xs ≡ threads = ap (λ (l : Live). l.threads) c.self.view_is in
    let t = c.args.tid in
    let old : Stamped = c.unwrap-thread.result.now in
    let here : value_of xs t ≡ Some old = sym c.get_mut.ensures.found ∙ ap option_copied_mut c.unwrap-thread.ensures in
    omega (arith, ap (λ (k : Calls). length k.list) (calls_were xs threads is t old here), c.requires.calls)

pub pop-ended-requires-clause-fits : goal.pop-ended-requires-clause-fits
pop-ended-requires-clause-fits g c =
    let xs = c.self.inside.threads.list in
    let threads = c.args.self.now.threads in
    let is : xs ≡ threads = ap (λ (l : Live). l.threads) c.self.view_is in
    let t = c.args.tid in
    let old : Stamped = c.unwrap-thread.result.now in
    let here : value_of xs t ≡ Some old = sym c.get_mut.ensures.found ∙ ap option_copied_mut c.unwrap-thread.ensures in
    subst (λ (fs : List Frame). FitsPop fs) (frames_were xs threads is t old here) c.requires.fits

pub overflow_sub-self : goal.overflow_sub-self
overflow_sub-self g c =
    let xs = c.self.inside.threads.list in
    let threads = c.args.self.now.threads in
    let is : xs ≡ threads = ap (λ (l : Live). l.threads) c.self.view_is in
    let t = c.args.tid in
    let old : Stamped = c.unwrap-thread.result.now in
    let here : value_of xs t ≡ Some old = sym c.get_mut.ensures.found ∙ ap option_copied_mut c.unwrap-thread.ensures in
    omega (arith, starts_of_one xs t old here, c.self.invariant.counted, popped_one old.frames c.pop-ended.new.self.frames c.pop-ended.result.sums c.pop-ended.ensures.popped)

pub invariant_of-self : goal.invariant_of-self
invariant_of-self g c =
    let xs = c.self.inside.threads.list in
    let threads = c.args.self.now.threads in
    let is : xs ≡ threads = ap (λ (l : Live). l.threads) c.self.view_is in
    let t = c.args.tid in
    let old : Stamped = c.unwrap-thread.result.now in
    let here : value_of xs t ≡ Some old = sym c.get_mut.ensures.found ∙ ap option_copied_mut c.unwrap-thread.ensures in
    let some = starts_of_one xs t old here in
    let one = popped_one old.frames c.pop-ended.new.self.frames c.pop-ended.result.sums c.pop-ended.ensures.popped in
    let counted = c.self.invariant.counted in
    kept_changed xs t old c.pop-ended.new.self c.self.inside.frames c.self.inside.marks _ _ _ _ c.self.invariant here (omega arith) (omega arith)

pub returns-clause-popped : goal.returns-clause-popped
returns-clause-popped g c =
    let xs = c.self.inside.threads.list in
    let threads = c.args.self.now.threads in
    let is : xs ≡ threads = ap (λ (l : Live). l.threads) c.self.view_is in
    let t = c.args.tid in
    let old : Stamped = c.unwrap-thread.result.now in
    let here : value_of xs t ≡ Some old = sym c.get_mut.ensures.found ∙ ap option_copied_mut c.unwrap-thread.ensures in
    subst (λ (fs : List Frame). IsPopped (frames_of threads t) (Some c.pop-ended.result.sums) fs) (sym (frames_are xs threads is t old here c.pop-ended.new.self))
    (subst (λ (fs : List Frame). IsPopped fs (Some c.pop-ended.result.sums) c.pop-ended.new.self.frames) (sym (frames_were xs threads is t old here)) c.pop-ended.ensures.popped)

pub returns-clause-threads : goal.returns-clause-threads
returns-clause-threads g c =
    let xs = c.self.inside.threads.list in
    let threads = c.args.self.now.threads in
    let is : xs ≡ threads = ap (λ (l : Live). l.threads) c.self.view_is in
    let t = c.args.tid in
    let old : Stamped = c.unwrap-thread.result.now in
    let here : value_of xs t ≡ Some old = sym c.get_mut.ensures.found ∙ ap option_copied_mut c.unwrap-thread.ensures in
    let are = frames_are xs threads is t old here c.pop-ended.new.self in
    changed_to xs threads is t old here c.pop-ended.new.self _ (sym are) c.pop-ended.ensures.pages

pub returns-clause-list : goal.returns-clause-list
returns-clause-list g c =
    let xs = c.self.inside.threads.list in
    let threads = c.args.self.now.threads in
    let is : xs ≡ threads = ap (λ (l : Live). l.threads) c.self.view_is in
    let t = c.args.tid in
    let old : Stamped = c.unwrap-thread.result.now in
    let here : value_of xs t ≡ Some old = sym c.get_mut.ensures.found ∙ ap option_copied_mut c.unwrap-thread.ensures in
    ap (λ (k : Calls). k.list) (calls_were xs threads is t old here)
    ∙ c.pop-ended.ensures.list
    ∙ ap (λ (k : Calls). c.pop-ended.result.call ∷ k.list) (sym (calls_are xs threads is t old here c.pop-ended.new.self))

pub returns-clause-counts : goal.returns-clause-counts
returns-clause-counts g c =
    let xs = c.self.inside.threads.list in
    let threads = c.args.self.now.threads in
    let is : xs ≡ threads = ap (λ (l : Live). l.threads) c.self.view_is in
    let t = c.args.tid in
    let old : Stamped = c.unwrap-thread.result.now in
    let here : value_of xs t ≡ Some old = sym c.get_mut.ensures.found ∙ ap option_copied_mut c.unwrap-thread.ensures in
    ap (λ (k : Calls). k.counts) (calls_are xs threads is t old here c.pop-ended.new.self) ∙ c.pop-ended.ensures.counts ∙ ap (λ (k : Calls). k.counts) (sym (calls_were xs threads is t old here))

pub returns-clause-counted : goal.returns-clause-counted
returns-clause-counted g c =
    let xs = c.self.inside.threads.list in
    let threads = c.args.self.now.threads in
    let is : xs ≡ threads = ap (λ (l : Live). l.threads) c.self.view_is in
    let t = c.args.tid in
    let old : Stamped = c.unwrap-thread.result.now in
    let here : value_of xs t ≡ Some old = sym c.get_mut.ensures.found ∙ ap option_copied_mut c.unwrap-thread.ensures in
    c.pop-ended.ensures.counted ∙ ap (λ (k : Calls). k.counts) (sym (calls_were xs threads is t old here))

pub returns-clause-kept : goal.returns-clause-kept
returns-clause-kept g c =
    let xs = c.self.inside.threads.list in
    let threads = c.args.self.now.threads in
    let is : xs ≡ threads = ap (λ (l : Live). l.threads) c.self.view_is in
    let t = c.args.tid in
    let old : Stamped = c.unwrap-thread.result.now in
    let here : value_of xs t ≡ Some old = sym c.get_mut.ensures.found ∙ ap option_copied_mut c.unwrap-thread.ensures in
    omega (arith, spare_was xs threads is t old here, spare_is xs threads is t old here c.pop-ended.new.self, c.pop-ended.ensures.kept)

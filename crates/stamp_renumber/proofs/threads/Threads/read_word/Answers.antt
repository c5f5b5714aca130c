use Rattle.std.proofs.Common.{◌≡◌, ◌∙◌, ◌+◌, ◌<◌, ◌≤◌, ◌^◌, ℕ, List, length, ap, sym, subst, arith, Some}
use Rattle.std.specs.Option.{option_copied_mut}
use Rattle.std.specs.Prelude.{IfSome, slice_get}
use Rattle.guest_words.specs.ByThread.{value_of, with_value}
use Rattle.shadow_stack.specs.Costs.{most_compared}
use Rattle.shadow_stack.specs.Frames.{FitsSums, Frame, plus, starts_of}
use Rattle.shadow_pages.specs.Pages.{HasPlace}
use Rattle.stamp_renumber.specs.Threads.{Live, Stamped, own_of}
use Rattle.stamp_renumber.specs.WordRead.{IsWordRead}
use Rattle.stamp_renumber.proofs.Changed.{changed_own, frames_were, kept_changed, own_is, own_was, pages_were}
use Rattle.stamp_renumber.proofs.WordRead.{length_moved}
use Rattle.stamp_renumber.proofs.threads.Threads.read_word.Goals as goal

pub read_word-requires-clause-place : goal.read_word-requires-clause-place
read_word-requires-clause-place g c =
    let xs = c.self.inside.threads.list in
    let threads = c.args.self.now.threads in
    let is : xs ≡ threads = ap (λ (l : Live). l.threads) c.self.view_is in
    let t = c.args.tid in
    let old : Stamped = c.unwrap-thread.result.now in
    let here : value_of xs t ≡ Some old = sym c.get_mut.ensures.found ∙ ap option_copied_mut c.unwrap-thread.ensures in
    subst (λ ps. HasPlace ps c.args.w c.args.place) (pages_were xs threads is t old here) c.requires.place

pub read_word-requires-clause-some : goal.read_word-requires-clause-some
read_word-requires-clause-some g c =
    let xs = c.self.inside.threads.list in
    let threads = c.args.self.now.threads in
    let is : xs ≡ threads = ap (λ (l : Live). l.threads) c.self.view_is in
    let t = c.args.tid in
    let old : Stamped = c.unwrap-thread.result.now in
    let here : value_of xs t ≡ Some old = sym c.get_mut.ensures.found ∙ ap option_copied_mut c.unwrap-thread.ensures in
    omega (arith, c.requires.some, ap length (frames_were xs threads is t old here))

pub read_word-requires-clause-fits : goal.read_word-requires-clause-fits
read_word-requires-clause-fits g c =
    let xs = c.self.inside.threads.list in
    let threads = c.args.self.now.threads in
    let is : xs ≡ threads = ap (λ (l : Live). l.threads) c.self.view_is in
    let t = c.args.tid in
    let old : Stamped = c.unwrap-thread.result.now in
    let here : value_of xs t ≡ Some old = sym c.get_mut.ensures.found ∙ ap option_copied_mut c.unwrap-thread.ensures in
    λ i. subst (λ fs. IfSome (slice_get fs i) (λ f. FitsSums (plus f.sums c.args.by))) (frames_were xs threads is t old here) (c.requires.fits i)

pub read_word-requires-clause-fits_back : goal.read_word-requires-clause-fits_back
read_word-requires-clause-fits_back g c =
    let xs = c.self.inside.threads.list in
    let threads = c.args.self.now.threads in
    let is : xs ≡ threads = ap (λ (l : Live). l.threads) c.self.view_is in
    let t = c.args.tid in
    let old : Stamped = c.unwrap-thread.result.now in
    let here : value_of xs t ≡ Some old = sym c.get_mut.ensures.found ∙ ap option_copied_mut c.unwrap-thread.ensures in
    λ i. subst (λ fs. IfSome (slice_get fs i) (λ f. FitsSums (plus f.sums c.args.back))) (frames_were xs threads is t old here) (c.requires.fits_back i)

pub invariant_of-self : goal.invariant_of-self
invariant_of-self g c =
    let xs = c.self.inside.threads.list in
    let t = c.args.tid in
    let old : Stamped = c.unwrap-thread.result.now in
    let here : value_of xs t ≡ Some old = sym c.get_mut.ensures.found ∙ ap option_copied_mut c.unwrap-thread.ensures in
    let long : length c.read_word.new.self.frames ≡ length old.frames = length_moved _ _ _ old.frames c.read_word.new.self.frames c.read_word.ensures.read.frames in
    kept_changed xs t old c.read_word.new.self c.self.inside.frames c.self.inside.marks _ _ _ _ c.self.invariant here (omega (arith, long)) (omega arith)

pub returns-clause-threads : goal.returns-clause-threads
returns-clause-threads g c =
    let xs = c.self.inside.threads.list in
    let threads = c.args.self.now.threads in
    let is : xs ≡ threads = ap (λ (l : Live). l.threads) c.self.view_is in
    let t = c.args.tid in
    let old : Stamped = c.unwrap-thread.result.now in
    let here : value_of xs t ≡ Some old = sym c.get_mut.ensures.found ∙ ap option_copied_mut c.unwrap-thread.ensures in
    changed_own xs threads is t old here c.read_word.new.self

pub returns-clause-read : goal.returns-clause-read
returns-clause-read g c =
    let xs = c.self.inside.threads.list in
    let threads = c.args.self.now.threads in
    let is : xs ≡ threads = ap (λ (l : Live). l.threads) c.self.view_is in
    let t = c.args.tid in
    let f = g.S.Stamp.number_of in
    let old : Stamped = c.unwrap-thread.result.now in
    let here : value_of xs t ≡ Some old = sym c.get_mut.ensures.found ∙ ap option_copied_mut c.unwrap-thread.ensures in
    subst (λ (s : Stamped). IsWordRead c.args.w (f c.args.own) c.args.by c.args.back (f c.args.stamp) s (own_of (with_value xs t c.read_word.new.self) t)) (sym (own_was xs threads is t old here))
    (subst (IsWordRead c.args.w (f c.args.own) c.args.by c.args.back (f c.args.stamp) old) (sym (own_is xs threads is t old here c.read_word.new.self)) c.read_word.ensures.read)

pub returns-clause-cost : goal.returns-clause-cost
returns-clause-cost g c =
    let xs = c.self.inside.threads.list in
    let threads = c.args.self.now.threads in
    let is : xs ≡ threads = ap (λ (l : Live). l.threads) c.self.view_is in
    let t = c.args.tid in
    let old : Stamped = c.unwrap-thread.result.now in
    let here : value_of xs t ≡ Some old = sym c.get_mut.ensures.found ∙ ap option_copied_mut c.unwrap-thread.ensures in
    subst (λ (fs : List Frame). (digits : ℕ) → length fs < 2 ^ digits → c.read_word.new.steps ≤ c.args.steps.now + most_compared digits (starts_of fs) (g.S.Stamp.number_of c.args.own))
    (sym (frames_were xs threads is t old here)) c.read_word.ensures.cost

use Rattle.std.proofs.Common.{◌≡◌, ◌∙◌, length, ap, sym, arith, Some}
use Rattle.std.specs.Option.{option_copied_mut}
use Rattle.guest_words.specs.ByThread.{value_of}
use Rattle.stamp_renumber.specs.Counted.{steps_added}
use Rattle.stamp_renumber.specs.Threads.{Live, Stamped}
use Rattle.stamp_renumber.proofs.Changed.{calls_were, changed_calls, kept_changed}
use Rattle.stamp_renumber.proofs.threads.Threads.add_steps.Goals as goal

pub add_steps-requires : goal.add_steps-requires
add_steps-requires g c =
    let xs = c.self.inside.threads.list in
    let threads = c.args.self.now.threads in
    let is : xs ≡ threads = ap (λ (l : Live). l.threads) c.self.view_is in
    let t = c.args.tid in
    let old : Stamped = c.unwrap-thread.result.now in
    let here : value_of xs t ≡ Some old = sym c.get_mut.ensures.found ∙ ap option_copied_mut c.unwrap-thread.ensures in
    omega (arith, ap (λ k. k.counts.steps) (calls_were xs threads is t old here), c.requires.fits)

pub invariant_of-self : goal.invariant_of-self
invariant_of-self g c =
    let xs = c.self.inside.threads.list in
    let threads = c.args.self.now.threads in
    let is : xs ≡ threads = ap (λ (l : Live). l.threads) c.self.view_is in
    let t = c.args.tid in
    let old : Stamped = c.unwrap-thread.result.now in
    let here : value_of xs t ≡ Some old = sym c.get_mut.ensures.found ∙ ap option_copied_mut c.unwrap-thread.ensures in
    let long = ap (λ (s : Stamped). length s.frames) c.add_steps.ensures in
    kept_changed xs t old c.add_steps.new.self c.self.inside.frames c.self.inside.marks _ _ _ _ c.self.invariant here (omega (arith, long)) (omega arith)

pub returns : goal.returns
returns g c =
    let xs = c.self.inside.threads.list in
    let threads = c.args.self.now.threads in
    let is : xs ≡ threads = ap (λ (l : Live). l.threads) c.self.view_is in
    let t = c.args.tid in
    let old : Stamped = c.unwrap-thread.result.now in
    let here : value_of xs t ≡ Some old = sym c.get_mut.ensures.found ∙ ap option_copied_mut c.unwrap-thread.ensures in
    changed_calls xs c.self.inside.marks c.args.self.now t old c.add_steps.new.self (steps_added c.args.steps) c.self.view_is here c.add_steps.ensures

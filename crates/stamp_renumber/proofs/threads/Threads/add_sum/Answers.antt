use Rattle.std.proofs.Common.{◌≡◌, ◌∙◌, length, ap, sym, arith, Some}
use Rattle.std.specs.Option.{option_copied_mut}
use Rattle.guest_words.specs.ByThread.{value_of}
use Rattle.shadow_stack.specs.Frames.{added}
use Rattle.stamp_renumber.specs.Threads.{Live, Stamped, frames_of}
use Rattle.shadow_stack.proofs.Places.{length_changed}
use Rattle.stamp_renumber.proofs.Changed.{calls_are, calls_were, changed_to, frames_were, kept_changed, spare_is, spare_was}
use Rattle.stamp_renumber.proofs.threads.Threads.add_sum.Goals as goal

pub invariant_of-self : goal.invariant_of-self
invariant_of-self g c =
    let xs = c.self.inside.threads.list in
    let threads = c.args.self.now.threads in
    let is : xs ≡ threads = ap (λ (l : Live). l.threads) c.self.view_is in
    let t = c.args.tid in
    let old : Stamped = c.unwrap.result.now in
    let here : value_of xs t ≡ Some old = sym c.get_mut.ensures.found ∙ ap option_copied_mut c.unwrap.ensures in
    let long : length c.add.new.self.frames ≡ length old.frames = ap length c.add.ensures.frames ∙ length_changed c.args.i c.args.by old.frames in
    kept_changed xs t old c.add.new.self c.self.inside.frames c.self.inside.marks _ _ _ _ c.self.invariant here (omega (arith, long)) (omega arith)

pub returns-clause-threads : goal.returns-clause-threads
returns-clause-threads g c =
    let xs = c.self.inside.threads.list in
    let threads = c.args.self.now.threads in
    let is : xs ≡ threads = ap (λ (l : Live). l.threads) c.self.view_is in
    let t = c.args.tid in
    let old : Stamped = c.unwrap.result.now in
    let here : value_of xs t ≡ Some old = sym c.get_mut.ensures.found ∙ ap option_copied_mut c.unwrap.ensures in
    changed_to xs threads is t old here c.add.new.self (added c.args.i c.args.by (frames_of threads t))
    (c.add.ensures.frames ∙ ap (added c.args.i c.args.by) (sym (frames_were xs threads is t old here))) c.add.ensures.pages

pub returns-clause-kept : goal.returns-clause-kept
returns-clause-kept g c =
    let xs = c.self.inside.threads.list in
    let threads = c.args.self.now.threads in
    let is : xs ≡ threads = ap (λ (l : Live). l.threads) c.self.view_is in
    let t = c.args.tid in
    let old : Stamped = c.unwrap.result.now in
    let here : value_of xs t ≡ Some old = sym c.get_mut.ensures.found ∙ ap option_copied_mut c.unwrap.ensures in
    omega (arith, spare_was xs threads is t old here, spare_is xs threads is t old here c.add.new.self, c.add.ensures.kept)

pub returns-clause-calls : goal.returns-clause-calls
returns-clause-calls g c =
    let xs = c.self.inside.threads.list in
    let threads = c.args.self.now.threads in
    let is : xs ≡ threads = ap (λ (l : Live). l.threads) c.self.view_is in
    let t = c.args.tid in
    let old : Stamped = c.unwrap.result.now in
    let here : value_of xs t ≡ Some old = sym c.get_mut.ensures.found ∙ ap option_copied_mut c.unwrap.ensures in
    calls_are xs threads is t old here c.add.new.self ∙ c.add.ensures.calls ∙ sym (calls_were xs threads is t old here)

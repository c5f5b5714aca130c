use Rattle.std.proofs.Common.{◌≡◌, ◌∙◌, ℕ, List, length, ap, sym, subst, arith, Some}
use Rattle.std.specs.Option.{option_copied_mut}
use Rattle.std.specs.Vec.{vec_capacity}
use Rattle.guest_words.specs.ByThread.{value_of, with_value}
use Rattle.guest_words.proofs.ThreadTables.{with_own}
use Rattle.stamp_renumber.specs.Kept.{IsKept}
use Rattle.stamp_renumber.specs.Returned.{returned_by}
use Rattle.stamp_renumber.specs.Threads.{Live, Stamped}
use Rattle.stamp_renumber.proofs.Changed.{calls_were}
use Rattle.stamp_renumber.proofs.threads.Threads.ending.Goals as goal

pub invariant_of-self : goal.invariant_of-self
invariant_of-self g c =
    let xs = c.self.inside.threads.list in
    let threads = c.args.self.now.threads in
    let is : xs ≡ threads = ap (λ (l : Live). l.threads) c.self.view_is in
    let t = c.args.tid in
    let old : Stamped = c.unwrap-thread.result.now in
    let same : c.ending.new.self ≡ old = c.ending.ensures.same in
    let here : value_of xs t ≡ Some old = sym c.get_mut.ensures.found ∙ ap option_copied_mut c.unwrap-thread.ensures in
    let a = vec_capacity c.self.inside.starts in
    let b = vec_capacity c.self.inside.renewed in
    let list : with_value xs t c.ending.new.self ≡ xs = ap (with_value xs t) same ∙ with_own xs t old here in
    subst (λ (ys : List (ℕ × Stamped)). IsKept ys c.self.inside.frames c.self.inside.marks a b) (sym list) c.self.invariant

pub returns-clause-count : goal.returns-clause-count
returns-clause-count g c =
    let xs = c.self.inside.threads.list in
    let threads = c.args.self.now.threads in
    let is : xs ≡ threads = ap (λ (l : Live). l.threads) c.self.view_is in
    let t = c.args.tid in
    let old : Stamped = c.unwrap-thread.result.now in
    let same : c.ending.new.self ≡ old = c.ending.ensures.same in
    let here : value_of xs t ≡ Some old = sym c.get_mut.ensures.found ∙ ap option_copied_mut c.unwrap-thread.ensures in
    c.ending.ensures.count ∙ ap (returned_by c.args.target) (sym (calls_were xs threads is t old here))

pub returns-clause-within : goal.returns-clause-within
returns-clause-within g c =
    let xs = c.self.inside.threads.list in
    let threads = c.args.self.now.threads in
    let is : xs ≡ threads = ap (λ (l : Live). l.threads) c.self.view_is in
    let t = c.args.tid in
    let old : Stamped = c.unwrap-thread.result.now in
    let same : c.ending.new.self ≡ old = c.ending.ensures.same in
    let here : value_of xs t ≡ Some old = sym c.get_mut.ensures.found ∙ ap option_copied_mut c.unwrap-thread.ensures in
    omega (arith, c.ending.ensures.within, ap (λ k. length k.list) (calls_were xs threads is t old here))

pub returns-clause-same : goal.returns-clause-same
returns-clause-same g c =
    let xs = c.self.inside.threads.list in
    let threads = c.args.self.now.threads in
    let is : xs ≡ threads = ap (λ (l : Live). l.threads) c.self.view_is in
    let t = c.args.tid in
    let old : Stamped = c.unwrap-thread.result.now in
    let same : c.ending.new.self ≡ old = c.ending.ensures.same in
    let here : value_of xs t ≡ Some old = sym c.get_mut.ensures.found ∙ ap option_copied_mut c.unwrap-thread.ensures in
    let list : with_value xs t c.ending.new.self ≡ threads = ap (with_value xs t) same ∙ with_own xs t old here ∙ is in
    (λ i. record { threads = list i; marks = (c.self.view_is i).marks })

use Rattle.std.proofs.Common.{◌≡◌, ◌-◌, ◌+◌, ◌∙◌, ℕ, List, length, ap, sym, subst, refl, arith, Some}
use Rattle.std.specs.Option.{option_copied_mut}
use Rattle.std.specs.Vec.{vec_capacity}
use Rattle.std.proofs.lemmas.List.{length_push}
use Rattle.guest_words.specs.ByThread.{value_of, with_value}
use Rattle.guest_words.proofs.ThreadTables.{with_own}
use Rattle.shadow_stack.specs.Frames.{new_frame}
use Rattle.stamp_renumber.specs.Begun.{IsBegun}
use Rattle.stamp_renumber.specs.Counted.{steps_added}
use Rattle.stamp_renumber.specs.Kept.{IsKept}
use Rattle.stamp_renumber.specs.Threads.{Live, Stamped}
use Rattle.stamp_renumber.proofs.Called.{after_calls, begun_one}
use Rattle.stamp_renumber.proofs.Changed.{kept_changed, now}
use Rattle.stamp_renumber.proofs.threads.Threads.begin_after.Goals as goal

pub invariant_of-self : goal.invariant_of-self
invariant_of-self g c =
    let xs = c.self.inside.threads.list in
    let t = c.args.tid in
    let old : Stamped = c.unwrap-thread.result.now in
    let here : value_of xs t ≡ Some old = sym c.get_mut.ensures.found ∙ ap option_copied_mut c.unwrap-thread.ensures in
    let same : c.begin_after.new.self ≡ old = c.if-not-begin_after.ensures.same refl in
    let a = vec_capacity c.self.inside.starts in
    let b = vec_capacity c.self.inside.renewed in
    let list : with_value xs t c.begin_after.new.self ≡ xs = ap (with_value xs t) same ∙ with_own xs t old here in
    subst (λ (ys : List (ℕ × Stamped)). IsKept ys c.self.inside.frames c.self.inside.marks a b) (sym list) c.self.invariant

pub returns-then-not-begin_after-clause-same : goal.returns-then-not-begin_after-clause-same
returns-then-not-begin_after-clause-same g c = λ none.
    let xs = c.self.inside.threads.list in
    let threads = c.args.self.now.threads in
    let is : xs ≡ threads = ap (λ (l : Live). l.threads) c.self.view_is in
    let t = c.args.tid in
    let old : Stamped = c.unwrap-thread.result.now in
    let here : value_of xs t ≡ Some old = sym c.get_mut.ensures.found ∙ ap option_copied_mut c.unwrap-thread.ensures in
    let same : c.begin_after.new.self ≡ old = c.if-not-begin_after.ensures.same refl in
    let list : with_value xs t c.begin_after.new.self ≡ threads = ap (with_value xs t) same ∙ with_own xs t old here ∙ is in
    (λ i. record { threads = list i; marks = (c.self.view_is i).marks })

pub invariant_of-self-2 : goal.invariant_of-self-2
invariant_of-self-2 g c =
    let xs = c.self.inside.threads.list in
    let t = c.args.tid in
    let old : Stamped = c.unwrap-thread.result.now in
    let here : value_of xs t ≡ Some old = sym c.get_mut.ensures.found ∙ ap option_copied_mut c.unwrap-thread.ensures in
    let long : length c.begin_after.new.self.frames ≡ length old.frames + 1 = ap length (c.if-not-begin_after.ensures.frames refl) ∙ length_push old.frames (new_frame (g.S.Stamp.number_of c.args.start)) in
    kept_changed xs t old c.begin_after.new.self c.self.inside.frames c.self.inside.marks _ _ _ _ c.self.invariant here (omega (arith, long)) (omega (arith, c.if-self-eq0.false))

pub returns-clause-begun : goal.returns-clause-begun
returns-clause-begun g c = λ done.
    let xs = c.self.inside.threads.list in
    let t = c.args.tid in
    let old : Stamped = c.unwrap-thread.result.now in
    let here : value_of xs t ≡ Some old = sym c.get_mut.ensures.found ∙ ap option_copied_mut c.unwrap-thread.ensures in
    let start = g.S.Stamp.number_of c.args.start in
    let marks = c.self.inside.marks in
    let mid : Stamped = record old { calls = steps_added c.args.steps old.calls } in
    let new : Stamped = c.begin_after.new.self in
    let began = c.if-not-begin_after.ensures in
    after_calls (IsBegun t start c.args.entry c.args.back) xs marks (marks - 1) c.args.self.now t old mid new (steps_added c.args.steps) c.self.view_is here refl
    (
    begun_one (with_value xs t mid) t marks (marks - 1) mid new (now xs xs refl t old here mid) start c.args.entry c.args.back (began.frames refl) began.pages (began.list refl) (began.counts refl) began.lowered
    (omega (arith, c.if-self-eq0.false))
    )

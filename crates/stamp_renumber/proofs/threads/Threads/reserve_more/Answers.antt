use Rattle.std.proofs.Common.{◌≡◌, ◌≤◌, ◌∙◌, ℕ, List, length, ap, sym, subst, arith, Some}
use Rattle.std.specs.Option.{option_copied_mut}
use Rattle.std.proofs.lemmas.Result.{on_ok_weaker}
use Rattle.guest_words.specs.ByThread.{value_of, with_value}
use Rattle.call_tracker.specs.ThreadCalls.{Calls}
use Rattle.stamp_renumber.specs.Threads.{Live, Stamped, calls_of, frames_of, pages_of, stamped}
use Rattle.stamp_renumber.proofs.Changed.{calls_are, calls_were, changed_to, frames_were, kept_changed, spare_is, spare_was, unchanged}
use Rattle.stamp_renumber.proofs.threads.Threads.reserve_more.Goals as goal

pub returns-in_err-reserve_mark-clause-threads : goal.returns-in_err-reserve_mark-clause-threads
returns-in_err-reserve_mark-clause-threads g c =
    let same = c.in_err-reserve_mark.ensures.threads in
    let t = c.args.tid in
    let threads = c.args.self.now.threads in
    subst (λ (ys : List (ℕ × Stamped)). ys ≡ with_value threads t (stamped ys t (frames_of threads t) (pages_of threads t))) (sym same) (unchanged threads t c.requires.lives)

pub invariant_of-self : goal.invariant_of-self
invariant_of-self g c =
    let xs = c.self.inside.threads.list in
    let threads = c.args.self.now.threads in
    let is : xs ≡ threads = ap (λ (l : Live). l.threads) c.self.view_is ∙ c.in_ok-reserve_mark.ensures.threads in
    let t = c.args.tid in
    let old : Stamped = c.unwrap.result.now in
    let here : value_of xs t ≡ Some old = sym c.get_mut.ensures.found ∙ ap option_copied_mut c.unwrap.ensures in
    let long = ap length c.reserve.ensures.frames in
    kept_changed xs t old c.reserve.new.self c.self.inside.frames c.self.inside.marks _ _ _ _ c.self.invariant here (omega (arith, long)) (omega arith)

pub returns-clause-room : goal.returns-clause-room
returns-clause-room g c =
    let xs = c.self.inside.threads.list in
    let threads = c.args.self.now.threads in
    let is : xs ≡ threads = ap (λ (l : Live). l.threads) c.self.view_is ∙ c.in_ok-reserve_mark.ensures.threads in
    let t = c.args.tid in
    let old : Stamped = c.unwrap.result.now in
    let here : value_of xs t ≡ Some old = sym c.get_mut.ensures.found ∙ ap option_copied_mut c.unwrap.ensures in
    let some : 1 ≤ c.reserve_mark.new.self.marks = c.in_ok-reserve_mark.ensures.room in
    let marks : c.self.inside.marks ≡ c.reserve_mark.new.self.marks = ap (λ (l : Live). l.marks) c.self.view_is in
    let spare = spare_is xs threads is t old here c.reserve.new.self in
    on_ok_weaker c.reserve.result (λ one. (omega (arith, one, spare), omega (arith, some, marks))) c.reserve.ensures.room

pub returns-clause-threads : goal.returns-clause-threads
returns-clause-threads g c =
    let xs = c.self.inside.threads.list in
    let threads = c.args.self.now.threads in
    let is : xs ≡ threads = ap (λ (l : Live). l.threads) c.self.view_is ∙ c.in_ok-reserve_mark.ensures.threads in
    let t = c.args.tid in
    let old : Stamped = c.unwrap.result.now in
    let here : value_of xs t ≡ Some old = sym c.get_mut.ensures.found ∙ ap option_copied_mut c.unwrap.ensures in
    changed_to xs threads is t old here c.reserve.new.self (frames_of threads t) (c.reserve.ensures.frames ∙ sym (frames_were xs threads is t old here)) c.reserve.ensures.pages

pub returns-clause-kept : goal.returns-clause-kept
returns-clause-kept g c =
    let xs = c.self.inside.threads.list in
    let threads = c.args.self.now.threads in
    let is : xs ≡ threads = ap (λ (l : Live). l.threads) c.self.view_is ∙ c.in_ok-reserve_mark.ensures.threads in
    let t = c.args.tid in
    let old : Stamped = c.unwrap.result.now in
    let here : value_of xs t ≡ Some old = sym c.get_mut.ensures.found ∙ ap option_copied_mut c.unwrap.ensures in
    omega (arith, spare_was xs threads is t old here, spare_is xs threads is t old here c.reserve.new.self, c.reserve.ensures.kept)

pub returns-in_err-reserve_mark-clause-list : goal.returns-in_err-reserve_mark-clause-list
returns-in_err-reserve_mark-clause-list g c = ap (λ (ys : List (ℕ × Stamped)). (calls_of ys c.args.tid).list) c.in_err-reserve_mark.ensures.threads

pub returns-clause-list : goal.returns-clause-list
returns-clause-list g c =
    let xs = c.self.inside.threads.list in
    let threads = c.args.self.now.threads in
    let is : xs ≡ threads = ap (λ (l : Live). l.threads) c.self.view_is ∙ c.in_ok-reserve_mark.ensures.threads in
    let t = c.args.tid in
    let old : Stamped = c.unwrap.result.now in
    let here : value_of xs t ≡ Some old = sym c.get_mut.ensures.found ∙ ap option_copied_mut c.unwrap.ensures in
    ap (λ (k : Calls). k.list) (calls_are xs threads is t old here c.reserve.new.self) ∙ ap (λ (k : Calls). k.list) c.reserve.ensures.calls ∙ ap (λ (k : Calls). k.list) (sym (calls_were xs threads is t old here))

pub returns-in_err-reserve_mark-clause-counts : goal.returns-in_err-reserve_mark-clause-counts
returns-in_err-reserve_mark-clause-counts g c = ap (λ (ys : List (ℕ × Stamped)). (calls_of ys c.args.tid).counts) c.in_err-reserve_mark.ensures.threads

pub returns-clause-counts : goal.returns-clause-counts
returns-clause-counts g c =
    let xs = c.self.inside.threads.list in
    let threads = c.args.self.now.threads in
    let is : xs ≡ threads = ap (λ (l : Live). l.threads) c.self.view_is ∙ c.in_ok-reserve_mark.ensures.threads in
    let t = c.args.tid in
    let old : Stamped = c.unwrap.result.now in
    let here : value_of xs t ≡ Some old = sym c.get_mut.ensures.found ∙ ap option_copied_mut c.unwrap.ensures in
    ap (λ (k : Calls). k.counts) (calls_are xs threads is t old here c.reserve.new.self) ∙ ap (λ (k : Calls). k.counts) c.reserve.ensures.calls ∙ ap (λ (k : Calls). k.counts) (sym (calls_were xs threads is t old here))

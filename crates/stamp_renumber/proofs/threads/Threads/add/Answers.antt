use Rattle.std.proofs.Common.{◌≡◌, ◌∙◌, ◌<◌, ◌++◌, ◌∷◌, [], ℕ, List, ap, sym, subst, All}
use Rattle.std.specs.Vec.{vec_capacity}
use Rattle.std.proofs.lemmas.Result.{on_err_weaker, on_ok_weaker}
use Rattle.std.proofs.lemmas.List.Elements.{All-same}
use Rattle.guest_words.specs.ByThread.{numbers}
use Rattle.call_tracker.specs.ThreadCalls.{Calls}
use Rattle.stamp_renumber.specs.Threads.{Live, Stamped, calls_of, stamped}
use Rattle.stamp_renumber.specs.Kept.{IsKept}
use Rattle.stamp_renumber.proofs.Changed.{either, added_calls, added_thread, kept_pushed}
use Rattle.stamp_renumber.proofs.threads.Threads.add.Goals as goal

pub invariant_of-self : goal.invariant_of-self
invariant_of-self g c =
    let xs = c.self.inside.threads.list in
    let threads = c.args.self.now.threads in
    let is : xs ≡ threads = ap (λ (l : Live). l.threads) c.self.view_is in
    let a = vec_capacity c.self.inside.starts in
    let b = vec_capacity c.self.inside.renewed in
    let above : All (λ n. n < c.args.tid) (numbers xs) = All-same (λ n. n < c.args.tid) (numbers xs) (numbers threads) (ap numbers is) c.requires.above in
    either c.insert.result (λ (ys : List (ℕ × Stamped)). IsKept ys c.self.inside.frames c.self.inside.marks a b) c.insert.new.self.list
    (on_ok_weaker c.insert.result (λ e. subst (λ (ys : List (ℕ × Stamped)). IsKept ys c.self.inside.frames c.self.inside.marks a b) (sym e) (kept_pushed xs c.args.tid c.in_ok-thread.thread c.self.inside.frames c.self.inside.marks _ _ c.self.invariant above c.in_ok-thread.ensures.frames)) c.insert.ensures.ok)
    (on_err_weaker c.insert.result (λ e. subst (λ (ys : List (ℕ × Stamped)). IsKept ys c.self.inside.frames c.self.inside.marks a b) (sym e) c.self.invariant) c.insert.ensures.err)

pub returns-clause-ok : goal.returns-clause-ok
returns-clause-ok g c =
    let xs = c.self.inside.threads.list in
    let threads = c.args.self.now.threads in
    let is : xs ≡ threads = ap (λ (l : Live). l.threads) c.self.view_is in
    let t = c.args.tid in
    let new : Stamped = c.in_ok-thread.thread in
    let above : All (λ n. n < t) (numbers xs) = All-same (λ n. n < t) (numbers xs) (numbers threads) (ap numbers is) c.requires.above in
    on_ok_weaker c.insert.result (λ e.
    subst (λ (ys : List (ℕ × Stamped)). ys ≡ threads ++ (t, stamped ys t [] []) ∷ []) (sym e) (added_thread xs threads is t new above c.in_ok-thread.ensures.frames c.in_ok-thread.ensures.pages)) c.insert.ensures.ok

pub returns-clause-list : goal.returns-clause-list
returns-clause-list g c =
    let xs = c.self.inside.threads.list in
    let threads = c.args.self.now.threads in
    let is : xs ≡ threads = ap (λ (l : Live). l.threads) c.self.view_is in
    let t = c.args.tid in
    let new : Stamped = c.in_ok-thread.thread in
    let above : All (λ n. n < t) (numbers xs) = All-same (λ n. n < t) (numbers xs) (numbers threads) (ap numbers is) c.requires.above in
    on_ok_weaker c.insert.result (λ e.
    ap (λ (ys : List (ℕ × Stamped)). (calls_of ys t).list) e ∙ ap (λ (k : Calls). k.list) (added_calls xs t new above) ∙ c.in_ok-thread.ensures.list) c.insert.ensures.ok

pub returns-clause-counts : goal.returns-clause-counts
returns-clause-counts g c =
    let xs = c.self.inside.threads.list in
    let threads = c.args.self.now.threads in
    let is : xs ≡ threads = ap (λ (l : Live). l.threads) c.self.view_is in
    let t = c.args.tid in
    let new : Stamped = c.in_ok-thread.thread in
    let above : All (λ n. n < t) (numbers xs) = All-same (λ n. n < t) (numbers xs) (numbers threads) (ap numbers is) c.requires.above in
    on_ok_weaker c.insert.result (λ e.
    ap (λ (ys : List (ℕ × Stamped)). (calls_of ys t).counts) e ∙ ap (λ (k : Calls). k.counts) (added_calls xs t new above) ∙ c.in_ok-thread.ensures.counts) c.insert.ensures.ok

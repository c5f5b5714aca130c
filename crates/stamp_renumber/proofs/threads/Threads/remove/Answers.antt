use Rattle.std.proofs.Common.{◌≡◌, ◌≤◌, ◌<◌, ◌+◌, ◌-◌, ◌^◌, ◌∙◌, ℕ, List, length, ap, sym, subst, arith, rules}
use Rattle.std.specs.Vec.{vec_capacity}
use Rattle.guest_words.specs.ByThread.{without_thread}
use Rattle.stamp_renumber.specs.Threads.{Live, Stamped, frames_of}
use Rattle.stamp_renumber.specs.Kept.{IsKept}
use Rattle.stamp_renumber.proofs.Changed.{kept_without, starts-without}
use Rattle.stamp_renumber.proofs.threads.Threads.remove.Goals as goal

pub overflow_sub-self : goal.overflow_sub-self
overflow_sub-self g c =
    let xs = c.self.inside.threads.list in
    let threads = c.args.self.now.threads in
    let is : xs ≡ threads = ap (λ (l : Live). l.threads) c.self.view_is in
    let depth : c.depth-depth.result ≡ length (frames_of xs c.args.tid) = c.depth-depth.ensures ∙ ap (λ (ys : List (ℕ × Stamped)). length (frames_of ys c.args.tid)) (sym is) in
    omega (arith, depth, starts-without xs c.args.tid c.self.invariant.rising, c.self.invariant.counted)

pub overflow_add-self : goal.overflow_add-self
overflow_add-self g c =
    let xs = c.self.inside.threads.list in
    let threads = c.args.self.now.threads in
    let is : xs ≡ threads = ap (λ (l : Live). l.threads) c.self.view_is in
    let depth : c.depth-depth.result ≡ length (frames_of xs c.args.tid) = c.depth-depth.ensures ∙ ap (λ (ys : List (ℕ × Stamped)). length (frames_of ys c.args.tid)) (sym is) in
    let low : c.depth-depth.result ≤ c.self.inside.frames = omega (arith, depth, starts-without xs c.args.tid c.self.invariant.rising, c.self.invariant.counted) in
    let room = c.self.invariant.starts_fit in
    let small = c.self.inside.starts.small in
    let fits : c.self.inside.marks + c.depth-depth.result < 2 ^ 64 = omega arith in
    search rules

pub invariant_of-self : goal.invariant_of-self
invariant_of-self g c =
    let xs = c.self.inside.threads.list in
    let threads = c.args.self.now.threads in
    let is : xs ≡ threads = ap (λ (l : Live). l.threads) c.self.view_is in
    let depth : c.depth-depth.result ≡ length (frames_of xs c.args.tid) = c.depth-depth.ensures ∙ ap (λ (ys : List (ℕ × Stamped)). length (frames_of ys c.args.tid)) (sym is) in
    let a = vec_capacity c.self.inside.starts in
    let b = vec_capacity c.self.inside.renewed in
    subst (λ (ys : List (ℕ × Stamped)). IsKept ys (c.self.inside.frames - c.depth-depth.result) (c.self.inside.marks + c.depth-depth.result) a b) (sym c.remove.ensures.list)
    (subst (λ n. IsKept (without_thread xs c.args.tid) (c.self.inside.frames - n) (c.self.inside.marks + n) a b) (sym depth) (kept_without xs c.args.tid c.self.inside.frames c.self.inside.marks _ _ c.self.invariant))

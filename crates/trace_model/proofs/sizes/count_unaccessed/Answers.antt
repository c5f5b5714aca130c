use Rattle.std.proofs.Common.{◌≡◌, ℕ, ◌+◌, Bool, true, false, cond, arith, reverse, not, sym, ap, ◌∙◌}
use Rattle.trace_model.specs.Sizes.{accessed}
use Rattle.trace_model.proofs.Bounds.{count_range_more, count_range-le}
use Rattle.trace_model.proofs.sizes.count_unaccessed.Goals as goal
use Rattle.trace_model.proofs.sizes.count_unaccessed.Goals.{then-not-is_accessed, else-not-is_accessed}

abbrev count_of : Bool → ℕ
count_of b = cond b 1 0

pub overflow_add-unaccessed : goal.overflow_add-unaccessed
overflow_add-unaccessed c =
    omega (arith, c.loop-k.invariant, count_range-le (λ w. not (accessed (reverse c.args.inside.now) c.args.tid w)) c.from-first.result c.loop-k.k)

pub loop-k-preserved : goal.loop-k-preserved
loop-k-preserved c =
    let unaccessed_at : ℕ → Bool = λ w. not (accessed (reverse c.args.inside.now) c.args.tid w) in
    let more = count_range_more unaccessed_at c.from-first.result c.loop-k.k in
    let here : (b : Bool) → c.is_accessed.result ≡ b → cond (unaccessed_at (c.from-first.result + c.loop-k.k)) 1 0 ≡ count_of (not b) =
    λ b e. ap (λ x. count_of (not x)) (sym c.is_accessed.ensures ∙ e) in
    elim c.if-not-is_accessed.branch [
      | then-not-is_accessed w ↦ omega (arith, c.loop-k.invariant, w.unaccessed-is, more, here false w.if-not-is_accessed.true)
      | else-not-is_accessed w ↦ omega (arith, c.loop-k.invariant, w.unaccessed-is, more, here true w.if-not-is_accessed.false)
    ]

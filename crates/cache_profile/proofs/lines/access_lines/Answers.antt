use Rattle.std.proofs.Common.{◌≡◌, ◌+◌, cond, ap, sym, ◌∙◌, arith}
use Rattle.std.proofs.lemmas.List.FromFn.{length-range_with_len}
use Rattle.cache_profile.proofs.Accessed.{accessed_all, one_further}
use Rattle.cache_profile.proofs.lines.access_lines.Goals as goal
use Rattle.cache_profile.proofs.lines.access_lines.Goals.{then-access, else-access}

pub overflow_add-misses : goal.overflow_add-misses
overflow_add-misses c =
    omega (arith, c.loop-k.invariant.few, length-range_with_len c.args.first c.loop-k.k, c.loop-k-test.true, c.ranges.count.fits)

pub loop-k-preserved : goal.loop-k-preserved
loop-k-preserved c =
    elim c.if-access.branch [
      | then-access w ↦
          one_further c.args.cache.now c.loop-k.cache c.access.new.self c.args.first c.loop-k.k c.loop-k.misses c.if-access.misses c.access.result
          c.loop-k.invariant c.access.ensures.shape c.access.ensures.misses c.access.ensures.after
          (w.misses-is ∙ ap (λ b. c.loop-k.misses + cond b 1 0) (sym w.if-access.true))
      | else-access w ↦
          let none : c.loop-k.misses ≡ c.loop-k.misses + 0 = omega arith in
          one_further c.args.cache.now c.loop-k.cache c.access.new.self c.args.first c.loop-k.k c.loop-k.misses c.if-access.misses c.access.result
          c.loop-k.invariant c.access.ensures.shape c.access.ensures.misses c.access.ensures.after
          (w.misses-is ∙ none ∙ ap (λ b. c.loop-k.misses + cond b 1 0) (sym w.if-access.false))
    ]

pub returns-clause-after : goal.returns-clause-after
returns-clause-after c =
    let all : c.loop-k.k ≡ c.args.count = omega (arith, c.loop-k-test.false, c.loop-k.auto.k-end) in
    accessed_all c.args.cache.now c.loop-k.cache c.args.first c.loop-k.k c.args.count c.loop-k.misses all c.loop-k.invariant

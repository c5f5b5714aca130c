use Rattle.std.proofs.Common.{◌≡◌, ◌∙◌, sym, ap, not, true, false, ◌<◌, length, arith}
use Rattle.std.proofs.lemmas.List.Filters.{FiltersInPlace-more_set, FiltersInPlace-more_no}
use Rattle.guest_memory.specs.Holders.{is_invalidated}
use Rattle.guest_memory.proofs.reservations.retain_valid.Goals as goal
use Rattle.guest_memory.proofs.reservations.retain_valid.Goals.{then-not-goes, else-not-goes}

pub loop-place-preserved : goal.loop-place-preserved
loop-place-preserved c =
    let inside : c.loop-place.place < length c.loop-place.holders = omega arith in
    elim c.if-not-goes.branch [
      | then-not-goes w ↦
          let stays : not (is_invalidated c.args.invalidation.now c.index-holders-place.result) ≡ true = ap not (sym c.is_of-goes.ensures ∙ w.if-not-goes.true) in
          rw (w.holders-is, w.kept-is) (FiltersInPlace-more_set c.loop-place.invariant inside stays c.index-holders-place.is)
      | else-not-goes w ↦
          let goes : not (is_invalidated c.args.invalidation.now c.index-holders-place.result) ≡ false = ap not (sym c.is_of-goes.ensures ∙ w.if-not-goes.false) in
          rw (w.holders-is, w.kept-is) (FiltersInPlace-more_no c.loop-place.invariant inside goes c.index-holders-place.is)
    ]

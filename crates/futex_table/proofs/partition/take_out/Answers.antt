use Rattle.std.proofs.Common.{◌≤◌, ap, ◌∙◌, sym, subst, inl, inr, arith}
use Rattle.std.specs.Vec.{vec_capacity, vec_items}
use Rattle.guest_words.specs.declared.limits.TheConstants.{THREADS}
use Rattle.futex_table.specs.Once.{IsOnce}
use Rattle.futex_table.proofs.Partitions.{IsParted-taken, IsParted-kept}
use Rattle.futex_table.proofs.partition.take_out.Goals as goal
use Rattle.futex_table.proofs.partition.take_out.Goals.{then-len-most+then-waits_at, else-len-most, else-len-most-via-then-len-most+else-waits_at, else-len-most-via-else-len-most}

pub loop-w-preserved : goal.loop-w-preserved
loop-w-preserved c =
    let whole = c.loop-w.invariant in
    let long = c.loop-w.taken.ok.0 in
    let once : IsOnce c.deref-w-items.result.now = subst IsOnce (sym c.deref-w-items.ensures.value) c.requires.once in
    elim c.if-len-most.branch [
      | then-len-most+then-waits_at w ↦
          let same = ap vec_capacity w.spare-is in
          let grown = ap vec_capacity w.taken-is in
          IsParted-taken c.deref-w-items.result.now _ _ _ c.loop-w.w-index c.loop-w.spare.items c.loop-w.taken.items _ _ (vec_capacity c.loop-w.spare) (vec_capacity c.loop-w.taken) _ _ c.w-item.result once whole c.loop-w-test.true c.w-item.is
          (sym w.waits_at.ensures ∙ w.if-waits_at.true) (omega (arith, w.if-len-most.true, c.len.ensures, long))
          (ap vec_items w.spare-is) (ap vec_items w.taken-is ∙ (rw w.unwrap.ensures at w.push.ensures.items))
          (omega (arith, same, whole.has_room_kept)) (omega (arith, grown, whole.has_room_taken, w.push.ensures.capacity))
      | else-len-most w ↦
          let same = ap vec_capacity w.taken-is in
          let grown = ap vec_capacity w.spare-is in
          let kept_is = ap vec_items w.spare-is ∙ (rw w.unwrap-else-len-most.ensures at w.push-else-len-most.ensures.items) in
          let room_kept : THREADS ≤ vec_capacity c.if-len-most.spare = omega (arith, grown, whole.has_room_kept, w.push-else-len-most.ensures.capacity) in
          let room_taken : THREADS ≤ vec_capacity c.if-len-most.taken = omega (arith, same, whole.has_room_taken) in
          elim w.else-len-most.branch [
            | else-len-most-via-then-len-most+else-waits_at w' ↦
                IsParted-kept c.deref-w-items.result.now _ _ _ c.loop-w.w-index c.loop-w.spare.items c.loop-w.taken.items _ _ (vec_capacity c.loop-w.spare) (vec_capacity c.loop-w.taken) _ _ c.w-item.result once whole c.loop-w-test.true c.w-item.is
                (inl (sym w'.waits_at.ensures ∙ w'.if-waits_at.false)) kept_is (ap vec_items w.taken-is) room_kept room_taken
            | else-len-most-via-else-len-most w' ↦
                IsParted-kept c.deref-w-items.result.now _ _ _ c.loop-w.w-index c.loop-w.spare.items c.loop-w.taken.items _ _ (vec_capacity c.loop-w.spare) (vec_capacity c.loop-w.taken) _ _ c.w-item.result once whole c.loop-w-test.true c.w-item.is
                (inr (omega (arith, w'.if-len-most.false, c.len.ensures, long))) kept_is (ap vec_items w.taken-is) room_kept room_taken
          ]
    ]

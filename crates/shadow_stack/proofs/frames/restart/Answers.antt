use Rattle.std.proofs.Common.{◌≡◌, ◌<◌, length, map, get_or, take, refl, sym, ap, ◌∙◌, arith, add-one}
use Rattle.std.specs.Prelude.{slice_index}
use Rattle.std.proofs.lemmas.List.{get_or-map, length-map, length-set}
use Rattle.shadow_stack.specs.declared.frames.Entry.{Entry as Kept}
use Rattle.shadow_stack.specs.Frames.{Frame, changed, restarted}
use Rattle.shadow_stack.proofs.Places.{seen, changed-set, same-set, restarted_next}
use Rattle.shadow_stack.proofs.frames.restart.Goals as goal

pub loop-i-preserved : goal.loop-i-preserved
loop-i-preserved g c =
    let look : Kept g.row.S.Denot → Frame = seen (λ x. g.S.Stamp.number_of x.start) (λ x. x.sums) in
    let old : Kept g.row.S.Denot = c.index-as_slice-i.result in
    let new : Kept g.row.S.Denot = record { start = c.index-starts-i.result; sums = old.sums; call = old.call } in
    let starts = map g.S.Stamp.number_of c.args.starts.now in
    let inside : c.loop-i.i < length c.loop-i.entries.items = omega (arith, c.loop-i-test.true, c.loop-i.invariant.long) in
    let low : c.loop-i.i < length starts = omega (arith, inside, c.loop-i.invariant.long, c.requires, length-map c.args.starts.now g.S.Stamp.number_of) in
    let high : c.loop-i.i < length (map look c.args.entries.now.items) = omega (arith, inside, c.loop-i.invariant.long, length-map c.args.entries.now.items look) in
    let read : slice_index starts c.loop-i.i ≡ g.S.Stamp.number_of c.index-starts-i.result =
    get_or-map g.S.Stamp.number_of c.args.starts.now c.loop-i.i c.index-starts-i.result 0 (omega (arith, low, length-map c.args.starts.now g.S.Stamp.number_of)) ∙ ap g.S.Stamp.number_of (sym c.index-starts-i.is)
    in
    record {
      long = ap length c.set.ensures.items ∙ length-set c.loop-i.entries.items c.loop-i.i new ∙ c.loop-i.invariant.long;
      spare = c.set.ensures.kept ∙ c.loop-i.invariant.spare;
      calls =
          ap (map (λ x. x.call)) c.set.ensures.items
          ∙ same-set (λ x. x.call) c.loop-i.entries.items c.loop-i.i old new inside (c.index-as_slice-i.is ∙ ap (λ xs. get_or xs c.loop-i.i old) c.as_slice.ensures) refl
          ∙ c.loop-i.invariant.calls;
      list =
          ap (map look) c.set.ensures.items
          ∙ changed-set (λ x. g.S.Stamp.number_of x.start) (λ x. x.sums) c.loop-i.entries.items c.loop-i.i old new (λ f. record f { start = slice_index starts c.loop-i.i }) inside (c.index-as_slice-i.is ∙ ap (λ xs. get_or xs c.loop-i.i old) c.as_slice.ensures) (ap (λ n. record { start = n; sums = old.sums }) (sym read))
          ∙ ap (λ fs. changed c.loop-i.i (λ f. record f { start = slice_index starts c.loop-i.i }) fs) c.loop-i.invariant.list
          ∙ restarted_next starts (map look c.args.entries.now.items) c.loop-i.i low high
          ∙ ap (λ n. restarted (take n starts) (map look c.args.entries.now.items)) (sym (add-one c.loop-i.i));
    }

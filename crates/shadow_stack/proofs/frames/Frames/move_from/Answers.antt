use Rattle.std.proofs.Common.{◌∙◌, ap, length, subst, sym, arith}
use Rattle.std.specs.Prelude.{slice_get, IfSome}
use Rattle.shadow_stack.specs.Frames.{FitsSums, added, plus}
use Rattle.shadow_stack.proofs.Places.{length_added_if, top_apart}
use Rattle.shadow_stack.proofs.frames.Frames.move_from.Goals as goal

pub add-requires-clause-within : goal.add-requires-clause-within
add-requires-clause-within g c =
    let long = ap length c.add_if.ensures.list ∙ length_added_if c.args.back c.args.place c.args.self.now.list in
    omega (arith, long, c.requires.top)

pub add-requires-clause-fits : goal.add-requires-clause-fits
add-requires-clause-fits g c =
    subst (λ fs. IfSome (slice_get fs c.args.top) (λ f. FitsSums (plus f.sums c.args.by))) (sym c.add_if.ensures.list)
    (top_apart (g.S.Stamp.number_of c.args.stamp) c.args.top c.args.by c.args.back c.args.place c.args.self.now.list c.requires.place c.requires.above (c.requires.fits c.args.top))

pub returns-clause-moved : goal.returns-clause-moved
returns-clause-moved g c =
    record {
      top = c.args.top;
      depth = omega (arith, c.requires.top);
      moved = λ above. (c.args.place, c.requires.place, ◌∙◌ {b = added c.args.top c.args.by c.add_if.new.self.list} c.add.ensures.list (ap (λ fs. added c.args.top c.args.by fs) c.add_if.ensures.list));
      still = λ low. absurd (omega (arith, low, c.requires.above));
    }

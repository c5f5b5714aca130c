use Rattle.std.proofs.Common.{◌-◌, refl, arith}
use Rattle.shadow_stack.proofs.frames.Frames.move_to_top.Goals as goal

pub returns-else-number-clause-moved : goal.returns-else-number-clause-moved
returns-else-number-clause-moved g c =
    let top = c.depth-top.result - 1 in
    record {
      top = top;
      depth = omega (arith, c.depth-top.ensures, c.requires.some);
      moved = λ above. absurd (omega (arith, above, c.if-number.false, c.number.ensures.value, c.number-2.ensures.value, c.start_at.ensures.start));
      still = λ low. refl;
    }

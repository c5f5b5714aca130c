use Rattle.std.proofs.Common.{◌≡◌, ◌+ℤ◌, arith, rules}
use mir.Val.{SFits, to_z, of_z}
use mir.Syntax.{w64}
use Rattle.std.proofs.lemmas.Int.{ints, to_z-of_z}
use Rattle.shadow_stack.proofs.sums.Sums.plus.Goals as goal

pub returns : goal.returns
returns c =
    let p = c.args.self.plain in
    let q = c.args.by.plain in
    let a = c.args.self.bare in
    let b = c.args.by.bare in
    let fits_p : SFits w64 p = search rules in
    let fits_q : SFits w64 q = search rules in
    let fits_a : SFits w64 a = search rules in
    let fits_b : SFits w64 b = search rules in
    let fits_plain : SFits w64 (p +ℤ q) = omega (arith, ints, c.requires.0.0, c.requires.0.1) in
    let fits_bare : SFits w64 (a +ℤ b) = omega (arith, ints, c.requires.1.0, c.requires.1.1) in
    let plain_value : to_z w64 (of_z w64 (to_z w64 (of_z w64 p) +ℤ to_z w64 (of_z w64 q))) ≡ p +ℤ q = simp to_z-of_z in
    let bare_value : to_z w64 (of_z w64 (to_z w64 (of_z w64 a) +ℤ to_z w64 (of_z w64 b))) ≡ a +ℤ b = simp to_z-of_z in
    λ i. record { plain = plain_value i; bare = bare_value i }

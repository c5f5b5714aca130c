use Rattle.std.proofs.Common.{ℕ, ◌≡◌, length, refl, ap, arith}
use Rattle.profile_report.specs.LineForms.{hex_address}
use Rattle.profile_report.proofs.addresses.address.Goals as goal

long : (at : ℕ) → length (hex_address at) ≡ 8
unfolding hex_address
long at = refl

pub returns-then-word-ne8-clause-only : goal.returns-then-word-ne8-clause-only
returns-then-word-ne8-clause-only c at fits is = absurd (omega (arith, ap length is, long at))

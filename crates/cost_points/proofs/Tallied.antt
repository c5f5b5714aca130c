-- What is kept of the activations of a size: one more.
use Rattle.std.proofs.Common.{◌≡◌, ℕ, ◌<◌, ◌^◌, [], ◌∷◌, Bool, nat_eq, true, false, arith}
use Rattle.std.specs.Prelude.{Option, IfSome}
use Rattle.std.proofs.lemmas.Bool.Decides.{nat_tests}
use Rattle.trace_model.specs.declared.slow_profile.Done.{Done}
use Rattle.trace_model.specs.Profile.{HasParts}
use Rattle.cost_points.specs.declared.point.Split.{Split}
use Rattle.cost_points.specs.Points.{split_of}
use Rattle.cost_points.specs.Merging.{split_sum}
use Rattle.cost_points.specs.Search.{HasSplitRoom}
use Rattle.cost_points.specs.Private.Tallies.{is_own, tallied}

-- where the parts add up to the size, that which no one else wrote last decides
pub own_by_parts : (d : Done) → HasParts d → nat_eq d.plain d.size ≡ true → is_own d ≡ true
own_by_parts d fits same = grind (arith, nat_tests, fits.parts, fits.low, fits.high)

abbrev pub Fitting : Option Split → Type 0
Fitting split = IfSome split (λ s. (s.plain < 2 ^ 128) × (s.bare < 2 ^ 128))

-- the sums of others fit after one more
pub others_fit : (told : Bool) (size own : ℕ) (s : Split) (d : Done) → told ≡ true → d.plain < 2 ^ 64 → d.bare < 2 ^ 64 → IfSome (tallied told size own s) HasSplitRoom → Fitting (tallied told size own (split_sum s (split_of (d ∷ []))))
others_fit true size own s d is plain bare room = (omega (arith, plain, room.plain), omega (arith, bare, room.bare))
others_fit false size own s d is plain bare room = tt

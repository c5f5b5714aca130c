-- Tests that a call passed, and the places that a search found.
use Rattle.std.proofs.Common.{◌≡◌, ℕ, zero, suc, ◌≤◌, ◌<◌, ◌+◌, Bool, true, false, not, ◌&&◌, cond, Option, Some, None, refl, arith}
use Rattle.std.proofs.lemmas.Bool.{not-false}
use Rattle.guest_calls.specs.Search.{first_passing}

-- a test that failed, and those after it
pub failed : (b : Bool) (e : ℕ) (o : Option ℕ) → cond b (Some e) o ≡ None → (b ≡ false) × (o ≡ None)
failed true e o h = absurd (cc)
failed false e o h = (refl, h)

-- what is asked for and not out of reach is in reach
pub asked_reach : (asked reach : Bool) → (asked && not reach) ≡ false → asked ≡ true → reach ≡ true
asked_reach true reach h is = not-false reach h
asked_reach false reach h is = absurd (cc)

some_from : (b : Bool) (from s : ℕ) (rest : Option ℕ) → cond b (Some from) rest ≡ Some s → (rest ≡ Some s → from ≤ s) → from ≤ s
some_from true from s rest h later = let e : from ≡ s = grind (arith, h) in omega (arith, e)
some_from false from s rest h later = later h

some_below : (b : Bool) (from s end : ℕ) (rest : Option ℕ) → cond b (Some from) rest ≡ Some s → from < end → (rest ≡ Some s → s < end) → s < end
some_below true from s end rest h low later = let e : from ≡ s = grind (arith, h) in omega (arith, e, low)
some_below false from s end rest h low later = later h

-- what is found is not before the start
pub found_from : (test : ℕ → Bool) (from n s : ℕ) → first_passing test from n ≡ Some s → from ≤ s
unfolding first_passing
found_from test from zero s h = absurd (cc)
found_from test from (suc n) s h = some_from (test from) from s (first_passing test (from + 1) n) h (λ later. let next = found_from test (from + 1) n s later in omega (arith, next))

-- and before the end
pub found_below : (test : ℕ → Bool) (from n s : ℕ) → first_passing test from n ≡ Some s → s < from + n
unfolding first_passing
found_below test from zero s h = absurd (cc)
found_below test from (suc n) s h = some_below (test from) from s (from + suc n) (first_passing test (from + 1) n) h (omega arith) (λ later. let next = found_below test (from + 1) n s later in omega (arith, next))

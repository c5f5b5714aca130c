-- The first number that passes a test.
use Rattle.std.specs.Prelude.{ℕ, zero, suc, ◌+◌, Bool, Option, Some, None, if◌then◌else◌}

-- the first number of a range that passes a test
unfoldable pub first_passing : (ℕ → Bool) → ℕ → ℕ → Option ℕ
first_passing test from zero = None
first_passing test from (suc n) = if test from then Some from else first_passing test (from + 1) n

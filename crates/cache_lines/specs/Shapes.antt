-- The shapes of caches that are taken.
use Rattle.std.specs.Prelude.{ℕ, Bool, ◌&&◌, nat_le, if◌then◌else◌, Option, Some, None}
use Rattle.std.specs.Int.{is_power_of_two}
use Rattle.cache_lines.specs.declared.shape.TheConstants.{SETS, WAYS, LEAST_LINE, LINE}

-- How many sets there are, how many lines each can hold, and how many bytes a line has.
pub record Dimensions : Type 0 where
  pub sets : ℕ
  pub ways : ℕ
  pub line : ℕ

-- 1 to `SETS` sets, a power of two
abbrev pub are_sets : ℕ → Bool
are_sets sets = is_power_of_two sets && nat_le sets SETS

-- 1 to `WAYS` ways
abbrev pub are_ways : ℕ → Bool
are_ways ways = nat_le 1 ways && nat_le ways WAYS

-- the bytes of a line, a power of two
abbrev pub is_line : ℕ → Bool
is_line line = is_power_of_two line && nat_le LEAST_LINE line && nat_le line LINE

-- the shape of these numbers, where each is in its form and range
abbrev pub shape_of : (sets ways line : ℕ) → Option Dimensions
shape_of sets ways line =
    if are_sets sets && are_ways ways && is_line line then Some (record { sets = sets; ways = ways; line = line }) else None

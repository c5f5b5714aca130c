-- What a cache holds after accesses.
use Rattle.std.specs.Prelude.{◌≡◌, ℕ, ◌<◌, List, [], length, take, slice_index_or}
use Rattle.cache_lines.specs.Held.{Held}
use Rattle.cache_lines.specs.Misses.{different, of_set}
use Rattle.cache_lines.specs.Shapes.{Dimensions}

-- the last different lines of a set, as many as it has ways, or all where they are fewer
abbrev pub recent : Dimensions → ℕ → List ℕ → List ℕ
recent shape set accesses = take shape.ways (different (of_set shape.sets set accesses))

-- The cache stands for the accesses: each of its sets holds the last different lines of that set.
pub record CacheStandsFor (cache : Held) (accesses : List ℕ) : Type 0 where
  pub all : length cache.sets ≡ cache.shape.sets
  pub each : (set : ℕ) → set < cache.shape.sets → slice_index_or cache.sets set [] ≡ recent cache.shape set accesses

-- Texts that go on.
use Rattle.std.specs.Prelude.{◌≡◌, ℕ, ◌++◌, List}

-- the text begins with the old one
pub record KeepsOn (old new : List ℕ) : Type 0 where
  pub more : List ℕ
  pub whole : new ≡ old ++ more

-- The rows that new stamps are worked out in.
use Rattle.std.specs.Prelude.{◌≡◌, ℕ, List, length}
use Rattle.shadow_pages.specs.Pages.{zeros}

-- each is as long as a page, and one has zeros
pub record AreRows (own_classes write_classes renewed untouched : List ℕ) : Type 0 where
  pub own : length own_classes ≡ 1024
  pub write : length write_classes ≡ 1024
  pub result : length renewed ≡ 1024
  pub zero : untouched ≡ zeros

-- Where a profiler keeps the stamps of a word.
use Rattle.std.specs.Prelude.{◌≡◌, ℕ, Some}
use Rattle.shadow_pages.specs.Pages.{HasPlace, stamp_at}
use Rattle.stamp_renumber.specs.Threads.{pages_of}
use Rattle.shadow_core.specs.State.{State}

-- The thread made the last step, the page of its access to the word is at the place, and this is the stamp of the access.
pub record IsAccessTo (s : State) (t w place stamp : ℕ) : Type 0 where
  pub runs : s.last ≡ Some t
  pub here : HasPlace (pages_of s.live.threads t) w place
  pub own : stamp ≡ stamp_at (pages_of s.live.threads t) w

-- The pages of the word's latest write and of its mark are both at the place, and these are the stamp and the mark.
pub record IsLatestOf (s : State) (w place stamp mark : ℕ) : Type 0 where
  pub written : HasPlace s.writes w place
  pub marked : HasPlace s.marks w place
  pub latest : stamp ≡ stamp_at s.writes w
  pub kernel : mark ≡ stamp_at s.marks w

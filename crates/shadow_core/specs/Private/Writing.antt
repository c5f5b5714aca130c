-- What a write of words makes of pages.
use Rattle.std.specs.Prelude.{◌≡◌, ℕ, List}
use Rattle.shadow_pages.specs.Pages.{Page, covers}
use Rattle.shadow_core.specs.Private.StateRows.{AreStamped}

-- The words of the range have the stamp, and the others what they had. No page comes or goes.
pub record IsFilled (stamp first count : ℕ) (old new : List Page) : Type 0 where
  pub stamps : AreStamped stamp first count old new
  pub covered : (w : ℕ) → covers new w ≡ covers old w

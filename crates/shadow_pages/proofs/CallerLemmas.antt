-- For callers: what the words have once a lent page was written.
use Rattle.std.proofs.Common.{◌≡◌, ◌≢◌, ℕ, ◌/◌, ◌%◌, List, length, get_or, Some, ap, ◌∙◌}
use Rattle.shadow_pages.specs.Pages.{Page, changed, covers, page_of, refilled, stamp_at}
use Rattle.shadow_pages.proofs.Changes.{covers_changed, refilled_same, stamp_changed, stamp_unchanged}
use Rattle.shadow_pages.proofs.Lookups.{stands}

-- the words of a written page have what was written
pub written_word : (pages : List Page) (n : ℕ) (new : List ℕ) (w : ℕ) (p : Page) → page_of pages n ≡ Some p → length new ≡ length p.stamps → w / 1024 ≡ n → stamp_at (changed pages n (λ old. refilled old new)) w ≡ get_or new (w % 1024) 0
written_word pages n new w p found long is =
    stamp_changed pages n (λ old. refilled old new) w p (ap (λ m. page_of pages m) is ∙ found) (stands pages n p found).number
    ∙ ap (λ xs. get_or xs (w % 1024) 0) (refilled_same p.stamps new long)

-- and the words of other pages what they had
pub unwritten_word : (pages : List Page) (n : ℕ) (new : List ℕ) (w : ℕ) → w / 1024 ≢ n → stamp_at (changed pages n (λ old. refilled old new)) w ≡ stamp_at pages w
unwritten_word pages n new w ne = stamp_unchanged pages n (λ old. refilled old new) w ne

pub written_cover : (pages : List Page) (n : ℕ) (new : List ℕ) (w : ℕ) → covers (changed pages n (λ old. refilled old new)) w ≡ covers pages w
written_cover pages n new w = covers_changed pages n (λ old. refilled old new) w

-- The stamps of a range set, page by page.
use Rattle.std.proofs.Common.{◌≡◌, ◌≢◌, ◌==◌, ◌&&◌, nat_le, nat_lt, ℕ, ◌+◌, ◌*◌, ◌/◌, ◌%◌, ◌<◌, ◌≤◌, true, cond, List, length, get_or, set, Some, ap, ap₂, sym, ◌∙◌, arith, inl, inr}
use Rattle.std.specs.Prelude.{slice_index}
use Rattle.std.proofs.lemmas.Bool.{cases_eq}
use Rattle.std.proofs.lemmas.Bool.Decides.{nat_tests}
use Rattle.std.proofs.lemmas.List.{get_or-set_other, get_or-set_same}
use Rattle.shadow_pages.specs.Pages.{Page, changed, in_range, page_of, refilled, stamp_at, stamp_in}
use Rattle.shadow_pages.proofs.CallerLemmas.{unwritten_word, written_word}
use Rattle.shadow_pages.proofs.Lookups.{other_test, same_test}

-- ---- a row
here_now : (from at : ℕ) → from ≤ at → (nat_le from at && nat_lt at (at + 1)) ≡ true
here_now from at h = grind (arith, nat_tests)

as_before : (from at k : ℕ) → k ≢ at → (nat_le from k && nat_lt k at) ≡ (nat_le from k && nat_lt k (at + 1))
as_before from at k ne = grind (arith, nat_tests)

-- one place more
pub row_more : (xs old : List ℕ) (from at s : ℕ) → at < length xs → from ≤ at → ((k : ℕ) → slice_index xs k ≡ cond (nat_le from k && nat_lt k at) s (slice_index old k))
    → (k : ℕ) → slice_index (set xs at s) k ≡ cond (nat_le from k && nat_lt k (at + 1)) s (slice_index old k)
row_more xs old from at s lt low before k = elim (cases_eq k at) [
  | inl is ↦
      ap (λ m. get_or (set xs at s) m 0) is
      ∙ get_or-set_same xs at s 0 lt
      ∙ sym (ap (λ m. cond (nat_le from m && nat_lt m (at + 1)) s (slice_index old m)) is ∙ ap (λ b. cond b s (slice_index old at)) (here_now from at low))
  | inr differs ↦
      get_or-set_other xs at k s 0 differs
      ∙ before k
      ∙ ap (λ b. cond b s (slice_index old k)) (as_before from at k differs)
]

-- ---- a page
-- the part of a range in a page, by the places in the row
pub record IsPart (n first count from to : ℕ) : Type 0 where
  pub low : first ≤ 1024 * n + from
  pub cut : 0 < from → 1024 * n + from ≡ first
  pub high : 1024 * n + to ≤ first + count
  pub short : to < 1024 → 1024 * n + to ≡ first + count
  pub size : to ≤ 1024

same_low : (base k w first from : ℕ) → base + k ≡ w → first ≤ base + from → (0 < from → base + from ≡ first) → nat_le from k ≡ nat_le first w
same_low base k w first from whole low cut = grind (arith, nat_tests)

same_high : (base k w end to : ℕ) → base + k ≡ w → k < 1024 → base + to ≤ end → (to < 1024 → base + to ≡ end) → to ≤ 1024 → nat_lt k to ≡ nat_lt w end
same_high base k w end to whole inside high short size = grind (arith, nat_tests)

same_part : (n first count from to w : ℕ) → IsPart n first count from to → w / 1024 ≡ n → (nat_le from (w % 1024) && nat_lt (w % 1024) to) ≡ in_range first count w
same_part n first count from to w part is =
    let whole : 1024 * n + w % 1024 ≡ w = omega (arith, is) in
    let inside : w % 1024 < 1024 = omega arith in
    ap₂ (λ a b. a && b) (same_low (1024 * n) (w % 1024) w first from whole part.low part.cut) (same_high (1024 * n) (w % 1024) w (first + count) to whole inside part.high part.short part.size)

pub page_filled : (pages : List Page) (n : ℕ) (old new : List ℕ) (from to first count s : ℕ) → page_of pages n ≡ Some (record { number = n; stamps = old }) → length new ≡ length old
    → ((k : ℕ) → slice_index new k ≡ cond (nat_le from k && nat_lt k to) s (slice_index old k))
    → IsPart n first count from to
    → (w : ℕ) → stamp_at (changed pages n (λ xs. refilled xs new)) w ≡ cond ((w / 1024 == n) && in_range first count w) s (stamp_at pages w)
page_filled pages n old new from to first count s found long row part w = elim (cases_eq (w / 1024) n) [
  | inl is ↦
      written_word pages n new w (record { number = n; stamps = old }) found long is
      ∙ row (w % 1024)
      ∙ ap (λ b. cond b s (slice_index old (w % 1024))) (same_part n first count from to w part is ∙ ap (λ b. b && in_range first count w) (sym (same_test (w / 1024) n is)))
      ∙ ap (λ o. cond ((w / 1024 == n) && in_range first count w) s (stamp_in o (w % 1024))) (sym (ap (λ m. page_of pages m) is ∙ found))
  | inr differs ↦
      unwritten_word pages n new w differs
      ∙ sym (ap (λ b. cond (b && in_range first count w) s (stamp_at pages w)) (other_test (w / 1024) n differs))
]

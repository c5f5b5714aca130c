-- Words that have write stamps have marks.
use Rattle.std.proofs.Common.{◌≡◌, ℕ, ◌/◌, Bool, true, false, cond, List, [], ◌∷◌, ◌++◌, Some, refl, subst, arith, All}
use Rattle.std.specs.Prelude.{◌==◌, is_some}
use Rattle.std.proofs.lemmas.Bool.Decides.{nat_tests}
use Rattle.std.proofs.lemmas.List.Elements.{All-head, All-tail}
use Rattle.shadow_pages.specs.Pages.{AreCovered, HasWord, IsReserved, Page, covers, page_of}

-- a page that is not among the first is among the others
behind : (xs ys : List Page) (n : ℕ) → is_some (page_of xs n) ≡ false → is_some (page_of (xs ++ ys) n) ≡ true → is_some (page_of ys n) ≡ true
behind [] ys n none here = here
behind (p ∷ xs) ys n none here = by (p.number == n) none here (behind xs ys n)
  where
    by : (b : Bool) → is_some (cond b (Some p) (page_of xs n)) ≡ false → is_some (cond b (Some p) (page_of (xs ++ ys) n)) ≡ true →
        (is_some (page_of xs n) ≡ false → is_some (page_of (xs ++ ys) n) ≡ true → is_some (page_of ys n) ≡ true) → is_some (page_of ys n) ≡ true
    by true none here later = absurd (cc)
    by false none here later = later none here

-- a page with a word of the range
meets : (first count : ℕ) (pages : List Page) (n : ℕ) → All (λ p. HasWord first count p.number) pages → is_some (page_of pages n) ≡ true → HasWord first count n
meets first count [] n all here = absurd (cc)
meets first count (p ∷ pages) n all here = by (p.number == n) refl here (meets first count pages n (All-tail (λ p. HasWord first count p.number) p pages all))
  where
    by : (b : Bool) → (p.number == n) ≡ b → is_some (cond b (Some p) (page_of pages n)) ≡ true → (is_some (page_of pages n) ≡ true → HasWord first count n) → HasWord first count n
    by true is here later =
        let same : p.number ≡ n = grind (arith, nat_tests, is) in
        subst (λ k. HasWord first count k) same (All-head (λ p. HasWord first count p.number) p pages all)
    by false is here later = later here

-- words that come to the write stamps have marks where the range has
pub marked_on : (old new marks : List Page) (first count : ℕ) → IsReserved old new first count → ((w : ℕ) → covers old w ≡ true → covers marks w ≡ true) →
    AreCovered marks first count → (w : ℕ) → covers new w ≡ true → covers marks w ≡ true
marked_on old new marks first count is marked all w here = by (is_some (page_of old (w / 1024))) refl
  where
    by : (b : Bool) → is_some (page_of old (w / 1024)) ≡ b → is_some (page_of marks (w / 1024)) ≡ true
    by true was = marked w was
    by false was =
        let there : is_some (page_of (old ++ is.fresh) (w / 1024)) ≡ true = subst (λ (ps : List Page). is_some (page_of ps (w / 1024)) ≡ true) is.front here in
        let word = meets first count is.fresh (w / 1024) is.meets (behind old is.fresh (w / 1024) was there) in
        subst (λ k. is_some (page_of marks k) ≡ true) word.page (all word.word word.low word.high)

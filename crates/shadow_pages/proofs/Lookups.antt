-- The page of a number, by the place that the directory says.
use Rattle.std.proofs.Common.{◌≡◌, ◌≢◌, ◌==◌, ℕ, zero, suc, ◌<◌, Bool, true, false, cond, List, [], ◌∷◌, length, Option, Some, None, refl, ap, sym, ◌∙◌, arith}
use Rattle.std.specs.Option.{is_some}
use Rattle.std.proofs.lemmas.Bool.Decides.{nat_tests}
use Rattle.std.proofs.lemmas.Option.{none-some, same_Some}
use Rattle.shadow_pages.specs.Directory.{entry}
use Rattle.shadow_pages.specs.Pages.{AreDistinct, IsIndexed, Page, page_at, page_of}

pub same_test : (n m : ℕ) → n ≡ m → (n == m) ≡ true
same_test n m is = grind (arith, nat_tests, is)

pub other_test : (n m : ℕ) → n ≢ m → (n == m) ≡ false
other_test n m ne = grind (arith, nat_tests, ne)

pub test_same : (n m : ℕ) → (n == m) ≡ true → n ≡ m
test_same n m is = grind (arith, nat_tests)

-- the first page that has the number
pub page_of_place : (pages : List Page) (n i : ℕ) → i < length pages → (page_at pages i).number ≡ n → ((j : ℕ) → j < i → (page_at pages j).number ≢ n) → page_of pages n ≡ Some (page_at pages i)
page_of_place [] n i within is before = absurd (omega (arith, within))
page_of_place (p ∷ pages) n zero within is before = ap (λ b. cond b (Some p) (page_of pages n)) (same_test p.number n is)
page_of_place (p ∷ pages) n (suc i) within is before =
    ap (λ b. cond b (Some p) (page_of pages n)) (other_test p.number n (before 0 (omega arith)))
    ∙ page_of_place pages n i (omega (arith, within)) is (λ j lt. before (suc j) (omega (arith, lt)))

-- the only one
pub only_page : (pages : List Page) (n i : ℕ) → i < length pages → (page_at pages i).number ≡ n → ((j : ℕ) → j < length pages → (page_at pages j).number ≡ n → j ≡ i) → page_of pages n ≡ Some (page_at pages i)
only_page pages n i within is one = page_of_place pages n i within is (λ j lt e. let same = one j (omega (arith, lt, within)) e in omega (arith, lt, same))

-- there is none
pub page_of_none : (pages : List Page) (n : ℕ) → ((i : ℕ) → i < length pages → (page_at pages i).number ≢ n) → page_of pages n ≡ None
page_of_none [] n none = refl
page_of_none (p ∷ pages) n none =
    ap (λ b. cond b (Some p) (page_of pages n)) (other_test p.number n (none 0 (omega arith)))
    ∙ page_of_none pages n (λ j lt. none (suc j) (omega (arith, lt)))

-- The page of a number stands at a place.
pub record Stands (pages : List Page) (n : ℕ) (p : Page) : Type 0 where
  pub place : ℕ
  pub within : place < length pages
  pub is : page_at pages place ≡ p
  pub number : p.number ≡ n

pub stands : (pages : List Page) (n : ℕ) (p : Page) → page_of pages n ≡ Some p → Stands pages n p
stands [] n p found = absurd (none-some p found)
stands (q ∷ pages) n p found = by (q.number == n) refl found (λ later. stands pages n p later)
  where
    by : (b : Bool) → (q.number == n) ≡ b → cond b (Some q) (page_of pages n) ≡ Some p → (page_of pages n ≡ Some p → Stands pages n p) → Stands (q ∷ pages) n p
    by true is here later =
        let same : q ≡ p = same_Some q p here in
        record { place = 0; within = omega arith; is = same; number = ap (λ x. x.number) (sym same) ∙ test_same q.number n is }
    by false is here later = let l = later here in record { place = suc l.place; within = let w = l.within in omega (arith, w); is = l.is; number = l.number }

pub place_said : (o : Option ℕ) → is_some o ≡ true → (i : ℕ) × (o ≡ Some i)
place_said None bad = absurd (cc)
place_said (Some i) good = (i, refl)

module _ (d : List (List (Option ℕ))) (pages : List Page) (kept : IsIndexed d pages (length pages)) where
  -- two places of one number are one
  pub same_place : (i j : ℕ) → i < length pages → j < length pages → (page_at pages i).number ≡ (page_at pages j).number → i ≡ j
  same_place i j low high e = same_Some i j (sym (kept.said i low) ∙ ap (λ n. entry d n) e ∙ kept.said j high)

  pub distinct : AreDistinct pages
  distinct i j lt within e = let same = same_place i j (omega (arith, lt, within)) within e in omega (arith, lt, same)

  -- where the directory says a place, it is that of the page
  pub found : (n i : ℕ) → entry d n ≡ Some i → page_of pages n ≡ Some (page_at pages i)
  found n i says =
      let held = kept.held n i says in
      page_of_place pages n i held.0 held.1 (λ j lt e. let same = same_place j i (omega (arith, lt, held.0)) held.0 (e ∙ sym held.1) in omega (arith, lt, same))

  pub not_found : (n : ℕ) → entry d n ≡ None → page_of pages n ≡ None
  not_found n says = page_of_none pages n (λ i lt e. none-some i (sym says ∙ ap (λ m. entry d m) (sym e) ∙ kept.said i lt))

  pub same_cover : (n : ℕ) → is_some (entry d n) ≡ is_some (page_of pages n)
  same_cover n = by (entry d n) refl
    where
      by : (o : Option ℕ) → entry d n ≡ o → is_some o ≡ is_some (page_of pages n)
      by None says = sym (ap is_some (not_found n says))
      by (Some i) says = sym (ap is_some (found n i says))

  pub nowhere : (n : ℕ) → is_some (entry d n) ≡ false → page_of pages n ≡ None
  nowhere n says = by (entry d n) refl says
    where
      by : (o : Option ℕ) → entry d n ≡ o → is_some o ≡ false → page_of pages n ≡ None
      by None is none = not_found n is
      by (Some i) is bad = absurd (cc)

  pub place_of : (n : ℕ) → is_some (page_of pages n) ≡ true → (i : ℕ) × (entry d n ≡ Some i)
  place_of n has = place_said (entry d n) (same_cover n ∙ has)

-- How many pages segments touch, one segment after another by rising place.
use Rattle.std.proofs.Common.{◌≡◌, ℕ, zero, suc, ◌+◌, ◌-◌, ◌/◌, ◌<◌, ◌≤◌, max, min, Bool, true, false, cond, leb, ltb, ◌&&◌, ◌||◌, List, [], ◌∷◌, ◌++◌, refl, sym, ap, ap₂, ◌∙◌, inl, inr, arith}
use Rattle.std.specs.List.{count_by, range_with_len, sum_by}
use Rattle.std.proofs.lemmas.Bool.{cases_Bool, cases_lt, and_from, and_parts, le-leb, leb-true, or_cases, or_left, or_right}
use Rattle.std.proofs.lemmas.Bool.Decides.{nat_tests}
use Rattle.std.proofs.lemmas.List.Folds.{list_any-append}
use Rattle.std.proofs.lemmas.List.Sums.{sum_by-cons}
use Rattle.elf_image.specs.Image.{Segment, is_touched, page_count, touches}
use Rattle.elf_image.specs.Private.Layout.{AreCounted}

-- the numbers of a range that are from a up to b
pub count-between : (a b start n : ℕ) → count_by (λ p. leb a p && ltb p b) (range_with_len start n) ≡ min b (start + n) - max a start
count-between a b start zero = omega arith
count-between a b start (suc n) =
    sum_by-cons (λ p. cond (leb a p && ltb p b) 1 0) start (range_with_len (start + 1) n)
    ∙ (ap (λ k. cond (leb a start && ltb start b) 1 0 + k) (count-between a b (start + 1) n) ∙ grind (arith, nat_tests))

-- a sum of two sums
pub sum-of_two : {X : Type 0} (f g h : X → ℕ) (xs : List X) → ((x : X) → f x ≡ g x + h x) → sum_by f xs ≡ sum_by g xs + sum_by h xs
sum-of_two f g h [] split = refl
sum-of_two f g h (x ∷ xs) split =
    let rest = sum-of_two f g h xs split in
    omega (arith, split x, rest, sum_by-cons f x xs, sum_by-cons g x xs, sum_by-cons h x xs)

-- the count over a range whose length is a variable, which nothing computes
pub pages_counted : (segments : List Segment) (n : ℕ) → n ≡ 1048576 → page_count segments ≡ count_by (is_touched segments) (range_with_len 0 n)
unfolding page_count
pages_counted segments n whole = ap (λ m. count_by (is_touched segments) (range_with_len 0 m)) (sym whole)

-- no segment touches no page
count-no_segment : (pages : List ℕ) → count_by (is_touched []) pages ≡ 0
count-no_segment [] = refl
count-no_segment (p ∷ ps) = let rest = count-no_segment ps in omega (arith, rest, sum_by-cons (λ x. cond (is_touched [] x) 1 0) p ps)

pub counted_none : (low : ℕ) → AreCounted [] low 0 0
counted_none low = record {
  count = no_count 1048576 refl;
  below = λ page h. cc;
  filled = λ page above below. absurd (omega arith);
}
  where
    no_count : (n : ℕ) → n ≡ 1048576 → 0 ≡ page_count []
    no_count n whole = sym (pages_counted [] n whole ∙ count-no_segment (range_with_len 0 n))

-- a page that was touched before, and one that was not
seen : (p next first last : ℕ) (t : Bool) → p < next → cond (true || t) 1 0 ≡ 1 + cond (leb (max next first) p && ltb p (last + 1)) 1 0
seen p next first last t below = grind (arith, nat_tests)

unseen : (p next first last : ℕ) → (first ≤ p → next ≤ p) → cond (false || ((leb first p && leb p last) || false)) 1 0 ≡ 0 + cond (leb (max next first) p && ltb p (last + 1)) 1 0
unseen p next first last above = elim (cases_lt p first) as (λ _. cond (false || ((leb first p && leb p last) || false)) 1 0 ≡ 0 + cond (leb (max next first) p && ltb p (last + 1)) 1 0) [
  | inl under ↦ grind (arith, nat_tests)
  | inr over ↦ let past : next ≤ p = above over in grind (arith, nat_tests)
]

-- one more segment, whose first page is not below that of the one before
module _ (segments : List Segment) (s : Segment) (low next pages : ℕ) (before : AreCounted segments low next pages)
    (some : 1 ≤ s.size) (high : s.place + s.size ≤ 0x40000000) (rises : low ≤ s.place / 4096) where
  joined : (page : ℕ) → is_touched (segments ++ s ∷ []) page ≡ (is_touched segments page || (touches s page || false))
  joined page = list_any-append (λ t. touches t page) segments (s ∷ [])

  counts_once : (page : ℕ) → cond (is_touched (segments ++ s ∷ []) page) 1 0
      ≡ cond (is_touched segments page) 1 0 + cond (leb (max next (s.place / 4096)) page && ltb page ((s.place + s.size - 1) / 4096 + 1)) 1 0
  counts_once page = elim (cases_Bool (is_touched segments page)) as (λ _. cond (is_touched (segments ++ s ∷ []) page) 1 0
      ≡ cond (is_touched segments page) 1 0 + cond (leb (max next (s.place / 4096)) page && ltb page ((s.place + s.size - 1) / 4096 + 1)) 1 0) [
        | inl met ↦ rw (joined page, met) (seen page next (s.place / 4096) ((s.place + s.size - 1) / 4096) (touches s page || false) (before.below page met))
        | inr unmet ↦ rw (joined page, unmet) (unseen page next (s.place / 4096) ((s.place + s.size - 1) / 4096) (λ over. elim (cases_lt page next) as (λ _. next ≤ page) [
          | inl under ↦ absurd (cc (unmet, before.filled page (omega arith) under))
          | inr past ↦ past
        ]))
      ]

  counts_more : (n : ℕ) → n ≡ 1048576 → page_count (segments ++ s ∷ [])
      ≡ page_count segments + ((s.place + s.size - 1) / 4096 + 1 - max next (s.place / 4096))
  counts_more n whole =
      let split = sum-of_two (λ p. cond (is_touched (segments ++ s ∷ []) p) 1 0) (λ p. cond (is_touched segments p) 1 0)
      (λ p. cond (leb (max next (s.place / 4096)) p && ltb p ((s.place + s.size - 1) / 4096 + 1)) 1 0) (range_with_len 0 n) counts_once in
      let added : count_by (λ p. leb (max next (s.place / 4096)) p && ltb p ((s.place + s.size - 1) / 4096 + 1)) (range_with_len 0 n)
      ≡ (s.place + s.size - 1) / 4096 + 1 - max next (s.place / 4096) =
      count-between (max next (s.place / 4096)) ((s.place + s.size - 1) / 4096 + 1) 0 n ∙ within n whole in
      pages_counted (segments ++ s ∷ []) n whole ∙ (split ∙ ap₂ (λ old more. old + more) (sym (pages_counted segments n whole)) added)
    where
      within : (n : ℕ) → n ≡ 1048576 → min ((s.place + s.size - 1) / 4096 + 1) (0 + n) - max (max next (s.place / 4096)) 0
          ≡ (s.place + s.size - 1) / 4096 + 1 - max next (s.place / 4096)
      within n whole = omega arith

  pub counted_more : AreCounted (segments ++ s ∷ []) (s.place / 4096) (max next ((s.place + s.size - 1) / 4096 + 1))
      (pages + ((s.place + s.size - 1) / 4096 + 1 - max next (s.place / 4096)))
  counted_more = record {
    count = ap (λ k. k + ((s.place + s.size - 1) / 4096 + 1 - max next (s.place / 4096))) before.count ∙ sym (counts_more 1048576 refl);
    below = λ page touched. elim (or_cases (is_touched segments page) (touches s page || false) (sym (joined page) ∙ touched)) as (λ _. page < max next ((s.place + s.size - 1) / 4096 + 1)) [
      | inl old ↦ let under : page < next = before.below page old in omega arith
      | inr new ↦ elim (or_cases (touches s page) false new) as (λ _. page < max next ((s.place + s.size - 1) / 4096 + 1)) [
        | inl it ↦ let last : page ≤ (s.place + s.size - 1) / 4096 = leb-true _ _ (and_parts (leb (s.place / 4096) page) (leb page ((s.place + s.size - 1) / 4096)) it).1 in omega arith
        | inr other ↦ cc
      ]
    ];
    filled = λ page above under. joined page ∙ (elim (cases_lt page next) as (λ _. (is_touched segments page || (touches s page || false)) ≡ true) [
      | inl old ↦ or_left _ _ (before.filled page (omega arith) old)
      | inr past ↦ or_right _ _ (or_left _ _ (and_from _ _ (le-leb _ _ above) (le-leb _ _ (omega arith))))
    ]);
  }

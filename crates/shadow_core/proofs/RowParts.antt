-- Rows of words in one page, and what is written to a part of a page.
use Rattle.std.proofs.Common.{◌≡◌, ◌≢◌, ℕ, zero, suc, ◌+◌, ◌*◌, ◌/◌, ◌%◌, ◌<◌, ◌≤◌, Bool, true, false, cond, ◌&&◌, List, [], ◌∷◌, ◌++◌, length, map, take, drop, get_or, replicate, Option, Some, None, refl, sym, ap, ◌∙◌, arith, inl, inr}
use Rattle.std.specs.Prelude.{is_some, nat_le, nat_lt}
use Rattle.std.specs.List.{range_with_len}
use Rattle.std.specs.Simd.Lanes.{chunk}
use Rattle.std.proofs.lemmas.Bool.{cases_eq, cases_lt}
use Rattle.std.proofs.lemmas.Bool.Decides.{nat_tests}
use Rattle.std.proofs.lemmas.List.{ext_get_or, get_or-drop, get_or-replicate, get_or-take, length-drop, length-replicate, length-take-le}
use Rattle.std.proofs.lemmas.List.FromFn.{get_or-map-range_with_len, length-map-range_with_len}
use borrow.Rule.Slice.PartMut.{put_mid, put_same}
use Rattle.shadow_pages.specs.Pages.{Page, changed, covers, in_range, page_of, refilled, stamp_at, stamp_in, zeros}
use Rattle.shadow_pages.proofs.CallerLemmas.{unwritten_word, written_word}

-- ---- rows
-- a list that has the values of a function
pub row_is : (f : ℕ → ℕ) (xs : List ℕ) (first n : ℕ) → length xs ≡ n → ((k : ℕ) → k < n → get_or xs k 0 ≡ f (first + k)) → xs ≡ map f (range_with_len first n)
row_is f xs first n long each =
    ext_get_or 0 xs (map f (range_with_len first n)) (long ∙ sym (length-map-range_with_len f first n))
    (λ k lt. let within : k < n = omega (arith, lt, long) in each k within ∙ sym (get_or-map-range_with_len f first n k (first + k) 0 within refl))

-- the words of a part of a page
module _ (first k n : ℕ) (few : first % 1024 + n ≤ 1024) (lt : k < n) where
  same_page : (first + k) / 1024 ≡ first / 1024
  same_page = omega (arith, few, lt)

  same_place : (first + k) % 1024 ≡ first % 1024 + k
  same_place = omega (arith, few, lt)

pub part_words : (pages : List Page) (first n : ℕ) (stamps : List ℕ) → page_of pages (first / 1024) ≡ Some (record { number = first / 1024; stamps = stamps }) → length stamps ≡ 1024 → first % 1024 + n ≤ 1024 →
    chunk (first % 1024) n stamps ≡ map (stamp_at pages) (range_with_len first n)
part_words pages first n stamps found long few =
    let a = first % 1024 in
    let rest : n ≤ length (drop a stamps) = omega (arith, length-drop a stamps, long, few) in
    row_is (stamp_at pages) (take n (drop a stamps)) first n (length-take-le n (drop a stamps) rest) (λ k lt.
    get_or-take n (drop a stamps) k 0 lt
    ∙ get_or-drop a stamps k 0
    ∙ ap (λ m. get_or stamps m 0) (sym (same_place first k n few lt))
    ∙ ap (λ o. stamp_in o ((first + k) % 1024)) (sym (ap (λ m. page_of pages m) (same_page first k n few lt) ∙ found)))

pub none_words : (pages : List Page) (first n : ℕ) → covers pages first ≡ false → first % 1024 + n ≤ 1024 → take n zeros ≡ map (stamp_at pages) (range_with_len first n)
unfolding zeros
none_words pages first n none few =
    let long : length (replicate {A = ℕ} 1024 0) ≡ 1024 = length-replicate {A = ℕ} 1024 0 in
    let rest : n ≤ length (replicate {A = ℕ} 1024 0) = omega (arith, long, few) in
    row_is (stamp_at pages) (take n (replicate {A = ℕ} 1024 0)) first n (length-take-le n (replicate {A = ℕ} 1024 0) rest) (λ k lt.
    get_or-take n (replicate {A = ℕ} 1024 0) k 0 lt
    ∙ get_or-replicate {A = ℕ} 1024 k 0 0 (omega (arith, lt, few))
    ∙ by ((first + k) % 1024) (page_of pages ((first + k) / 1024)) (ap (λ m. is_some (page_of pages m)) (same_page first k n few lt) ∙ none))
  where
    by : (i : ℕ) (o : Option Page) → is_some o ≡ false → 0 ≡ stamp_in o i
    by i None none = refl
    by i (Some p) none = absurd (cc)

-- ---- a part of a row is written
lt_none : (i : ℕ) → nat_lt i 0 ≡ false
lt_none i = grind (arith, nat_tests)

lt_first : (n : ℕ) → nat_lt 0 (suc n) ≡ true
lt_first n = grind (arith, nat_tests)

lt_next : (i n : ℕ) → nat_lt (suc i) (suc n) ≡ nat_lt i n
lt_next i n = grind (arith, nat_tests)

in_front : (i n : ℕ) → (nat_le 0 i && nat_lt i (0 + n)) ≡ nat_lt i n
in_front i n = grind (arith, nat_tests)

not_first : (a n : ℕ) → (nat_le (suc a) 0 && nat_lt 0 (suc a + n)) ≡ false
not_first a n = grind (arith, nat_tests)

in_next : (a n i : ℕ) → (nat_le (suc a) (suc i) && nat_lt (suc i) (suc a + n)) ≡ (nat_le a i && nat_lt i (a + n))
in_next a n i = grind (arith, nat_tests)

module _ {X : Type 0} (f : X → ℕ) (s : X) where
  front_written : (n : ℕ) (u : List X) (i : ℕ) → n ≤ length u → get_or (map f (replicate n s ++ drop n u)) i 0 ≡ cond (nat_lt i n) (f s) (get_or (map f u) i 0)
  front_written zero u i le = sym (ap (λ b. cond b (f s) (get_or (map f u) i 0)) (lt_none i))
  front_written (suc n) [] i le = absurd (omega (arith, le))
  front_written (suc n) (x ∷ u) zero le = sym (ap (λ b. cond b (f s) (f x)) (lt_first n))
  front_written (suc n) (x ∷ u) (suc i) le = front_written n u i (omega (arith, le)) ∙ sym (ap (λ b. cond b (f s) (get_or (map f u) i 0)) (lt_next i n))

  part_written : (a n : ℕ) (u : List X) (i : ℕ) → a + n ≤ length u → get_or (map f (put_mid a n u (replicate n s))) i 0 ≡ cond (nat_le a i && nat_lt i (a + n)) (f s) (get_or (map f u) i 0)
  part_written zero n u i le = front_written n u i (omega (arith, le)) ∙ sym (ap (λ b. cond b (f s) (get_or (map f u) i 0)) (in_front i n))
  part_written (suc a) n [] i le = absurd (omega (arith, le))
  part_written (suc a) n (x ∷ u) zero le = sym (ap (λ b. cond b (f s) (f x)) (not_first a n))
  part_written (suc a) n (x ∷ u) (suc i) le = part_written a n u i (omega (arith, le)) ∙ sym (ap (λ b. cond b (f s) (get_or (map f u) i 0)) (in_next a n i))

  -- or it stays as it is
  pub part_read : (a n k : ℕ) (u new : List X) (b : Bool) (i : ℕ) → k ≡ n → a + n ≤ length u → new ≡ cond b (replicate (length (take k (drop a u))) s) (take k (drop a u)) →
      get_or (map f (put_mid a k u new)) i 0 ≡ cond (b && (nat_le a i && nat_lt i (a + n))) (f s) (get_or (map f u) i 0)
  part_read a n k u new true i is le written =
      let rest : k ≤ length (drop a u) = omega (arith, length-drop a u, le, is) in
      let long : length (take k (drop a u)) ≡ k = length-take-le k (drop a u) rest in
      ap (λ (ys : List X). get_or (map f (put_mid a k u ys)) i 0) (written ∙ ap (λ m. replicate m s) long)
      ∙ ap (λ m. get_or (map f (put_mid a m u (replicate m s))) i 0) is
      ∙ part_written a n u i le
  part_read a n k u new false i is le written =
      ap (λ (ys : List X). get_or (map f (put_mid a k u ys)) i 0) written ∙ ap (λ (xs : List X). get_or (map f xs) i 0) (put_same a k u)

-- ---- a part of a page is written
in_page : (q a r n : ℕ) → (nat_le a r && nat_lt r (a + n)) ≡ in_range (1024 * q + a) n (1024 * q + r)
in_page q a r n = grind (arith, nat_tests)

in_this_page : (first n w : ℕ) → w / 1024 ≡ first / 1024 → (nat_le (first % 1024) (w % 1024) && nat_lt (w % 1024) (first % 1024 + n)) ≡ in_range first n w
in_this_page first n w is =
    let from : 1024 * (first / 1024) + first % 1024 ≡ first = omega arith in
    let at : 1024 * (first / 1024) + w % 1024 ≡ w = omega (arith, is) in
    in_page (first / 1024) (first % 1024) (w % 1024) n ∙ (λ i. in_range (from i) n (at i))

apart : (first n w : ℕ) → (first ≤ w → first + n ≤ w) → in_range first n w ≡ false
apart first n w h = grind (arith, nat_tests)

in_other_page : (first n w : ℕ) → first % 1024 + n ≤ 1024 → w / 1024 ≢ first / 1024 → in_range first n w ≡ false
in_other_page first n w few differs = apart first n w (λ up. elim (cases_lt w (first + n)) [
  | inl under ↦ absurd (differs (omega (arith, few, up, under)))
  | inr over ↦ over
])

and_none : (b : Bool) → (b && false) ≡ false
and_none true = refl
and_none false = refl

pub page_read : (pages : List Page) (first n : ℕ) (old new : List ℕ) (b : Bool) (s : ℕ) → page_of pages (first / 1024) ≡ Some (record { number = first / 1024; stamps = old }) → length new ≡ length old → first % 1024 + n ≤ 1024 →
    ((k : ℕ) → get_or new k 0 ≡ cond (b && (nat_le (first % 1024) k && nat_lt k (first % 1024 + n))) s (get_or old k 0)) →
    (w : ℕ) → stamp_at (changed pages (first / 1024) (λ xs. refilled xs new)) w ≡ cond (b && in_range first n w) s (stamp_at pages w)
page_read pages first n old new b s found long few row w = elim (cases_eq (w / 1024) (first / 1024)) [
  | inl is ↦
      written_word pages (first / 1024) new w (record { number = first / 1024; stamps = old }) found long is
      ∙ row (w % 1024)
      ∙ ap (λ c. cond (b && c) s (get_or old (w % 1024) 0)) (in_this_page first n w is)
      ∙ ap (λ o. cond (b && in_range first n w) s (stamp_in o (w % 1024))) (sym (ap (λ m. page_of pages m) is ∙ found))
  | inr differs ↦
      unwritten_word pages (first / 1024) new w differs
      ∙ sym (ap (λ c. cond c s (stamp_at pages w)) (ap (λ c. b && c) (in_other_page first n w few differs) ∙ and_none b))
]

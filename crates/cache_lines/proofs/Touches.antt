-- The places of one set, where a line is written in front of them.
use Rattle.std.proofs.Common.{◌≡◌, ℕ, zero, suc, ◌+◌, ◌-◌, ◌<◌, ◌≤◌, Bool, true, false, not, ◌||◌, cond, nat_eq, nat_lt, List, [], ◌∷◌, ◌++◌, length, take, drop, get_or, min, refl, sym, ap, ap₂, ◌∙◌, arith, inl, inr}
use Rattle.std.specs.Prelude.{Some, None}
use Rattle.std.specs.List.{position, position_or_len}
use Rattle.std.proofs.lemmas.List.{take-take, take_all, take_at, length-take-le}
use Rattle.std.proofs.lemmas.List.Edits.{length-remove}
use Rattle.std.proofs.lemmas.List.Quantifiers.{position-Some}
use Rattle.std.proofs.lemmas.Bool.{cases_lt, or_parts}
use Rattle.std.proofs.lemmas.Bool.Decides.{nat_tests}
use Rattle.std.proofs.Math.Seq.{take-nil}
use Rattle.cache_lines.specs.Misses.{was_accessed}
use Rattle.cache_lines.specs.Private.Recency.{without, touched}
use Rattle.cache_lines.proofs.Recent.{without_same, without_other}

lt-suc : (a b : ℕ) → nat_lt (1 + a) (suc b) ≡ nat_lt a b
lt-suc a b = grind (arith, nat_tests)

zero-lt : (b : ℕ) → nat_lt 0 (suc b) ≡ true
zero-lt b = grind (arith, nat_tests)

-- a line is among them where it has a place
was-place : (n : ℕ) (xs : List ℕ) → nat_lt (position_or_len (λ m. nat_eq m n) xs) (length xs) ≡ was_accessed n xs
was-place n [] = refl
was-place n (x ∷ xs) = by_test (nat_eq x n) (was-place n xs)
  where
    by_test : (b : Bool) → nat_lt (position_or_len (λ m. nat_eq m n) xs) (length xs) ≡ was_accessed n xs → nat_lt (cond (not b) (1 + position_or_len (λ m. nat_eq m n) xs) 0) (suc (length xs)) ≡ (b || was_accessed n xs)
    by_test true rest = zero-lt (length xs)
    by_test false rest = lt-suc (position_or_len (λ m. nat_eq m n) xs) (length xs) ∙ rest

pub was-found : (n : ℕ) (xs : List ℕ) (i : ℕ) → position (λ m. nat_eq m n) xs ≡ Some i → was_accessed n xs ≡ true
was-found n xs i e = sym (was-place n xs) ∙ some (nat_lt (position_or_len (λ m. nat_eq m n) xs) (length xs)) e
  where
    some : (b : Bool) → cond b (Some (position_or_len (λ m. nat_eq m n) xs)) None ≡ Some i → b ≡ true
    some true q = refl
    some false q = absurd (cc)

pub was-none : (n : ℕ) (xs : List ℕ) → position (λ m. nat_eq m n) xs ≡ None → was_accessed n xs ≡ false
was-none n xs e = sym (was-place n xs) ∙ none (nat_lt (position_or_len (λ m. nat_eq m n) xs) (length xs)) e
  where
    none : (b : Bool) → cond b (Some (position_or_len (λ m. nat_eq m n) xs)) None ≡ None → b ≡ false
    none true q = absurd (cc)
    none false q = refl

-- the list without a line, which stands at the place or is none of them
without-at : (n : ℕ) (ys : List ℕ) (i : ℕ) → i < length ys → nat_eq (get_or ys i 0) n ≡ true → ((k : ℕ) → k < i → nat_eq (get_or ys k 0) n ≡ false) → without n ys ≡ take i ys ++ drop (suc i) ys
without-at n [] i lt here before = absurd (omega (arith, lt))
without-at n (y ∷ ys) zero lt here before = without_same n y ys here
without-at n (y ∷ ys) (suc i) lt here before =
    without_other n y ys (before 0 (omega arith)) ∙ ap (λ rest. y ∷ rest) (without-at n ys i (omega (arith, lt)) here (λ k below. before (suc k) (omega (arith, below))))

without-none : (n : ℕ) (ys : List ℕ) → was_accessed n ys ≡ false → without n ys ≡ ys
without-none n [] e = refl
without-none n (y ∷ ys) e =
    without_other n y ys (or_parts (nat_eq y n) (was_accessed n ys) e).0 ∙ ap (λ rest. y ∷ rest) (without-none n ys (or_parts (nat_eq y n) (was_accessed n ys) e).1)

-- to take one out behind a cut
take-removed : (v i : ℕ) (xs : List ℕ) → i ≤ v → take v (take i xs ++ drop (suc i) xs) ≡ take i (take (suc v) xs) ++ drop (suc i) (take (suc v) xs)
take-removed v zero [] le = take-nil v
take-removed v (suc i) [] le = take-nil v
take-removed v zero (x ∷ xs) le = refl
take-removed zero (suc i) (x ∷ xs) le = absurd (omega (arith, le))
take-removed (suc v) (suc i) (x ∷ xs) le = ap (λ rest. x ∷ rest) (take-removed v i xs (omega (arith, le)))

-- a line that is one of the used ones comes first
hit : (n v i : ℕ) (xs : List ℕ) → suc v ≤ length xs → position (λ m. nat_eq m n) (take (suc v) xs) ≡ Some i → take (suc v) (n ∷ take i xs ++ drop (suc i) xs) ≡ touched (length xs) n (take (suc v) xs)
hit n v i xs within e =
    let row = take (suc v) xs in
    let at = position-Some (λ m. nat_eq m n) row i 0 e in
    let long : length row ≡ suc v = length-take-le (suc v) xs within in
    let inside : i < length row = at.0 in
    let taken : without n row ≡ take i row ++ drop (suc i) row = without-at n row i inside at.1 at.2 in
    let size : length (take i row ++ drop (suc i) row) + 1 ≡ length row = length-remove row i inside in
    let same_size : length (without n row) ≡ length (take i row ++ drop (suc i) row) = ap length taken in
    let cut : take (length xs) (n ∷ without n row) ≡ n ∷ without n row = take_all (length xs) (n ∷ without n row) (omega arith) in
    ap (λ rest. n ∷ rest) (take-removed v i xs (omega arith) ∙ sym taken) ∙ sym cut

pub hit_is : (n u i j k : ℕ) (xs new : List ℕ) → u ≤ length xs → position (λ m. nat_eq m n) (take u xs) ≡ Some i → j ≡ i → k ≡ suc i → new ≡ n ∷ take j xs ++ drop k xs → take u new ≡ touched (length xs) n (take u xs)
hit_is n zero i j k xs new within e is_j is_k is = absurd (omega (arith, (position-Some (λ m. nat_eq m n) (take 0 xs) i 0 e).0))
hit_is n (suc v) i j k xs new within e is_j is_k is =
    ap (take (suc v)) (is ∙ ap₂ (λ a b. n ∷ take a xs ++ drop b xs) is_j is_k) ∙ hit n v i xs within e

-- a line that is none of them comes first, and the last is dropped where they are full
miss : (n u w j : ℕ) (xs rest : List ℕ) → length xs ≡ suc w → u ≤ length xs → was_accessed n (take u xs) ≡ false → j ≡ min u w → take (suc j) (n ∷ take j xs ++ rest) ≡ touched (suc w) n (take u xs)
miss n u w j xs rest long within none is =
    let front : take j (take j xs ++ rest) ≡ take j xs = take_at (take j xs) rest j (length-take-le j xs (omega arith)) in
    let size : length (take u xs) ≡ u = length-take-le u xs within in
    let cut : take w (take u xs) ≡ take j xs = elim (cases_lt w u) [
      | inl full ↦ let same : j ≡ w = omega arith in take-take w u xs (omega arith) ∙ ap (λ k. take k xs) (sym same)
      | inr fits ↦ let same : j ≡ u = omega arith in take_all w (take u xs) (omega arith) ∙ ap (λ k. take k xs) (sym same)
    ] in
    ap (λ ys. n ∷ ys) (front ∙ sym cut ∙ sym (ap (take w) (without-none n (take u xs) none)))

pub miss_is : (n u kept j : ℕ) (xs new rest : List ℕ) → 1 ≤ length xs → u ≤ length xs → position (λ m. nat_eq m n) (take u xs) ≡ None → kept ≡ min (u + 1) (length xs) → j ≡ kept - 1 → new ≡ n ∷ take j xs ++ rest → take kept new ≡ touched (length xs) n (take u xs)
miss_is n u kept j [] new rest some within e is is_j is_new = absurd (omega (arith, some))
miss_is n u kept j (x ∷ xs) new rest some within e is is_j is_new =
    let next : kept ≡ suc j = omega arith in
    ap₂ take next is_new ∙ miss n u (length xs) j (x ∷ xs) rest refl within (was-none n (take u (x ∷ xs)) e) (omega arith)

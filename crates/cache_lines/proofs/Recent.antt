-- The first so many of the different lines of a set tell whether an access misses, and an access keeps them so.
use Rattle.std.proofs.Common.{◌≡◌, ℕ, zero, suc, ◌%◌, ◌≤◌, Bool, true, false, not, ◌||◌, cond, nat_eq, nat_le, List, [], ◌∷◌, length, take, filter, refl, sym, ap, ap₂, ◌∙◌, subst, arith}
use Rattle.std.proofs.lemmas.List.{take-take}
use Rattle.std.proofs.lemmas.Bool.{eq-eqb, eqb-true, or_parts}
use Rattle.std.proofs.Math.Bool.{or-true}
use Rattle.std.proofs.lemmas.Bool.Decides.{nat_tests}
use Rattle.cache_lines.specs.Shapes.{Dimensions}
use Rattle.cache_lines.specs.Kept.{recent}
use Rattle.cache_lines.specs.Misses.{was_accessed, since, of_set, different, misses}
use Rattle.cache_lines.specs.Private.Recency.{without, touched}

other : (m n : ℕ) → nat_eq m n ≡ false → not (nat_eq n m) ≡ true
other m n e = grind (arith, nat_tests)

-- a filter at one element
filter_yes : (p : ℕ → Bool) (x : ℕ) (xs : List ℕ) → p x ≡ true → filter p (x ∷ xs) ≡ x ∷ filter p xs
filter_yes p x xs e = ap (λ b. cond b (x ∷ filter p xs) (filter p xs)) e

filter_no : (p : ℕ → Bool) (x : ℕ) (xs : List ℕ) → p x ≡ false → filter p (x ∷ xs) ≡ filter p xs
filter_no p x xs e = ap (λ b. cond b (x ∷ filter p xs) (filter p xs)) e

since_same : (n m : ℕ) (xs : List ℕ) → nat_eq m n ≡ true → since n (m ∷ xs) ≡ []
since_same n m xs e = ap (λ b. cond b [] (m ∷ since n xs)) e

since_other : (n m : ℕ) (xs : List ℕ) → nat_eq m n ≡ false → since n (m ∷ xs) ≡ m ∷ since n xs
since_other n m xs e = ap (λ b. cond b [] (m ∷ since n xs)) e

pub without_same : (n m : ℕ) (xs : List ℕ) → nat_eq m n ≡ true → without n (m ∷ xs) ≡ xs
without_same n m xs e = ap (λ b. cond b xs (m ∷ without n xs)) e

pub without_other : (n m : ℕ) (xs : List ℕ) → nat_eq m n ≡ false → without n (m ∷ xs) ≡ m ∷ without n xs
without_other n m xs e = ap (λ b. cond b xs (m ∷ without n xs)) e

-- what was accessed since the last access of a line, among those that pass
filter-since : (p : ℕ → Bool) (n : ℕ) (xs : List ℕ) → p n ≡ true → filter p (since n xs) ≡ since n (filter p xs)
filter-since p n [] fits = refl
filter-since p n (m ∷ xs) fits = by_test (nat_eq m n) refl (p m) refl (filter-since p n xs fits)
  where
    by_test : (b : Bool) → nat_eq m n ≡ b → (c : Bool) → p m ≡ c → filter p (since n xs) ≡ since n (filter p xs) → filter p (since n (m ∷ xs)) ≡ since n (filter p (m ∷ xs))
    by_test true e c q rest =
        let passes : p m ≡ true = subst (λ k. p k ≡ true) (sym (eqb-true m n e)) fits in
        ap (filter p) (since_same n m xs e) ∙ sym (ap (since n) (filter_yes p m xs passes) ∙ since_same n m (filter p xs) e)
    by_test false e true q rest =
        ap (filter p) (since_other n m xs e) ∙ filter_yes p m (since n xs) q ∙ ap (λ ys. m ∷ ys) rest
        ∙ sym (ap (since n) (filter_yes p m xs q) ∙ since_other n m (filter p xs) e)
    by_test false e false q rest =
        ap (filter p) (since_other n m xs e) ∙ filter_no p m (since n xs) q ∙ rest ∙ sym (ap (since n) (filter_no p m xs q))

different-since : (n : ℕ) (xs : List ℕ) → different (since n xs) ≡ since n (different xs)
different-since n [] = refl
different-since n (m ∷ xs) = by_test (nat_eq m n) refl (different-since n xs)
  where
    by_test : (b : Bool) → nat_eq m n ≡ b → different (since n xs) ≡ since n (different xs) → different (since n (m ∷ xs)) ≡ since n (different (m ∷ xs))
    by_test true e rest = ap different (since_same n m xs e) ∙ sym (since_same n m (filter (λ x. not (nat_eq x m)) (different xs)) e)
    by_test false e rest =
        ap different (since_other n m xs e) ∙ ap (λ ys. m ∷ filter (λ x. not (nat_eq x m)) ys) rest
        ∙ ap (λ ys. m ∷ ys) (filter-since (λ x. not (nat_eq x m)) n (different xs) (other m n e))
        ∙ sym (since_other n m (filter (λ x. not (nat_eq x m)) (different xs)) e)

no_two : (b : Bool) → b ≡ true → b ≡ false → ⊥
no_two true e q = cc
no_two false e q = cc

-- whether a line was accessed, among those that pass
was-filter : (p : ℕ → Bool) (n : ℕ) (xs : List ℕ) → p n ≡ true → was_accessed n (filter p xs) ≡ was_accessed n xs
was-filter p n [] fits = refl
was-filter p n (m ∷ xs) fits = by_test (nat_eq m n) refl (p m) refl (was-filter p n xs fits)
  where
    by_test : (b : Bool) → nat_eq m n ≡ b → (c : Bool) → p m ≡ c → was_accessed n (filter p xs) ≡ was_accessed n xs → was_accessed n (filter p (m ∷ xs)) ≡ was_accessed n (m ∷ xs)
    by_test b e true q rest = ap (was_accessed n) (filter_yes p m xs q) ∙ ap (λ w. nat_eq m n || w) rest
    by_test true e false q rest = absurd (no_two (p m) (subst (λ k. p k ≡ true) (sym (eqb-true m n e)) fits) q)
    by_test false e false q rest = ap (was_accessed n) (filter_no p m xs q) ∙ rest ∙ sym (ap (λ b. b || was_accessed n xs) e)

was-different : (n : ℕ) (xs : List ℕ) → was_accessed n (different xs) ≡ was_accessed n xs
was-different n [] = refl
was-different n (m ∷ xs) = by_test (nat_eq m n) refl (was-different n xs)
  where
    by_test : (b : Bool) → nat_eq m n ≡ b → was_accessed n (different xs) ≡ was_accessed n xs → was_accessed n (different (m ∷ xs)) ≡ was_accessed n (m ∷ xs)
    by_test true e rest = ap (λ b. b || was_accessed n (filter (λ x. not (nat_eq x m)) (different xs))) e ∙ sym (ap (λ b. b || was_accessed n xs) e)
    by_test false e rest = ap (λ w. nat_eq m n || w) (was-filter (λ x. not (nat_eq x m)) n (different xs) (other m n e) ∙ rest)

-- no line stands twice
abbrev AreDifferent : List ℕ → Type 0
AreDifferent [] = Unit {0}
AreDifferent (x ∷ xs) = (was_accessed x xs ≡ false) × AreDifferent xs

was_not-filter : (p : ℕ → Bool) (n : ℕ) (xs : List ℕ) → was_accessed n xs ≡ false → was_accessed n (filter p xs) ≡ false
was_not-filter p n [] e = refl
was_not-filter p n (x ∷ xs) e =
    let here = (or_parts (nat_eq x n) (was_accessed n xs) e).0 in
    let there = was_not-filter p n xs (or_parts (nat_eq x n) (was_accessed n xs) e).1 in
    elim (p x) as (λ b. was_accessed n (cond b (x ∷ filter p xs) (filter p xs)) ≡ false) [ true ↦ ap₂ (λ a b. a || b) here there | false ↦ there ]

AreDifferent-filter : (p : ℕ → Bool) (xs : List ℕ) → AreDifferent xs → AreDifferent (filter p xs)
AreDifferent-filter p [] h = tt
AreDifferent-filter p (x ∷ xs) h =
    elim (p x) as (λ b. AreDifferent (cond b (x ∷ filter p xs) (filter p xs))) [ true ↦ (was_not-filter p x xs h.0, AreDifferent-filter p xs h.1) | false ↦ AreDifferent-filter p xs h.1 ]

was_not-others : (m : ℕ) (xs : List ℕ) → was_accessed m (filter (λ x. not (nat_eq x m)) xs) ≡ false
was_not-others m [] = refl
was_not-others m (x ∷ xs) = by_test (nat_eq x m) refl (was_not-others m xs)
  where
    by_test : (b : Bool) → nat_eq x m ≡ b → was_accessed m (filter (λ x. not (nat_eq x m)) xs) ≡ false → was_accessed m (filter (λ x. not (nat_eq x m)) (x ∷ xs)) ≡ false
    by_test true e rest = ap (was_accessed m) (filter_no (λ x. not (nat_eq x m)) x xs (ap not e)) ∙ rest
    by_test false e rest = ap (was_accessed m) (filter_yes (λ x. not (nat_eq x m)) x xs (ap not e)) ∙ ap₂ (λ a b. a || b) e rest

different-are : (xs : List ℕ) → AreDifferent (different xs)
different-are [] = tt
different-are (m ∷ xs) = (was_not-others m (different xs), AreDifferent-filter (λ x. not (nat_eq x m)) (different xs) (different-are xs))

filter-none : (n : ℕ) (xs : List ℕ) → was_accessed n xs ≡ false → filter (λ x. not (nat_eq x n)) xs ≡ xs
filter-none n [] e = refl
filter-none n (x ∷ xs) e =
    filter_yes (λ x. not (nat_eq x n)) x xs (ap not (or_parts (nat_eq x n) (was_accessed n xs) e).0) ∙ ap (λ ys. x ∷ ys) (filter-none n xs (or_parts (nat_eq x n) (was_accessed n xs) e).1)

-- to take out all of a line is to take out the first of it
filter-without : (n : ℕ) (xs : List ℕ) → AreDifferent xs → filter (λ x. not (nat_eq x n)) xs ≡ without n xs
filter-without n [] h = refl
filter-without n (x ∷ xs) h = by_test (nat_eq x n) refl (filter-without n xs h.1)
  where
    by_test : (b : Bool) → nat_eq x n ≡ b → filter (λ x. not (nat_eq x n)) xs ≡ without n xs → filter (λ x. not (nat_eq x n)) (x ∷ xs) ≡ without n (x ∷ xs)
    by_test true e rest =
        filter_no (λ x. not (nat_eq x n)) x xs (ap not e) ∙ filter-none n xs (subst (λ k. was_accessed k xs ≡ false) (eqb-true x n e) h.0) ∙ sym (without_same n x xs e)
    by_test false e rest =
        filter_yes (λ x. not (nat_eq x n)) x xs (ap not e) ∙ ap (λ ys. x ∷ ys) rest ∙ sym (without_other n x xs e)

take-without : (w n : ℕ) (ys : List ℕ) → take w (without n (take (suc w) ys)) ≡ take w (without n ys)
take-without w n [] = refl
take-without zero n (y ∷ ys) = refl
take-without (suc w) n (y ∷ ys) = by_test (nat_eq y n) refl (take-without w n ys)
  where
    by_test : (b : Bool) → nat_eq y n ≡ b → take w (without n (take (suc w) ys)) ≡ take w (without n ys) → take (suc w) (without n (y ∷ take (suc w) ys)) ≡ take (suc w) (without n (y ∷ ys))
    by_test true e rest = ap (take (suc w)) (without_same n y (take (suc w) ys) e) ∙ take-take (suc w) (suc w) ys (omega arith) ∙ sym (ap (take (suc w)) (without_same n y ys e))
    by_test false e rest = ap (take (suc w)) (without_other n y (take (suc w) ys) e) ∙ ap (λ rest. y ∷ rest) rest ∙ sym (ap (take (suc w)) (without_other n y ys e))

-- an access keeps the first so many of the different lines
recent-access : (w n : ℕ) (xs : List ℕ) → take (suc w) (different (n ∷ xs)) ≡ touched (suc w) n (take (suc w) (different xs))
recent-access w n xs =
    ap (λ ys. n ∷ take w ys) (filter-without n (different xs) (different-are xs)) ∙ ap (λ ys. n ∷ ys) (sym (take-without w n (different xs)))

pub le-suc : (w k : ℕ) → nat_le w k ≡ nat_le (suc w) (suc k)
le-suc w k = grind (arith, nat_tests)

le-none : (w : ℕ) → nat_le (suc w) 0 ≡ false
le-none w = grind (arith, nat_tests)

-- a line is among the first so many where fewer others stand before it
among-first : (w n : ℕ) (ys : List ℕ) → not (was_accessed n (take w ys)) ≡ (not (was_accessed n ys) || nat_le w (length (since n ys)))
among-first zero n ys = let none : nat_le 0 (length (since n ys)) ≡ true = grind (arith, nat_tests) in sym (ap (λ b. not (was_accessed n ys) || b) none ∙ or-true (not (was_accessed n ys)))
among-first (suc w) n [] = refl
among-first (suc w) n (y ∷ ys) = by_test (nat_eq y n) refl (among-first w n ys)
  where
    by_test : (b : Bool) → nat_eq y n ≡ b → not (was_accessed n (take w ys)) ≡ (not (was_accessed n ys) || nat_le w (length (since n ys))) → not (was_accessed n (y ∷ take w ys)) ≡ (not (was_accessed n (y ∷ ys)) || nat_le (suc w) (length (since n (y ∷ ys))))
    by_test true e rest =
        ap (λ b. not (b || was_accessed n (take w ys))) e ∙ sym (le-none w)
        ∙ sym (ap₂ (λ b k. not (b || was_accessed n ys) || nat_le (suc w) (length k)) e (since_same n y ys e))
    by_test false e rest =
        ap (λ b. not (b || was_accessed n (take w ys))) e ∙ rest ∙ ap (λ b. not (was_accessed n ys) || b) (le-suc w (length (since n ys)))
        ∙ sym (ap₂ (λ b k. not (b || was_accessed n ys) || nat_le (suc w) (length k)) e (since_other n y ys e))

-- the lines that a set holds tell whether an access misses
pub misses_is : (shape : Dimensions) (n : ℕ) (accesses : List ℕ) → not (was_accessed n (recent shape (n % shape.sets) accesses)) ≡ misses shape accesses n
misses_is shape n accesses =
    let sets = shape.sets in
    let ways = shape.ways in
    let whole = different (filter (λ m. nat_eq (m % sets) (n % sets)) accesses) in
    let fits : nat_eq (n % sets) (n % sets) ≡ true = eq-eqb (n % sets) (n % sets) refl in
    let before : was_accessed n whole ≡ was_accessed n accesses = was-different n (of_set sets (n % sets) accesses) ∙ was-filter (λ m. nat_eq (m % sets) (n % sets)) n accesses fits in
    let between : since n whole ≡ different (of_set sets (n % sets) (since n accesses)) = sym (ap different (filter-since (λ m. nat_eq (m % sets) (n % sets)) n accesses fits) ∙ different-since n (of_set sets (n % sets) accesses)) in
    among-first ways n whole ∙ ap₂ (λ b ys. not b || nat_le ways (length ys)) before between

-- the set of the line after the access
pub recent_is : (sets ways n : ℕ) (accesses : List ℕ) → 1 ≤ ways → take ways (different (of_set sets (n % sets) (n ∷ accesses))) ≡ touched ways n (take ways (different (of_set sets (n % sets) accesses)))
recent_is sets zero n accesses some = absurd (omega (arith, some))
recent_is sets (suc w) n accesses some =
    ap (λ xs. take (suc w) (different xs)) (filter_yes (λ m. nat_eq (m % sets) (n % sets)) n accesses (eq-eqb (n % sets) (n % sets) refl)) ∙ recent-access w n (of_set sets (n % sets) accesses)

-- any other set
pub others_stay : (sets set n : ℕ) (accesses : List ℕ) → nat_eq (n % sets) set ≡ false → of_set sets set (n ∷ accesses) ≡ of_set sets set accesses
others_stay sets set n accesses e = filter_no (λ m. nat_eq (m % sets) set) n accesses e

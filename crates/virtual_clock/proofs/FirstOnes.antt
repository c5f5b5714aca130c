-- The deadline that comes first: it is one of the list, and none comes before it.
use Rattle.std.proofs.Common.{◌≡◌, ℕ, zero, suc, ◌<◌, ◌≤◌, Bool, true, false, cond, nat_le, List, [], ◌∷◌, length, map, refl, sym, ◌∙◌, subst, arith}
use Rattle.std.specs.Prelude.{All, Contains, fold, slice_index_or, Some, None}
use Rattle.std.specs.Option.{option_map}
use Rattle.std.proofs.lemmas.Bool.Decides.{nat_tests}
use Rattle.virtual_clock.specs.declared.deadline.Deadline.{Deadline}
use Rattle.virtual_clock.specs.Order.{comes_before, sooner, first_of, due_now, due_of, IsFirst, IsEarliest, IsDue}

before-not : (d e : Deadline) → comes_before d e ≡ true → comes_before e d ≡ false
before-not d e h = grind (arith, nat_tests)

not_before-trans : (x y z : Deadline) → comes_before x y ≡ false → comes_before y z ≡ false → comes_before x z ≡ false
not_before-trans x y z h k = grind (arith, nat_tests)

not_before-self : (x : Deadline) → comes_before x x ≡ false
not_before-self x = grind (arith, nat_tests)

not_before-time : (x y : Deadline) → comes_before x y ≡ false → y.at ≤ x.at
not_before-time x y h = grind (arith, nat_tests)

-- the one that comes first, of one and a list
abbrev best : Deadline → List Deadline → Deadline
best e [] = e
best e (d ∷ xs) = best (cond (comes_before d e) d e) xs

fold-best : (e : Deadline) (xs : List Deadline) → fold sooner (Some e) xs ≡ Some (best e xs)
fold-best e [] = refl
fold-best e (d ∷ xs) = fold-best (cond (comes_before d e) d e) xs

-- none of the list comes before
abbrev NoneBefore : List Deadline → Deadline → Type 0
NoneBefore [] b = Unit {0}
NoneBefore (x ∷ xs) b = (comes_before x b ≡ false) × NoneBefore xs b

best-none_before : (e : Deadline) (xs : List Deadline) → NoneBefore (e ∷ xs) (best e xs)
best-none_before e [] = (not_before-self e, tt)
best-none_before e (d ∷ xs) =
    by_test (comes_before d e) refl (best-none_before (cond (comes_before d e) d e) xs)
  where
    by_test : (b : Bool) → comes_before d e ≡ b → NoneBefore (cond b d e ∷ xs) (best (cond b d e) xs) → NoneBefore (e ∷ d ∷ xs) (best (cond b d e) xs)
    by_test true is rest = (not_before-trans e d (best d xs) (before-not d e is) rest.0, (rest.0, rest.1))
    by_test false is rest = (rest.0, (not_before-trans d e (best e xs) is rest.0, rest.1))

Contains-next : (x : Deadline) (xs : List Deadline) (d : Deadline) → Contains xs d → Contains (x ∷ xs) d
Contains-next x xs d c = (suc c.0, omega (arith, c.1), c.2)

best-contained : (e : Deadline) (xs : List Deadline) → Contains (e ∷ xs) (best e xs)
best-contained e [] = (0, omega arith, refl)
best-contained e (d ∷ xs) =
    by_test (comes_before d e) (best-contained (cond (comes_before d e) d e) xs)
  where
    skip : (y : Deadline) → Contains (e ∷ xs) y → Contains (e ∷ d ∷ xs) y
    skip y (zero, lt, is) = (0, omega arith, is)
    skip y (suc k, lt, is) = (suc (suc k), omega arith, is)

    by_test : (b : Bool) → Contains (cond b d e ∷ xs) (best (cond b d e) xs) → Contains (e ∷ d ∷ xs) (best (cond b d e) xs)
    by_test true c = Contains-next e (d ∷ xs) (best d xs) c
    by_test false c = skip (best e xs) c

all_not_before : (xs : List Deadline) (b : Deadline) → NoneBefore xs b → All (λ e. comes_before e b ≡ false) xs
all_not_before [] b h k d lt = absurd (omega arith)
all_not_before (x ∷ xs) b h zero d lt = h.0
all_not_before (x ∷ xs) b h (suc k) d lt = all_not_before xs b h.1 k d (omega arith)

best-first : (x : Deadline) (xs : List Deadline) → IsFirst (x ∷ xs) (best x xs)
best-first x xs = (best-contained x xs, all_not_before (x ∷ xs) (best x xs) (best-none_before x xs))

map-contains : (xs : List Deadline) (k : ℕ) (d : Deadline) → k < length xs → Contains (map (λ d. d.at) xs) (slice_index_or xs k d).at
map-contains [] k d lt = absurd (omega arith)
map-contains (x ∷ xs) zero d lt = (0, omega arith, refl)
map-contains (x ∷ xs) (suc k) d lt = let c = map-contains xs k d (omega arith) in (suc c.0, omega (arith, c.1), c.2)

-- the time of the first is the least
pub earliest_is : (xs : List Deadline) → IsEarliest xs (option_map (λ d. d.at) (first_of xs))
earliest_is [] = refl
earliest_is (x ∷ xs) =
    let is = best-first x xs in
    let b = best x xs in
    subst (λ first. IsEarliest (x ∷ xs) (option_map (λ d. d.at) first)) (sym (fold-best x xs))
    (subst (λ (d : Deadline). Contains (map (λ e. e.at) (x ∷ xs)) d.at) is.0.2 (map-contains (x ∷ xs) is.0.0 b is.0.1), λ k d lt. not_before-time (slice_index_or (x ∷ xs) k d) b (is.1 k d lt))

-- what is due is the first, or each time is later
pub due_is : (xs : List Deadline) (now : ℕ) → IsDue xs now (option_map (λ d. (d.tid, d.answer)) (due_of xs now))
due_is [] now = λ k d lt. absurd (omega (arith, lt))
due_is (x ∷ xs) now =
    subst (λ first. IsDue (x ∷ xs) now (option_map (λ d. (d.tid, d.answer)) (due_now first now))) (sym (fold-best x xs))
    (by_test (nat_le (best x xs).at now) refl)
  where
    by_test : (b : Bool) → nat_le (best x xs).at now ≡ b → IsDue (x ∷ xs) now (option_map (λ d. (d.tid, d.answer)) (cond b (Some (best x xs)) None))
    by_test true is = (best x xs, best-first x xs, grind (arith, nat_tests), refl)
    by_test false is = λ k d lt.
        let no_sooner : (best x xs).at ≤ (slice_index_or (x ∷ xs) k d).at = not_before-time (slice_index_or (x ∷ xs) k d) (best x xs) ((best-first x xs).1 k d lt) in
        let later : now < (best x xs).at = grind (arith, nat_tests) in
        omega arith

-- the first of a list, where it is due
pub found_first : (xs : List Deadline) (d : Deadline) → first_of xs ≡ Some d → IsFirst xs d
found_first [] d is = absurd (cc)
found_first (x ∷ xs) d is =
    let same : best x xs ≡ d = some-same (sym (fold-best x xs) ∙ is) in
    subst (IsFirst (x ∷ xs)) same (best-first x xs)
  where
    some-same : {a b : Deadline} → Some a ≡ Some b → a ≡ b
    some-same e = cc

-- none is due
pub none_due : (xs : List Deadline) (now : ℕ) → due_of xs now ≡ None → All (λ d. now < d.at) xs
none_due xs now is = subst (λ due. IsDue xs now (option_map (λ d. (d.tid, d.answer)) due)) is (due_is xs now)

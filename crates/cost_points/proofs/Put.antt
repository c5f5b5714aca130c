-- One value more among values that stand by rising key, and several members of one key more among groups.
use Rattle.std.proofs.Common.{◌≡◌, ◌≢◌, ℕ, zero, suc, ◌<◌, ◌≤◌, ◌==◌, inl, inr, List, [], ◌∷◌, ◌++◌, length, get_or, set, map, refl, sym, ap, ap₂, ◌∙◌, subst, arith, append_assoc}
use Rattle.std.specs.List.{All, insert}
use Rattle.std.proofs.lemmas.Bool.Decides.{nat_tests}
use Rattle.std.proofs.lemmas.List.{append-nil, map-append}
use Rattle.std.proofs.lemmas.List.Elements.{All-nil, All-cons, All-head, All-tail, All-weaker, filter-append}
use Rattle.cost_points.specs.Keys.{IsRising, grouped, insert_rising, put, rising}
use Rattle.cost_points.specs.Search.{IsAt, IsInsertionPoint}
use Rattle.cost_points.proofs.Grouped.{having, having_none, having_some}
use Rattle.cost_points.proofs.Rising.{IsRising-above, IsRising-rising, IsRising-tail, insert_above, insert_below, insert_same, order, rising_push}

module _ {B : Type 0} (key : B → ℕ) (k : ℕ) (change : B → B) (new : B) where
  pub put_below : (x : B) (xs : List B) → k < key x → put key k change new (x ∷ xs) ≡ new ∷ x ∷ xs
  put_below x xs h = grind (arith, nat_tests)

  pub put_same : (x : B) (xs : List B) → k ≡ key x → put key k change new (x ∷ xs) ≡ change x ∷ xs
  put_same x xs h = grind (arith, nat_tests)

  pub put_above : (x : B) (xs : List B) → key x < k → put key k change new (x ∷ xs) ≡ x ∷ put key k change new xs
  put_above x xs h = grind (arith, nat_tests)

  -- what holds of the new value, of those that stay, and of one that is changed
  pub put-both : (P Q : B → Type 0) → Q new → ((x : B) → P x → Q x) → ((x : B) → key x ≡ k → P x → Q (change x)) → (xs : List B) → All P xs → All Q (put key k change new xs)
  put-both P Q first stays changed [] all = All-cons Q new [] first (All-nil Q)
  put-both P Q first stays changed (x ∷ xs) all = elim (order k (key x)) [
    | inl h ↦ subst (All Q) (sym (put_below x xs h)) (All-cons Q new (x ∷ xs) first (All-weaker P Q stays (x ∷ xs) all))
    | inr (inl h) ↦ subst (All Q) (sym (put_same x xs h)) (All-cons Q (change x) xs (changed x (sym h) (All-head P x xs all)) (All-weaker P Q stays xs (All-tail P x xs all)))
    | inr (inr h) ↦ subst (All Q) (sym (put_above x xs h)) (All-cons Q x (put key k change new xs) (stays x (All-head P x xs all)) (put-both P Q first stays changed xs (All-tail P x xs all)))
  ]

  pub put-all : (P : B → Type 0) → P new → ((x : B) → key x ≡ k → P x → P (change x)) → (xs : List B) → All P xs → All P (put key k change new xs)
  put-all P first changed xs all = put-both P P first (λ x p. p) changed xs all

  -- the keys are those and this one
  pub keys_put : key new ≡ k → ((x : B) → key (change x) ≡ key x) → (xs : List B) → map key (put key k change new xs) ≡ insert_rising k (map key xs)
  keys_put named stays [] = ap (λ n. n ∷ []) named
  keys_put named stays (x ∷ xs) = elim (order k (key x)) [
    | inl h ↦ ap (map key) (put_below x xs h) ∙ ap (λ n. n ∷ key x ∷ map key xs) named ∙ sym (insert_below k (key x) (map key xs) h)
    | inr (inl h) ↦ ap (map key) (put_same x xs h) ∙ ap (λ n. n ∷ map key xs) (stays x) ∙ sym (insert_same k (key x) (map key xs) h)
    | inr (inr h) ↦ ap (map key) (put_above x xs h) ∙ ap (λ ns. key x ∷ ns) (keys_put named stays xs) ∙ sym (insert_above k (key x) (map key xs) h)
  ]

  -- there is a value then
  pub some-put : (xs : List B) → 1 ≤ length (put key k change new xs)
  some-put [] = omega arith
  some-put (x ∷ xs) = elim (order k (key x)) [
    | inl h ↦ omega (arith, ap length (put_below x xs h))
    | inr (inl h) ↦ omega (arith, ap length (put_same x xs h))
    | inr (inr h) ↦ omega (arith, ap length (put_above x xs h))
  ]

  -- there is one more at most
  pub length-put : (xs : List B) → length (put key k change new xs) ≤ suc (length xs)
  length-put [] = omega arith
  length-put (x ∷ xs) = elim (order k (key x)) [
    | inl h ↦ omega (arith, ap length (put_below x xs h))
    | inr (inl h) ↦ omega (arith, ap length (put_same x xs h))
    | inr (inr h) ↦ omega (arith, ap length (put_above x xs h), length-put xs)
  ]

  -- the value that has the key is changed
  pub put_at : (xs : List B) (i : ℕ) (old : B) → IsRising (map key xs) → IsAt (map key xs) k i → old ≡ get_or xs i old → set xs i (change old) ≡ put key k change new xs
  put_at [] i old up place read = absurd (let h = place.in_range in omega arith)
  put_at (x ∷ xs) zero old up place read =
      ap (λ y. change y ∷ xs) read ∙ sym (put_same x xs (sym place.here))
  put_at (x ∷ xs) (suc i) old up place read =
      let inside : suc i < suc (length (map key xs)) = place.in_range in
      let below : key x < k = subst (λ n. key x < n) place.here (up 0 (suc i) (omega arith) place.in_range) in
      ap (λ ys. x ∷ ys) (put_at xs i old (IsRising-tail (key x) (map key xs) up) (record { in_range = omega (arith, inside); here = place.here }) read)
      ∙ sym (put_above x xs below)

  -- a new value takes its place
  pub put_in : (xs : List B) (i : ℕ) → IsInsertionPoint (map key xs) k i → insert xs i new ≡ put key k change new xs
  put_in [] zero gap = refl
  put_in [] (suc i) gap = absurd (let h = gap.in_range in omega arith)
  put_in (x ∷ xs) zero gap = sym (put_below x xs (gap.greater 0 (omega arith) (omega arith)))
  put_in (x ∷ xs) (suc i) gap =
      let inside : suc i ≤ suc (length (map key xs)) = gap.in_range in
      ap (λ ys. x ∷ ys) (put_in xs i (record {
        in_range = omega (arith, inside);
        smaller = λ j lt. gap.smaller (suc j) (omega (arith, lt));
        greater = λ j le lt. gap.greater (suc j) (omega (arith, le)) (omega (arith, lt));
      }))
      ∙ sym (put_above x xs (gap.smaller 0 (omega arith)))

-- ---- groups
insert_twice : (x : ℕ) (ks : List ℕ) → insert_rising x (insert_rising x ks) ≡ insert_rising x ks
insert_twice x [] = insert_same x x [] refl
insert_twice x (k ∷ ks) = elim (order x k) [
  | inl h ↦ ap (insert_rising x) (insert_below x k ks h) ∙ insert_same x x (k ∷ ks) refl ∙ sym (insert_below x k ks h)
  | inr (inl h) ↦ ap (insert_rising x) (insert_same x k ks h)
  | inr (inr h) ↦ ap (insert_rising x) (insert_above x k ks h) ∙ insert_above x k (insert_rising x ks) h ∙ ap (λ js. k ∷ js) (insert_twice x ks) ∙ sym (insert_above x k ks h)
]

module _ {A : Type 0} (key : A → ℕ) where
  keys_more : (all more : List A) (x : ℕ) → All (λ a. key a ≡ x) more → 1 ≤ length more → rising (map key (all ++ more)) ≡ insert_rising x (rising (map key all))
  keys_more all [] x same some = absurd (omega (arith, some))
  keys_more all (d ∷ []) x same some =
      ap rising (map-append key all (d ∷ [])) ∙ rising_push (map key all) (key d)
      ∙ ap (λ k. insert_rising k (rising (map key all))) (All-head (λ a. key a ≡ x) d [] same)
  keys_more all (d ∷ f ∷ more) x same some =
      ap (λ ds. rising (map key ds)) (sym (append_assoc all (d ∷ []) (f ∷ more)))
      ∙ keys_more (all ++ d ∷ []) (f ∷ more) x (All-tail (λ a. key a ≡ x) d (f ∷ more) same) (omega arith)
      ∙ ap (insert_rising x) (ap rising (map-append key all (d ∷ [])) ∙ rising_push (map key all) (key d)
      ∙ ap (λ k. insert_rising k (rising (map key all))) (All-head (λ a. key a ≡ x) d (f ∷ more) same))
      ∙ insert_twice x (rising (map key all))

  none_of : (more : List A) (x k : ℕ) → All (λ a. key a ≡ x) more → k ≢ x → having key k more ≡ []
  none_of [] x k same other = refl
  none_of (d ∷ more) x k same other =
      let is : key d ≡ x = All-head (λ a. key a ≡ x) d more same in
      let rest : having key k more ≡ [] = none_of more x k (All-tail (λ a. key a ≡ x) d more same) other in
      grind (arith, nat_tests, is, rest, other)

  all_of : (more : List A) (x : ℕ) → All (λ a. key a ≡ x) more → having key x more ≡ more
  all_of [] x same = refl
  all_of (d ∷ more) x same =
      let is : key d ≡ x = All-head (λ a. key a ≡ x) d more same in
      let rest : having key x more ≡ more = all_of more x (All-tail (λ a. key a ≡ x) d more same) in
      grind (arith, nat_tests, is, rest)

module _ {A B : Type 0} (key : A → ℕ) (make : ℕ → List A → B) (label : B → ℕ) (named : (k : ℕ) (ms : List A) → label (make k ms) ≡ k)
    (x : ℕ) (change : B → B) (new : B) (all more : List A) (same : All (λ a. key a ≡ x) more) (some : 1 ≤ length more)
    (joined : (ms : List A) → 1 ≤ length ms → change (make x ms) ≡ make x (ms ++ more)) (alone : new ≡ make x more) where
  before : ℕ → B
  before k = make k (having key k all)

  after : ℕ → B
  after k = make k (having key k (all ++ more))

  other_stays : (k : ℕ) → k ≢ x → make k (having key k (all ++ more)) ≡ make k (having key k all)
  other_stays k other =
      ap (make k) (filter-append (λ a. key a == k) all more ∙ ap (λ ms. having key k all ++ ms) (none_of key more x k same other) ∙ append-nil (having key k all))

  others_stay : (ks : List ℕ) → All (λ k. k ≢ x) ks → map (λ k. make k (having key k (all ++ more))) ks ≡ map (λ k. make k (having key k all)) ks
  others_stay [] apart = refl
  others_stay (k ∷ ks) apart =
      ap₂ (λ b bs. b ∷ bs) (other_stays k (All-head (λ j. j ≢ x) k ks apart)) (others_stay ks (All-tail (λ j. j ≢ x) k ks apart))

  own : make x (having key x (all ++ more)) ≡ make x (having key x all ++ more)
  own = ap (make x) (filter-append (λ a. key a == x) all more ∙ ap (λ ms. having key x all ++ ms) (all_of key more x same))

  own_new : having key x all ≡ [] → make x (having key x (all ++ more)) ≡ new
  own_new none = own ∙ ap (λ ms. make x (ms ++ more)) none ∙ sym alone

  apart_above : (k : ℕ) (ks : List ℕ) → x < k → IsRising (k ∷ ks) → All (λ j. j ≢ x) (k ∷ ks)
  apart_above k ks lt up =
      All-cons (λ j. j ≢ x) k ks (λ e. absurd (omega (arith, lt, e))) (All-weaker (λ j. k < j) (λ j. j ≢ x) (λ j h e. absurd (omega (arith, lt, h, e))) ks (IsRising-above k ks up))

  by_keys : (ks : List ℕ) → IsRising ks → All (λ k. 1 ≤ length (having key k all)) ks → (All (λ k. k ≢ x) ks → having key x all ≡ []) →
      map (λ k. make k (having key k (all ++ more))) (insert_rising x ks) ≡ put label x change new (map (λ k. make k (having key k all)) ks)
  by_keys [] up members none = ap (λ b. b ∷ []) (own_new (none (All-nil (λ k. k ≢ x))))
  by_keys (k ∷ ks) up members none =
      let here = make k (having key k all) in
      let rest = map (λ j. make j (having key j all)) ks in
      let is : label (make k (having key k all)) ≡ k = named k (having key k all) in
      elim (order x k) [
        | inl h ↦
            let apart = apart_above k ks h up in
            ap (map (λ j. make j (having key j (all ++ more)))) (insert_below x k ks h)
            ∙ ap₂ (λ b bs. b ∷ bs) (own_new (none apart)) (others_stay (k ∷ ks) apart)
            ∙ sym (put_below label x change new here rest (omega (arith, h, is)))
        | inr (inl h) ↦
            let apart : All (λ j. j ≢ x) ks = All-weaker (λ j. k < j) (λ j. j ≢ x) (λ j lt e. absurd (omega (arith, lt, h, e))) ks (IsRising-above k ks up) in
            let have : 1 ≤ length (having key x all) = subst (λ j. 1 ≤ length (having key j all)) (sym h) (All-head (λ j. 1 ≤ length (having key j all)) k ks members) in
            let now : make k (having key k (all ++ more)) ≡ change (make k (having key k all)) =
            subst (λ j. make j (having key j (all ++ more)) ≡ change (make j (having key j all))) h (own ∙ sym (joined (having key x all) have)) in
            ap (map (λ j. make j (having key j (all ++ more)))) (insert_same x k ks h)
            ∙ ap₂ (λ b bs. b ∷ bs) now (others_stay ks apart)
            ∙ sym (put_same label x change new here rest (h ∙ sym is))
        | inr (inr h) ↦
            ap (map (λ j. make j (having key j (all ++ more)))) (insert_above x k ks h)
            ∙ ap₂ (λ b bs. b ∷ bs) (other_stays k (λ e. absurd (omega (arith, h, e))))
            (by_keys ks (IsRising-tail k ks up) (All-tail (λ j. 1 ≤ length (having key j all)) k ks members)
            (λ apart. none (All-cons (λ j. j ≢ x) k ks (λ e. absurd (omega (arith, h, e))) apart)))
            ∙ sym (put_above label x change new here rest (omega (arith, h, is)))
      ]

  -- members of one key join their group, or make one of their own
  pub grouped_put : grouped key make (all ++ more) ≡ put label x change new (grouped key make all)
  unfolding grouped
  grouped_put =
      ap (map (λ k. make k (having key k (all ++ more)))) (keys_more key all more x same some)
      ∙ by_keys (rising (map key all)) (IsRising-rising (map key all)) (having_some key all) (having_none key all x)

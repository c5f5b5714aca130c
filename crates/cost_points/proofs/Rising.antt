-- Keys that rise: how one more key comes among them.
use Rattle.std.proofs.Common.{◌≡◌, ℕ, zero, suc, ◌<◌, ◌⊎◌, List, [], ◌∷◌, ◌++◌, inl, inr, refl, sym, ap, ◌∙◌, subst, arith}
use Rattle.std.specs.List.{All}
use Rattle.std.proofs.lemmas.Bool.{cases_lt}
use Rattle.std.proofs.lemmas.Bool.Decides.{nat_tests}
use Rattle.std.proofs.lemmas.List.{get_or_default}
use Rattle.std.proofs.lemmas.List.Elements.{All-nil, All-cons, All-head, All-tail, All-weaker}
use Rattle.cost_points.specs.Keys.{insert_rising, rising, IsRising}

-- one of two numbers is below the other, or they are the same
pub order : (x y : ℕ) → (x < y) ⊎ ((x ≡ y) ⊎ (y < x))
order x y = elim (cases_lt x y) [
  | inl below ↦ inl below
  | inr above ↦ elim (cases_lt y x) [ inl over ↦ inr (inr over) | inr same ↦ inr (inl (omega arith)) ]
]

pub insert_below : (x y : ℕ) (ys : List ℕ) → x < y → insert_rising x (y ∷ ys) ≡ x ∷ y ∷ ys
insert_below x y ys h = grind (arith, nat_tests)

pub insert_same : (x y : ℕ) (ys : List ℕ) → x ≡ y → insert_rising x (y ∷ ys) ≡ y ∷ ys
insert_same x y ys h = grind (arith, nat_tests)

pub insert_above : (x y : ℕ) (ys : List ℕ) → y < x → insert_rising x (y ∷ ys) ≡ y ∷ insert_rising x ys
insert_above x y ys h = grind (arith, nat_tests)

-- the order in which two keys come does not matter
pub insert_comm : (x y : ℕ) (zs : List ℕ) → insert_rising x (insert_rising y zs) ≡ insert_rising y (insert_rising x zs)
insert_comm x y [] = elim (order x y) [
  | inl h ↦ insert_below x y [] h ∙ sym (insert_above y x [] h)
  | inr (inl h) ↦ rw h refl
  | inr (inr h) ↦ insert_above x y [] h ∙ sym (insert_below y x [] h)
]
insert_comm x y (z ∷ zs) = grind (arith, nat_tests, insert_comm x y zs)

-- one more number at the end is one more key
pub rising_push : (xs : List ℕ) (x : ℕ) → rising (xs ++ x ∷ []) ≡ insert_rising x (rising xs)
rising_push [] x = refl
rising_push (y ∷ ys) x = ap (insert_rising y) (rising_push ys x) ∙ insert_comm y x (rising ys)

-- what holds of the new key and the others
pub insert-all : (P : ℕ → Type 0) (x : ℕ) (ks : List ℕ) → P x → All P ks → All P (insert_rising x ks)
insert-all P x [] p all = All-cons P x [] p all
insert-all P x (y ∷ ys) p all = elim (order x y) [
  | inl h ↦ rw (insert_below x y ys h) (All-cons P x (y ∷ ys) p all)
  | inr (inl h) ↦ rw (insert_same x y ys h) all
  | inr (inr h) ↦ rw (insert_above x y ys h) (All-cons P y (insert_rising x ys) (All-head P y ys all) (insert-all P x ys p (All-tail P y ys all)))
]

pub all-insert : (P : ℕ → Type 0) (x : ℕ) (ks : List ℕ) → All P (insert_rising x ks) → P x × All P ks
all-insert P x [] all = (All-head P x [] all, All-nil P)
all-insert P x (y ∷ ys) all = elim (order x y) [
  | inl h ↦ let both = rw (insert_below x y ys h) at all in (All-head P x (y ∷ ys) both, All-tail P x (y ∷ ys) both)
  | inr (inl h) ↦ let both = rw (insert_same x y ys h) at all in (subst P (sym h) (All-head P y ys both), both)
  | inr (inr h) ↦
      let both = rw (insert_above x y ys h) at all in
      let rest : P x × All P ys = all-insert P x ys (All-tail P y (insert_rising x ys) both) in
      (rest.0, All-cons P y ys (All-head P y (insert_rising x ys) both) rest.1)
]

pub IsRising-cons : (x : ℕ) (xs : List ℕ) → All (λ y. x < y) xs → IsRising xs → IsRising (x ∷ xs)
IsRising-cons x xs above up zero zero lt in' = absurd (omega arith)
IsRising-cons x xs above up zero (suc j) lt in' = above j 0 (omega arith)
IsRising-cons x xs above up (suc i) zero lt in' = absurd (omega arith)
IsRising-cons x xs above up (suc i) (suc j) lt in' = up i j (omega arith) (omega arith)

pub IsRising-above : (x : ℕ) (xs : List ℕ) → IsRising (x ∷ xs) → All (λ y. x < y) xs
IsRising-above x xs up = λ k d h. rw (get_or_default xs k d 0 h) (up 0 (suc k) (omega arith) (omega arith))

pub IsRising-tail : (x : ℕ) (xs : List ℕ) → IsRising (x ∷ xs) → IsRising xs
IsRising-tail x xs up i j lt in' = up (suc i) (suc j) (omega arith) (omega arith)

pub IsRising-insert : (x : ℕ) (ks : List ℕ) → IsRising ks → IsRising (insert_rising x ks)
IsRising-insert x [] up = λ i j lt inside. absurd (omega arith)
IsRising-insert x (y ∷ ys) up = elim (order x y) [
  | inl h ↦ rw (insert_below x y ys h) (IsRising-cons x (y ∷ ys) (All-cons (λ z. x < z) y ys h (All-weaker (λ z. y < z) (λ z. x < z) (λ z p. omega arith) ys (IsRising-above y ys up))) up)
  | inr (inl h) ↦ rw (insert_same x y ys h) up
  | inr (inr h) ↦ rw (insert_above x y ys h) (IsRising-cons y (insert_rising x ys) (insert-all (λ z. y < z) x ys h (IsRising-above y ys up)) (IsRising-insert x ys (IsRising-tail y ys up)))
]

pub IsRising-rising : (xs : List ℕ) → IsRising (rising xs)
IsRising-rising [] = λ i j lt inside. absurd (omega arith)
IsRising-rising (x ∷ xs) = IsRising-insert x (rising xs) (IsRising-rising xs)

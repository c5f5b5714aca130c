-- What holds between each element and each later one, by recursion.
use Rattle.std.proofs.Common.{inl, inr, ◌≡◌, ◌⊎◌, ℕ, zero, suc, List, [], ◌∷◌, ◌++◌, take, drop, map, refl, ap, ◌∙◌, subst, arith}
use Rattle.std.specs.Prelude.{All, AllPairs, Contains}
use Rattle.std.proofs.lemmas.List.{length-map, get_or-map}
use Rattle.std.proofs.lemmas.List.Elements.{All-append, All-contains, All-map, All-take, Contains-append_right}

abbrev pub Later : {A : Type 0} → (A → A → Type 0) → List A → Type 0
Later R [] = Unit {0}
Later R (x ∷ xs) = All (R x) xs × Later R xs

pub pairs : {A : Type 0} (R : A → A → Type 0) (xs : List A) → Later R xs → AllPairs R xs
pairs R [] h i j d lt in' = absurd (omega (arith, in'))
pairs R (x ∷ xs) h zero zero d lt in' = absurd (omega (arith, lt))
pairs R (x ∷ xs) h zero (suc j) d lt in' = h.0 j d (omega (arith, in'))
pairs R (x ∷ xs) h (suc i) zero d lt in' = absurd (omega (arith, lt))
pairs R (x ∷ xs) h (suc i) (suc j) d lt in' = pairs R xs h.1 i j d (omega (arith, lt)) (omega (arith, in'))

pub laters : {A : Type 0} (R : A → A → Type 0) (xs : List A) → AllPairs R xs → Later R xs
laters R [] h = tt
laters R (x ∷ xs) h = (
  (λ k d in'. h 0 (suc k) d (omega arith) (omega (arith, in'))),
  laters R xs (λ i j d lt in'. h (suc i) (suc j) d (omega (arith, lt)) (omega (arith, in'))),
)

pub later_take : {A : Type 0} (R : A → A → Type 0) (n : ℕ) (xs : List A) → Later R xs → Later R (take n xs)
later_take R zero xs h = tt
later_take R (suc n) [] h = tt
later_take R (suc n) (x ∷ xs) h = (All-take (R x) n xs h.0, later_take R n xs h.1)

pub later_drop : {A : Type 0} (R : A → A → Type 0) (n : ℕ) (xs : List A) → Later R xs → Later R (drop n xs)
later_drop R zero xs h = h
later_drop R (suc n) [] h = tt
later_drop R (suc n) (x ∷ xs) h = later_drop R n xs h.1

pub later_map : {A B : Type 0} (R : B → B → Type 0) (f : A → B) (xs : List A) → Later (λ x y. R (f x) (f y)) xs → Later R (map f xs)
later_map R f [] h = tt
later_map R f (x ∷ xs) h = (All-map (R (f x)) f xs h.0, later_map R f xs h.1)

pub later_weaker : {A : Type 0} (R S : A → A → Type 0) → ((x y : A) → R x y → S x y) → (xs : List A) → Later R xs → Later S xs
later_weaker R S weaker [] h = tt
later_weaker R S weaker (x ∷ xs) h = ((λ k d in'. weaker x _ (h.0 k d in')), later_weaker R S weaker xs h.1)

pub later_append : {A : Type 0} (R : A → A → Type 0) (xs ys : List A) → Later R xs → Later R ys → All (λ x. All (R x) ys) xs → Later R (xs ++ ys)
later_append R [] ys h g across = g
later_append R (x ∷ xs) ys h g across =
    (All-append (R x) xs ys h.0 (across 0 x (omega arith)), later_append R xs ys h.1 g (λ k d in'. across (suc k) d (omega (arith, in'))))

pub contains_first : {A : Type 0} (x : A) (xs : List A) (y : A) → Contains (x ∷ xs) y → (x ≡ y) ⊎ Contains xs y
contains_first x xs y (zero, in', is) = inl is
contains_first x xs y (suc k, in', is) = inr (k, omega (arith, in'), is)

-- between an element of the first part and one of the second
pub later_across : {A : Type 0} (R : A → A → Type 0) (xs ys : List A) (x y : A) → Later R (xs ++ ys) → Contains xs x → Contains ys y → R x y
later_across R [] ys x y h c d = absurd (omega (arith, c.1))
later_across R (z ∷ xs) ys x y h c d =
    elim (contains_first z xs x c) [
      | inl same ↦ subst (λ w. R w y) same (All-contains (R z) (xs ++ ys) y h.0 (Contains-append_right xs ys y d))
      | inr rest ↦ later_across R xs ys x y h.1 rest d
    ]

pub contains_map : {A B : Type 0} (f : A → B) (xs : List A) (x : A) → Contains xs x → Contains (map f xs) (f x)
contains_map f xs x (k, in', is) = (k, omega (arith, in', length-map xs f), get_or-map f xs k x (f x) in' ∙ ap f is)

pub contains_from_map : {A B : Type 0} (f : A → B) (xs : List A) (y : B) → Contains (map f xs) y → (x : A) × Contains xs x × (f x ≡ y)
contains_from_map f [] y c = absurd (omega (arith, c.1))
contains_from_map f (x ∷ xs) y c =
    elim (contains_first (f x) (map f xs) y c) [
      | inl same ↦ (x, (0, omega arith, refl), same)
      | inr rest ↦
          let found = contains_from_map f xs y rest in
          (found.0, (suc found.1.0, omega (arith, found.1.1), found.1.2), found.2)
    ]

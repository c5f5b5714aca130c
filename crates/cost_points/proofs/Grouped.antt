-- What the groups by a key are made of.
use Rattle.std.proofs.Common.{◌≡◌, ℕ, ◌≤◌, ◌≢◌, ◌==◌, List, [], ◌∷◌, length, map, inl, inr, refl, ap, ◌∙◌, arith}
use Rattle.std.specs.List.{All, filter}
use Rattle.std.proofs.lemmas.Bool.Decides.{nat_tests, eqb_tells}
use Rattle.std.proofs.lemmas.List.Elements.{All-nil, All-weaker}
use Rattle.cost_points.specs.Keys.{rising, grouped}
use Rattle.cost_points.proofs.Rising.{insert-all, all-insert}

module _ {A : Type 0} (key : A → ℕ) where
  abbrev pub having : ℕ → List A → List A
  having k all = filter (λ a. key a == k) all

  -- a key that does not occur has no member
  pub having_none : (all : List A) (x : ℕ) → All (λ k. k ≢ x) (rising (map key all)) → having x all ≡ []
  having_none [] x none = refl
  having_none (a ∷ all) x none =
      let parts : (key a ≢ x) × All (λ k. k ≢ x) (rising (map key all)) = all-insert (λ k. k ≢ x) (key a) (rising (map key all)) none in
      grind (arith, nat_tests, parts.0, having_none all x parts.1)

  having_more : (a : A) (all : List A) (k : ℕ) → 1 ≤ length (having k all) → 1 ≤ length (having k (a ∷ all))
  having_more a all k some = elim (eqb_tells (key a) k) [
    | inl p ↦ rw p.0 (omega arith)
    | inr p ↦ rw p.0 some
  ]

  -- each key that occurs has a member
  pub having_some : (all : List A) → All (λ k. 1 ≤ length (having k all)) (rising (map key all))
  having_some [] = All-nil (λ k. 1 ≤ length (having k []))
  having_some (a ∷ all) =
      let P : ℕ → Type 0 = λ k. 1 ≤ length (having k (a ∷ all)) in
      let first : 1 ≤ length (having (key a) (a ∷ all)) = grind (arith, nat_tests) in
      insert-all P (key a) (rising (map key all)) first (All-weaker (λ k. 1 ≤ length (having k all)) P (having_more a all) (rising (map key all)) (having_some all))

module _ {A B : Type 0} (key : A → ℕ) (make : ℕ → List A → B) where
  abbrev made : List A → ℕ → B
  made all k = make k (having key k all)

  pub grouped_is : (all : List A) → grouped key make all ≡ map (made all) (rising (map key all))
  unfolding grouped
  grouped_is all = refl

  -- the keys are the labels of the groups
  pub grouped_labels : (label : B → ℕ) → ((k : ℕ) (members : List A) → label (make k members) ≡ k) → (all : List A) → map label (grouped key make all) ≡ rising (map key all)
  unfolding grouped
  grouped_labels label named all = labels (rising (map key all))
    where
      labels : (ks : List ℕ) → map label (map (made all) ks) ≡ ks
      labels [] = refl
      labels (k ∷ ks) = ap (λ l. l ∷ map label (map (made all) ks)) (named k (having key k all)) ∙ ap (λ rest. k ∷ rest) (labels ks)

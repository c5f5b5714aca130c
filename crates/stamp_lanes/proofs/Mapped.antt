-- Lanes that are computed from a list, each from its own item.
use Rattle.std.proofs.Common.{◌≡◌, ℕ, ◌+◌, ◌≤◌, Bool, cond, List, [], ◌∷◌, length, map, count_by, replicate, refl, ap, ap₂, sym, ◌∙◌, arith}
use Rattle.std.proofs.lemmas.List.Sums.{sum_by-cons}
use Rattle.std.proofs.lemmas.Simd.{splat_is_map, zip2_of_maps}
use Rattle.std.specs.Simd.Lanes.{sel_l, zip2}
use Rattle.stamp_lanes.proofs.Compared.{shorter}

pub same_map : {V W : Type 0} (f g : V → W) → ((v : V) → f v ≡ g v) → (vs : List V) → map f vs ≡ map g vs
same_map f g h [] = refl
same_map f g h (v ∷ vs) = ap₂ (λ x xs. x ∷ xs) (h v) (same_map f g h vs)

selected_maps : {V : Type 0} (t : V → Bool) (x y : V → ℕ) (vs : List V) → sel_l (map t vs) (map x vs) (map y vs) ≡ map (λ v. cond (t v) (x v) (y v)) vs
selected_maps t x y [] = refl
selected_maps t x y (v ∷ vs) = ap (λ zs. cond (t v) (x v) (y v) ∷ zs) (selected_maps t x y vs)

-- a choice by a comparison
pub chosen : {V : Type 0} (t : ℕ → ℕ → Bool) (a b x y : V → ℕ) (vs : List V) {ls rs xs ys zs : List ℕ} → ls ≡ map a vs → rs ≡ map b vs → xs ≡ map x vs → ys ≡ map y vs
    → zs ≡ sel_l (zip2 t ls rs) xs ys → zs ≡ map (λ v. cond (t (a v) (b v)) (x v) (y v)) vs
chosen t a b x y vs ls_is rs_is xs_is ys_is is =
    is
    ∙ ((λ i. sel_l (zip2_of_maps t a b vs ls_is rs_is i) (xs_is i) (ys_is i)) ∙ selected_maps (λ v. t (a v) (b v)) x y vs)

count_cons : {V : Type 0} (p : V → Bool) (v : V) (vs : List V) → count_by p (v ∷ vs) ≡ cond (p v) 1 0 + count_by p vs
count_cons p v vs = sum_by-cons (λ u. cond (p u) 1 0) v vs

counted_maps : {V : Type 0} (p q : V → Bool) → ((v : V) → p v ≡ q v) → (vs : List V) → count_by (λ b. b) (map p vs) ≡ count_by q vs
counted_maps p q h [] = refl
counted_maps p q h (v ∷ vs) =
    count_cons (λ b. b) (p v) (map p vs) ∙ (ap₂ (λ (b : Bool) (n : ℕ). cond b 1 0 + n) (h v) (counted_maps p q h vs) ∙ sym (count_cons q v vs))

-- a count by a comparison
pub counted : {V : Type 0} (t : ℕ → ℕ → Bool) (a b : V → ℕ) (q : V → Bool) → ((v : V) → t (a v) (b v) ≡ q v) → (vs : List V) {ls rs : List ℕ} → ls ≡ map a vs → rs ≡ map b vs
    → count_by (λ b. b) (zip2 t ls rs) ≡ count_by q vs
counted t a b q same vs ls_is rs_is = ap (count_by (λ b. b)) (zip2_of_maps t a b vs ls_is rs_is) ∙ counted_maps (λ v. t (a v) (b v)) q same vs

-- a splat
pub splatted : {V : Type 0} (vs : List V) (n : ℕ) {s : ℕ} {ns : List ℕ} → length vs ≡ 16 → ns ≡ replicate 16 s → s ≡ n → ns ≡ map (λ _. n) vs
splatted vs n long is same = is ∙ (ap (replicate 16) same ∙ splat_is_map vs 16 n long)

selected_length : (ms : List Bool) (xs ys : List ℕ) → length (sel_l ms xs ys) ≤ length ms
selected_length [] xs ys = omega arith
selected_length (m ∷ ms) [] ys = omega arith
selected_length (m ∷ ms) (x ∷ xs) [] = omega arith
selected_length (m ∷ ms) (x ∷ xs) (y ∷ ys) = let rest = selected_length ms xs ys in omega arith

pub chosen_length : (t : ℕ → ℕ → Bool) (ls rs xs ys zs : List ℕ) → length ls ≡ 16 → zs ≡ sel_l (zip2 t ls rs) xs ys → length zs ≤ 16
chosen_length t ls rs xs ys zs long is =
    let same : length zs ≡ length (sel_l (zip2 t ls rs) xs ys) = ap length is in
    let few = selected_length (zip2 t ls rs) xs ys in
    let fewer = shorter t ls rs in
    omega arith

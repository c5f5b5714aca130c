-- What a comparison of two vectors chooses and counts.
use Rattle.std.proofs.Common.{◌≡◌, ℕ, ◌≤◌, ◌-◌, ◌^◌, ◌%◌, ◌∙◌, Bool, cond, List, [], ◌∷◌, length, map, count_by, ap, sym, arith}
use Rattle.std.proofs.lemmas.List.{map-id}
use Rattle.std.proofs.lemmas.Simd.{mask_l-mod, ones-mask_l, tops_compared}
use Rattle.std.specs.Int.RustNames.{count_ones}
use Rattle.std.specs.Simd.Lanes.{sel_l, zip2}
use lib.Lanes.{mask_l, top}
use mir.Syntax.{Width}
use mir.Val.{bits, hbits}

pub chosen_lanes : (w : Width) (t : ℕ → ℕ → Bool) (xs ys us vs : List ℕ)
    → sel_l (map (top (hbits w)) (zip2 (λ a b. cond (t a b) (2 ^ bits w - 1) 0) xs ys)) us vs ≡ sel_l (zip2 t xs ys) us vs
chosen_lanes w t xs ys us vs = ap (λ ms. sel_l ms us vs) (tops_compared w t xs ys)

pub shorter : {A B C : Type 0} (t : A → B → C) (xs : List A) (ys : List B) → length (zip2 t xs ys) ≤ length xs
shorter t [] ys = omega arith
shorter t (x ∷ xs) [] = omega arith
shorter t (x ∷ xs) (y ∷ ys) = let rest = shorter t xs ys in omega arith

-- how many lanes of a comparison hold, by the bits of its mask
pub counted_lanes : (w : Width) (t : ℕ → ℕ → Bool) (xs ys : List ℕ) → length xs ≤ 16
    → count_ones (mask_l (map (top (hbits w)) (zip2 (λ a b. cond (t a b) (2 ^ bits w - 1) 0) xs ys)) % 2 ^ 64) ≡ count_by (λ b. b) (zip2 t xs ys)
counted_lanes w t xs ys few =
    let ms = zip2 t xs ys in
    let short = shorter t xs ys in
    let fits : length ms ≤ 64 = omega arith in
    ap (λ ts. count_ones (mask_l ts % 2 ^ 64)) (tops_compared w t xs ys)
    ∙ (ap count_ones (mask_l-mod ms 64 fits ∙ ap mask_l (sym (map-id ms))) ∙ ones-mask_l (λ b. b) ms)

-- The least and the greatest of lists, block by block.
use Rattle.std.proofs.Common.{◌≡◌, ℕ, ◌+◌, ◌<◌, get_or, List, [], ◌∷◌, length, map, take, drop, min, max, arith, refl, ap, sym, ◌∙◌}
use Rattle.std.specs.List.{fold}
use Rattle.std.proofs.Common.{ap₂, Some, slice_get}
use Rattle.std.proofs.Math.Seq.{take-add}
use Rattle.std.proofs.lemmas.List.{map_more, take-append-drop}
use Rattle.std.proofs.lemmas.List.Sums.{fold-append}
use Rattle.std.proofs.Common.{cond, nat_lt}
use Rattle.std.proofs.lemmas.Bool.Decides.{nat_tests}
use Rattle.std.specs.Simd.Lanes.{sel_l, zip2}
use Rattle.stamp_lanes.specs.Plain.{extremes}

lesser : (x y : ℕ) → cond (nat_lt x y) x y ≡ min x y
lesser x y = grind (arith, nat_tests)

greater : (x y : ℕ) → cond (nat_lt x y) y x ≡ max x y
greater x y = grind (arith, nat_tests)

chosen_least : (xs ys : List ℕ) → sel_l (zip2 nat_lt xs ys) xs ys ≡ zip2 min xs ys
chosen_least [] ys = refl
chosen_least (x ∷ xs) [] = refl
chosen_least (x ∷ xs) (y ∷ ys) = ap₂ (λ z zs. z ∷ zs) (lesser x y) (chosen_least xs ys)

chosen_greatest : (xs ys : List ℕ) → sel_l (zip2 nat_lt xs ys) ys xs ≡ zip2 max xs ys
chosen_greatest [] ys = refl
chosen_greatest (x ∷ xs) [] = refl
chosen_greatest (x ∷ xs) (y ∷ ys) = ap₂ (λ z zs. z ∷ zs) (greater x y) (chosen_greatest xs ys)

-- the lesser of each two lanes, and the greater
pub lesser_lanes : (xs ys zs : List ℕ) → zs ≡ sel_l (zip2 nat_lt xs ys) xs ys → zs ≡ zip2 min xs ys
lesser_lanes xs ys zs is = is ∙ chosen_least xs ys

pub greater_lanes : (xs ys zs : List ℕ) → zs ≡ sel_l (zip2 nat_lt xs ys) ys xs → zs ≡ zip2 max xs ys
greater_lanes xs ys zs is = is ∙ chosen_greatest xs ys

min_pull : (xs : List ℕ) (a b : ℕ) → fold min (min a b) xs ≡ min (fold min a xs) b
min_pull [] a b = refl
min_pull (x ∷ xs) a b = let turn : min (min a b) x ≡ min (min a x) b = omega arith in ap (λ k. fold min k xs) turn ∙ min_pull xs (min a x) b

max_pull : (xs : List ℕ) (a b : ℕ) → fold max (max a b) xs ≡ max (fold max a xs) b
max_pull [] a b = refl
max_pull (x ∷ xs) a b = let turn : max (max a b) x ≡ max (max a x) b = omega arith in ap (λ k. fold max k xs) turn ∙ max_pull xs (max a x) b

-- a fold of one element more
pub fold_one_more : {X : Type 0} (f : ℕ → ℕ → ℕ) (g : X → ℕ) (xs : List X) (k : ℕ) (x : X) (a before now : ℕ) → k < length xs → x ≡ get_or xs k x → before ≡ fold f a (map g (take k xs)) → now ≡ f before (g x)
    → now ≡ fold f a (map g (take (k + 1) xs))
fold_one_more f g xs k x a before now within item is made =
    made ∙ (ap₂ f is (ap g item) ∙ (sym (fold-append f a (map g (take k xs)) (g (get_or xs k x) ∷ [])) ∙ ap (fold f a) (sym (map_more g xs k x within))))

-- the least of two blocks, lane by lane, has the least of both
pub min_lanes : (xs ys : List ℕ) (a : ℕ) → length xs ≡ length ys → fold min a (zip2 min xs ys) ≡ fold min (fold min a xs) ys
min_lanes [] [] a e = refl
min_lanes [] (y ∷ ys) a e = absurd (omega arith)
min_lanes (x ∷ xs) [] a e = absurd (omega arith)
min_lanes (x ∷ xs) (y ∷ ys) a e =
    let same : length xs ≡ length ys = omega arith in
    let turn : min a (min x y) ≡ min (min a x) y = omega arith in
    ap (λ k. fold min k (zip2 min xs ys)) turn
    ∙ (min_lanes xs ys (min (min a x) y) same ∙ ap (λ k. fold min k ys) (min_pull xs (min a x) y))

pub max_lanes : (xs ys : List ℕ) (a : ℕ) → length xs ≡ length ys → fold max a (zip2 max xs ys) ≡ fold max (fold max a xs) ys
max_lanes [] [] a e = refl
max_lanes [] (y ∷ ys) a e = absurd (omega arith)
max_lanes (x ∷ xs) [] a e = absurd (omega arith)
max_lanes (x ∷ xs) (y ∷ ys) a e =
    let same : length xs ≡ length ys = omega arith in
    let turn : max a (max x y) ≡ max (max a x) y = omega arith in
    ap (λ k. fold max k (zip2 max xs ys)) turn
    ∙ (max_lanes xs ys (max (max a x) y) same ∙ ap (λ k. fold max k ys) (max_pull xs (max a x) y))

-- one more block
pub min_more : (xs lanes block : List ℕ) (at a : ℕ) → ((b : ℕ) → fold min b lanes ≡ fold min b (take at xs)) → length lanes ≡ length block → block ≡ take 16 (drop at xs)
    → fold min a (zip2 min lanes block) ≡ fold min a (take (at + 16) xs)
min_more xs lanes block at a before same is =
    min_lanes lanes block a same
    ∙ (ap₂ (λ b ys. fold min b ys) (before a) is
    ∙ (sym (fold-append min a (take at xs) (take 16 (drop at xs))) ∙ ap (fold min a) (sym (take-add at 16 xs))))

pub max_more : (xs lanes block : List ℕ) (at a : ℕ) → ((b : ℕ) → fold max b lanes ≡ fold max b (take at xs)) → length lanes ≡ length block → block ≡ take 16 (drop at xs)
    → fold max a (zip2 max lanes block) ≡ fold max a (take (at + 16) xs)
max_more xs lanes block at a before same is =
    max_lanes lanes block a same
    ∙ (ap₂ (λ b ys. fold max b ys) (before a) is
    ∙ (sym (fold-append max a (take at xs) (take 16 (drop at xs))) ∙ ap (fold max a) (sym (take-add at 16 xs))))

extremes_of : (y : ℕ) (ys : List ℕ) → extremes (y ∷ ys) ≡ Some (fold min y (y ∷ ys), fold max y (y ∷ ys))
extremes_of y ys =
    let low : y ≡ min y y = omega arith in
    let high : y ≡ max y y = omega arith in
    ap₂ (λ (a b : ℕ). Some (a, b)) (ap (λ k. fold min k ys) low) (ap (λ k. fold max k ys) high)

-- the first of the stamps is one of them
pub extremes_first : {X : Type 0} (f : X → ℕ) (s : List X) (x : X) → Some x ≡ slice_get s 0 → extremes (map f s) ≡ Some (fold min (f x) (map f s), fold max (f x) (map f s))
extremes_first f [] x e = cc
extremes_first f (y ∷ ys) x e = let same : x ≡ y = cc in rw same (extremes_of (f y) (map f ys))

pub min_whole : (xs lanes : List ℕ) (at first least last : ℕ) → least ≡ fold min first lanes → ((b : ℕ) → fold min b lanes ≡ fold min b (take at xs)) → last ≡ fold min least (drop at xs) → last ≡ fold min first xs
min_whole xs lanes at first least last e before f =
    f ∙ (ap (λ b. fold min b (drop at xs)) (e ∙ before first) ∙ (sym (fold-append min first (take at xs) (drop at xs)) ∙ ap (fold min first) (take-append-drop at xs)))

pub max_whole : (xs lanes : List ℕ) (at first greatest last : ℕ) → greatest ≡ fold max first lanes → ((b : ℕ) → fold max b lanes ≡ fold max b (take at xs)) → last ≡ fold max greatest (drop at xs) → last ≡ fold max first xs
max_whole xs lanes at first greatest last e before f =
    f ∙ (ap (λ b. fold max b (drop at xs)) (e ∙ before first) ∙ (sym (fold-append max first (take at xs) (drop at xs)) ∙ ap (fold max first) (take-append-drop at xs)))

-- Classes among starts that do not fall.
use Rattle.std.proofs.Common.{◌≡◌, ℕ, zero, suc, ◌+◌, ◌-◌, ◌<◌, ◌≤◌, Bool, true, false, cond, leb, List, [], ◌∷◌, ◌++◌, length, map, get_or, take, drop, min, max, Some, refl, sym, ap, ◌∙◌, inl, inr, arith}
use Rattle.std.specs.Prelude.{slice_index, fold}
use Rattle.std.specs.List.Sorted.{IsPartitionPoint}
use Rattle.std.proofs.lemmas.Bool.{lt-leb, le-leb, leb-true, leb-false, cases_lt}
use Rattle.std.proofs.lemmas.List.{get_or-map, length-map, length-take-le, length-drop, get_or-take, get_or-drop, take-append-drop}
use Rattle.std.proofs.lemmas.List.Sums.{sum_by-append}
use Rattle.stamp_lanes.specs.Plain.{class_of, extremes}
use Rattle.stamp_renumber.specs.Classes.{class}
use Rattle.stamp_renumber.proofs.Order.{class-cons}

-- all are at most s
pub class-all : (xs : List ℕ) (s : ℕ) → ((i : ℕ) → i < length xs → slice_index xs i ≤ s) → class xs s ≡ length xs
class-all [] s low = refl
class-all (x ∷ xs) s low =
    let one : ◌≡◌ {A = ℕ} (cond (leb x s) 1 0) 1 = ap (λ (b : Bool). cond {A = ℕ} b 1 0) (le-leb x s (low 0 (omega arith))) in
    omega (arith, one, class-cons x xs s, class-all xs s (λ i lt. low (suc i) (omega (arith, lt))))

-- none is
pub class-none : (xs : List ℕ) (s : ℕ) → ((i : ℕ) → i < length xs → s < slice_index xs i) → class xs s ≡ 0
class-none [] s high = refl
class-none (x ∷ xs) s high =
    let one : ◌≡◌ {A = ℕ} (cond (leb x s) 1 0) 0 = ap (λ (b : Bool). cond {A = ℕ} b 1 0) (lt-leb x s (high 0 (omega arith))) in
    omega (arith, one, class-cons x xs s, class-none xs s (λ i lt. high (suc i) (omega (arith, lt))))

class-append : (xs ys : List ℕ) (s : ℕ) → class (xs ++ ys) s ≡ class xs s + class ys s
class-append xs ys s = sum_by-append (λ x. cond (leb x s) 1 0) xs ys

class-split : (n : ℕ) (xs : List ℕ) (s : ℕ) → class xs s ≡ class (take n xs) s + class (drop n xs) s
class-split n xs s = ap (λ ys. class ys s) (sym (take-append-drop n xs)) ∙ class-append (take n xs) (drop n xs) s

-- the places from which on the starts are above s
pub class_at : (xs : List ℕ) (n s : ℕ) → n ≤ length xs → ((i : ℕ) → i < n → slice_index xs i ≤ s) → ((i : ℕ) → n ≤ i → i < length xs → s < slice_index xs i) → class xs s ≡ n
class_at xs n s within low high =
    let long = length-take-le n xs within in
    let rest = length-drop n xs in
    let front : class (take n xs) s ≡ n = class-all (take n xs) s (λ i lt. rw (get_or-take n xs i 0 (omega (arith, lt, long))) (low i (omega (arith, lt, long)))) ∙ long in
    let back : class (drop n xs) s ≡ 0 = class-none (drop n xs) s (λ i lt. rw (get_or-drop n xs i 0) (high (n + i) (omega arith) (omega (arith, lt, rest)))) in
    omega (arith, front, back, class-split n xs s)

-- only a part of the starts decides
pub class_between : (xs : List ℕ) (low high s : ℕ) → low ≤ high → high ≤ length xs → ((i : ℕ) → i < low → slice_index xs i ≤ s) → ((i : ℕ) → high ≤ i → i < length xs → s < slice_index xs i)
    → class_of (take (high - low) (drop low xs)) low s ≡ class xs s
class_between xs low high s order within below above =
    let long = length-take-le low xs (omega arith) in
    let rest = length-drop low xs in
    let far = length-drop (high - low) (drop low xs) in
    let front : class (take low xs) s ≡ low = class-all (take low xs) s (λ i lt. rw (get_or-take low xs i 0 (omega (arith, lt, long))) (below i (omega (arith, lt, long)))) ∙ long in
    let back : class (drop (high - low) (drop low xs)) s ≡ 0 =
    class-none (drop (high - low) (drop low xs)) s (λ i lt. rw (get_or-drop (high - low) (drop low xs) i 0, get_or-drop low xs (high - low + i) 0) (above (low + (high - low + i)) (omega arith) (omega (arith, lt, rest, far))))
    in
    omega (arith, front, back, class-split low xs s, class-split (high - low) (drop low xs) s)

-- ---- the least and the greatest
least_all : (xs : List ℕ) (a i : ℕ) → (fold min a xs ≤ a) × (i < length xs → fold min a xs ≤ slice_index xs i)
least_all [] a i = (omega arith, λ lt. absurd (omega (arith, lt)))
least_all (x ∷ xs) a zero = let all = least_all xs (min a x) zero in (omega (arith, all.0), λ lt. omega (arith, all.0))
least_all (x ∷ xs) a (suc i) = let all = least_all xs (min a x) i in (omega (arith, all.0), λ lt. all.1 (omega (arith, lt)))

greatest_all : (xs : List ℕ) (a i : ℕ) → (a ≤ fold max a xs) × (i < length xs → slice_index xs i ≤ fold max a xs)
greatest_all [] a i = (omega arith, λ lt. absurd (omega (arith, lt)))
greatest_all (x ∷ xs) a zero = let all = greatest_all xs (max a x) zero in (omega (arith, all.0), λ lt. omega (arith, all.0))
greatest_all (x ∷ xs) a (suc i) = let all = greatest_all xs (max a x) i in (omega (arith, all.0), λ lt. all.1 (omega (arith, lt)))

-- each stamp lies between them
pub record Spans (xs : List ℕ) (least greatest : ℕ) : Type 0 where
  pub order : least ≤ greatest
  pub low : (i : ℕ) → i < length xs → least ≤ slice_index xs i
  pub high : (i : ℕ) → i < length xs → slice_index xs i ≤ greatest

pub spans : (xs : List ℕ) (least greatest : ℕ) → Some (least, greatest) ≡ extremes xs → Spans xs least greatest
spans [] least greatest is = absurd (cc)
spans (x ∷ xs) least greatest is =
    let both : ◌≡◌ {A = ℕ × ℕ} (least, greatest) (fold min x xs, fold max x xs) = cc in
    let a : least ≡ fold min x xs = ap (λ p. p.0) both in
    let b : greatest ≡ fold max x xs = ap (λ p. p.1) both in
    rw (a, b) (record {
      order = let l = least_all xs x 0 in let g = greatest_all xs x 0 in omega (arith, l.0, g.0);
      low = below;
      high = above;
    })
  where
    below : (i : ℕ) → i < length (x ∷ xs) → fold min x xs ≤ slice_index (x ∷ xs) i
    below zero lt = (least_all xs x 0).0
    below (suc i) lt = (least_all xs x i).1 (omega (arith, lt))

    above : (i : ℕ) → i < length (x ∷ xs) → slice_index (x ∷ xs) i ≤ fold max x xs
    above zero lt = (greatest_all xs x 0).0
    above (suc i) lt = (greatest_all xs x i).1 (omega (arith, lt))

pub same_at : (f g : ℕ → ℕ) (xs : List ℕ) → ((i : ℕ) → i < length xs → f (slice_index xs i) ≡ g (slice_index xs i)) → map f xs ≡ map g xs
same_at f g [] same = refl
same_at f g (x ∷ xs) same = ap (λ y. y ∷ map f xs) (same 0 (omega arith)) ∙ ap (λ ys. g x ∷ ys) (same_at f g xs (λ i lt. same (suc i) (omega (arith, lt))))

-- the classes of a row, by the part of the starts that lies between its least and its greatest stamp
pub row_classes : (xs starts : List ℕ) (least greatest low high : ℕ) → Some (least, greatest) ≡ extremes xs → low ≤ high → high ≤ length starts
    → ((i : ℕ) → i < low → slice_index starts i ≤ least) → ((i : ℕ) → high ≤ i → i < length starts → greatest < slice_index starts i)
    → map (class_of (take (high - low) (drop low starts)) low) xs ≡ map (class starts) xs
row_classes xs starts least greatest low high is order within below above =
    let s = spans xs least greatest is in
    same_at (class_of (take (high - low) (drop low starts)) low) (class starts) xs (λ i lt.
    let l = s.low i lt in
    let h = s.high i lt in
    class_between starts low high (slice_index xs i) order within (λ j b. let at = below j b in omega (arith, at, l)) (λ j a b. let at = above j a b in omega (arith, at, h)))

-- where the starts that are at most s end
pub record Parts (xs : List ℕ) (n s : ℕ) : Type 0 where
  pub low : (i : ℕ) → i < n → slice_index xs i ≤ s
  pub high : (i : ℕ) → n ≤ i → i < length xs → s < slice_index xs i

pub parted : {X : Type 0} (f : X → ℕ) (xs : List X) (n s : ℕ) → n ≤ length xs → IsPartitionPoint (λ y. leb (f y) s ≡ true) (λ y. leb (f y) s ≡ false) xs n → Parts (map f xs) n s
parted f [] n s within point = record { low = λ i lt. absurd (omega (arith, lt, within)); high = λ i low lt. absurd (omega (arith, lt)) }
parted f (x ∷ xs) n s within point = record {
  low = λ i lt. let here : i < length (x ∷ xs) = omega (arith, lt, within) in rw (get_or-map f (x ∷ xs) i x 0 here) (leb-true (f (get_or (x ∷ xs) i x)) s (point.0 i x (omega arith) lt));
  high = λ i low lt. let here : i < length (x ∷ xs) = omega (arith, lt, length-map (x ∷ xs) f) in rw (get_or-map f (x ∷ xs) i x 0 here) (leb-false (f (get_or (x ∷ xs) i x)) s (point.1 i x low here));
}

-- the parts of a row's least and of its greatest stamp
pub parts_in_order : (xs starts : List ℕ) (least greatest low high : ℕ) → Some (least, greatest) ≡ extremes xs → low ≤ length starts → Parts starts low least → Parts starts high greatest → low ≤ high
parts_in_order xs starts least greatest low high is within l h = elim (cases_lt high low) [
  | inl under ↦
      let order = (spans xs least greatest is).order in
      let up = h.high high (omega arith) (omega (arith, under, within)) in
      let down = l.low high under in
      absurd (omega (arith, order, up, down))
  | inr over ↦ over
]

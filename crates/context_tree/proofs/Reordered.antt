-- The points of activations do not depend on the order in which these are told, so they may be told part by part.
use Rattle.std.proofs.Common.{◌≡◌, ℕ, suc, ◌<◌, min, max, Bool, true, false, cond, List, [], ◌∷◌, ◌++◌, length, get_or, map, sum, refl, sym, ap, ap₂, ◌∙◌, arith, append_assoc, length-append}
use Rattle.std.specs.Prelude.{◌==◌, ◌||◌, Some}
use Rattle.std.specs.List.{All, filter, flat_map, fold, list_any, sum_by}
use Rattle.std.proofs.lemmas.List.{map-append}
use Rattle.std.proofs.lemmas.List.Elements.{All-head, All-tail, filter-append}
use Rattle.std.proofs.lemmas.List.Sums.{sum_by-append}
use Rattle.trace_model.specs.declared.slow_profile.Done.{Done}
use Rattle.cost_points.specs.declared.point.Point.{Point}
use Rattle.cost_points.specs.declared.point.Split.{Split}
use Rattle.cost_points.specs.Contents.{contents_of}
use Rattle.cost_points.specs.Keys.{grouped, insert_rising, rising}
use Rattle.cost_points.specs.Points.{Routine, greatest_of, least_of, point_of, routine_of, split_of}
use Rattle.cost_points.proofs.Rising.{insert_comm}
use Rattle.context_tree.specs.Points.{points_from}

-- ---- two neighbours change places
rising_swap : (ks : List ℕ) (x y : ℕ) (ls : List ℕ) → rising (ks ++ x ∷ y ∷ ls) ≡ rising (ks ++ y ∷ x ∷ ls)
rising_swap [] x y ls = insert_comm x y (rising ls)
rising_swap (k ∷ ks) x y ls = ap (insert_rising k) (rising_swap ks x y ls)

map_all : {A B : Type 0} (f g : A → B) (ks : List A) → ((k : A) → f k ≡ g k) → map f ks ≡ map g ks
map_all f g [] same = refl
map_all f g (k ∷ ks) same = ap₂ (λ b bs. b ∷ bs) (same k) (map_all f g ks same)

module _ {A B : Type 0} (key : A → ℕ) (make : ℕ → List A → B) (free : (k : ℕ) (xs : List A) (x y : A) (ys : List A) → make k (xs ++ x ∷ y ∷ ys) ≡ make k (xs ++ y ∷ x ∷ ys)) where
  made_swap : (k : ℕ) (xs : List A) (x y : A) (ys : List A) → make k (filter (λ a. key a == k) (xs ++ x ∷ y ∷ ys)) ≡ make k (filter (λ a. key a == k) (xs ++ y ∷ x ∷ ys))
  made_swap k xs x y ys =
      ap (make k) (filter-append (λ a. key a == k) xs (x ∷ y ∷ ys)) ∙ by (key x == k) (key y == k) ∙ sym (ap (make k) (filter-append (λ a. key a == k) xs (y ∷ x ∷ ys)))
    where
      front : List A
      front = filter (λ a. key a == k) xs

      back : List A
      back = filter (λ a. key a == k) ys

      by : (a b : Bool) → make k (filter (λ a. key a == k) xs ++ cond a (x ∷ cond b (y ∷ filter (λ a. key a == k) ys) (filter (λ a. key a == k) ys)) (cond b (y ∷ filter (λ a. key a == k) ys) (filter (λ a. key a == k) ys)))
          ≡ make k (filter (λ a. key a == k) xs ++ cond b (y ∷ cond a (x ∷ filter (λ a. key a == k) ys) (filter (λ a. key a == k) ys)) (cond a (x ∷ filter (λ a. key a == k) ys) (filter (λ a. key a == k) ys)))
      by true true = free k (filter (λ a. key a == k) xs) x y (filter (λ a. key a == k) ys)
      by true false = refl
      by false true = refl
      by false false = refl

  grouped_swap : (xs : List A) (x y : A) (ys : List A) → grouped key make (xs ++ x ∷ y ∷ ys) ≡ grouped key make (xs ++ y ∷ x ∷ ys)
  unfolding grouped
  grouped_swap xs x y ys =
      map_all (λ k. make k (filter (λ a. key a == k) (xs ++ x ∷ y ∷ ys))) (λ k. make k (filter (λ a. key a == k) (xs ++ y ∷ x ∷ ys))) (rising (map key (xs ++ x ∷ y ∷ ys))) (λ k. made_swap k xs x y ys)
      ∙ ap (map (λ k. make k (filter (λ a. key a == k) (xs ++ y ∷ x ∷ ys))))
      (ap rising (map-append key xs (x ∷ y ∷ ys)) ∙ rising_swap (map key xs) (key x) (key y) (map key ys) ∙ sym (ap rising (map-append key xs (y ∷ x ∷ ys))))

fold-append : (f : ℕ → ℕ → ℕ) (a : ℕ) (xs ys : List ℕ) → fold f a (xs ++ ys) ≡ fold f (fold f a xs) ys
fold-append f a [] ys = refl
fold-append f a (x ∷ xs) ys = fold-append f (f a x) xs ys

least_swap : (xs : List ℕ) (x y : ℕ) (ys : List ℕ) → least_of (xs ++ x ∷ y ∷ ys) ≡ least_of (xs ++ y ∷ x ∷ ys)
least_swap [] x y ys = ap (λ m. fold min m ys) (omega arith)
least_swap (a ∷ xs) x y ys = fold-append min a xs (x ∷ y ∷ ys) ∙ ap (λ m. fold min m ys) (omega arith) ∙ sym (fold-append min a xs (y ∷ x ∷ ys))

greatest_swap : (xs : List ℕ) (x y : ℕ) (ys : List ℕ) → greatest_of (xs ++ x ∷ y ∷ ys) ≡ greatest_of (xs ++ y ∷ x ∷ ys)
greatest_swap [] x y ys = ap (λ m. fold max m ys) (omega arith)
greatest_swap (a ∷ xs) x y ys = fold-append max a xs (x ∷ y ∷ ys) ∙ ap (λ m. fold max m ys) (omega arith) ∙ sym (fold-append max a xs (y ∷ x ∷ ys))

sum_swap : {A : Type 0} (f : A → ℕ) (xs : List A) (x y : A) (ys : List A) → sum_by f (xs ++ x ∷ y ∷ ys) ≡ sum_by f (xs ++ y ∷ x ∷ ys)
sum_swap f xs x y ys =
    let one = sum_by-append f xs (x ∷ y ∷ ys) in
    let two = sum_by-append f xs (y ∷ x ∷ ys) in
    let three = sum_by-append f (x ∷ y ∷ []) ys in
    let four = sum_by-append f (y ∷ x ∷ []) ys in
    grind (arith, one, two, three, four)

length_swap : {A : Type 0} (xs : List A) (x y : A) (ys : List A) → length (xs ++ x ∷ y ∷ ys) ≡ length (xs ++ y ∷ x ∷ ys)
length_swap xs x y ys = omega (arith, length-append xs (x ∷ y ∷ ys), length-append xs (y ∷ x ∷ ys))

abbrev split_from : ℕ → ℕ → ℕ → ℕ → Split
split_from plain thread kernel bare = record { plain = plain; thread = thread; kernel = kernel; bare = bare }

split_swap : (xs : List Done) (x y : Done) (ys : List Done) → split_of (xs ++ x ∷ y ∷ ys) ≡ split_of (xs ++ y ∷ x ∷ ys)
split_swap xs x y ys =
    let a = sum_swap (λ (d : Done). d.plain) xs x y ys in
    let b = sum_swap (λ (d : Done). d.thread) xs x y ys in
    let c = sum_swap (λ (d : Done). d.kernel) xs x y ys in
    let d = sum_swap (λ (d : Done). d.bare) xs x y ys in
    ap₂ (λ n m. split_from n m (sum_by (λ (d : Done). d.kernel) (xs ++ x ∷ y ∷ ys)) (sum_by (λ (d : Done). d.bare) (xs ++ x ∷ y ∷ ys))) a b
    ∙ ap₂ (λ n m. split_from (sum_by (λ (d : Done). d.plain) (xs ++ y ∷ x ∷ ys)) (sum_by (λ (d : Done). d.thread) (xs ++ y ∷ x ∷ ys)) n m) c d

abbrev point_from : ℕ → ℕ → ℕ → ℕ → ℕ → Split → Point
point_from size calls least most all split = record { size = size; calls = calls; least = least; most = most; sum = all; split = Some split }

-- the point of these costs and parts
abbrev point_with : ℕ → List ℕ → Split → Point
point_with size costs split = point_from size (length costs) (least_of costs) (greatest_of costs) (sum costs) split

costs_swap : (size : ℕ) (xs : List ℕ) (x y : ℕ) (ys : List ℕ) (split : Split) → point_with size (xs ++ x ∷ y ∷ ys) split ≡ point_with size (xs ++ y ∷ x ∷ ys) split
costs_swap size xs x y ys split =
    let old = xs ++ x ∷ y ∷ ys in
    let new = xs ++ y ∷ x ∷ ys in
    ap₂ (λ n m. point_from size n m (greatest_of (xs ++ x ∷ y ∷ ys)) (sum (xs ++ x ∷ y ∷ ys)) split) (length_swap xs x y ys) (least_swap xs x y ys)
    ∙ ap₂ (λ n m. point_from size (length (xs ++ y ∷ x ∷ ys)) (least_of (xs ++ y ∷ x ∷ ys)) n m split) (greatest_swap xs x y ys) (sum_swap (λ n. n) xs x y ys)

point_swap : (size : ℕ) (xs : List Done) (x y : Done) (ys : List Done) → point_of size (xs ++ x ∷ y ∷ ys) ≡ point_of size (xs ++ y ∷ x ∷ ys)
point_swap size xs x y ys =
    ap₂ (point_with size) (map-append (λ (d : Done). d.cost) xs (x ∷ y ∷ ys)) (split_swap xs x y ys)
    ∙ costs_swap size (map (λ (d : Done). d.cost) xs) x.cost y.cost (map (λ (d : Done). d.cost) ys) (split_of (xs ++ y ∷ x ∷ ys))
    ∙ ap (λ costs. point_with size costs (split_of (xs ++ y ∷ x ∷ ys))) (sym (map-append (λ (d : Done). d.cost) xs (y ∷ x ∷ ys)))

sized_swap : (xs : List Done) (x y : Done) (ys : List Done) → points_from (xs ++ x ∷ y ∷ ys) ≡ points_from (xs ++ y ∷ x ∷ ys)
sized_swap xs x y ys = grouped_swap (λ (d : Done). d.size) point_of point_swap xs x y ys

routine_swap : (entry : ℕ) (xs : List Done) (x y : Done) (ys : List Done) → routine_of entry (xs ++ x ∷ y ∷ ys) ≡ routine_of entry (xs ++ y ∷ x ∷ ys)
routine_swap entry xs x y ys = ap (λ (ps : List Point). record { entry = entry; points = ps }) (sized_swap xs x y ys)

contents_swap : (xs : List Done) (x y : Done) (ys : List Done) → contents_of (xs ++ x ∷ y ∷ ys) ≡ contents_of (xs ++ y ∷ x ∷ ys)
contents_swap xs x y ys =
    ap₂ (λ (n : ℕ) (rs : List Routine). record { members = n; routines = rs }) (length_swap xs x y ys) (grouped_swap (λ (d : Done). d.entry) routine_of routine_swap xs x y ys)

-- ---- lists that come to the same, among whatever others
pub record AreAlike (xs ys : List Done) : Type 0 where
  pub among : (front back : List Done) → contents_of (front ++ (xs ++ back)) ≡ contents_of (front ++ (ys ++ back))
  pub sizes : (front back : List Done) → points_from (front ++ (xs ++ back)) ≡ points_from (front ++ (ys ++ back))

alike : (xs : List Done) → AreAlike xs xs
alike xs = record { among = λ front back. refl; sizes = λ front back. refl }

alike_same : (xs ys : List Done) → xs ≡ ys → AreAlike xs ys
alike_same xs ys is = record {
  among = λ front back. ap (λ zs. contents_of (front ++ (zs ++ back))) is;
  sizes = λ front back. ap (λ zs. points_from (front ++ (zs ++ back))) is;
}

alike_then : (xs ys zs : List Done) → AreAlike xs ys → AreAlike ys zs → AreAlike xs zs
alike_then xs ys zs one two = record {
  among = λ front back. one.among front back ∙ two.among front back;
  sizes = λ front back. one.sizes front back ∙ two.sizes front back;
}

alike_after : (us xs ys : List Done) → AreAlike xs ys → AreAlike (us ++ xs) (us ++ ys)
alike_after us xs ys are = record {
  among = λ front back.
      ap (λ zs. contents_of (front ++ zs)) (append_assoc us xs back) ∙ ap contents_of (sym (append_assoc front us (xs ++ back)))
      ∙ are.among (front ++ us) back
      ∙ ap contents_of (append_assoc front us (ys ++ back)) ∙ ap (λ zs. contents_of (front ++ zs)) (sym (append_assoc us ys back));
  sizes = λ front back.
      ap (λ zs. points_from (front ++ zs)) (append_assoc us xs back) ∙ ap points_from (sym (append_assoc front us (xs ++ back)))
      ∙ are.sizes (front ++ us) back
      ∙ ap points_from (append_assoc front us (ys ++ back)) ∙ ap (λ zs. points_from (front ++ zs)) (sym (append_assoc us ys back));
}

alike_swap : (x y : Done) (zs : List Done) → AreAlike (x ∷ y ∷ zs) (y ∷ x ∷ zs)
alike_swap x y zs = record { among = λ front back. contents_swap front x y (zs ++ back); sizes = λ front back. sized_swap front x y (zs ++ back) }

-- one of them comes to the front
to_front : (us : List Done) (x : Done) (xs : List Done) → AreAlike (us ++ x ∷ xs) (x ∷ (us ++ xs))
to_front [] x xs = alike (x ∷ xs)
to_front (u ∷ us) x xs =
    alike_then (u ∷ (us ++ x ∷ xs)) (u ∷ x ∷ (us ++ xs)) (x ∷ u ∷ (us ++ xs)) (alike_after (u ∷ []) (us ++ x ∷ xs) (x ∷ (us ++ xs)) (to_front us x xs)) (alike_swap u x (us ++ xs))

-- ---- part by part
-- The test is passed by just one of them.
pub record IsOfOne {K : Type 0} (q : K → Bool) (ks : List K) : Type 0 where
  pub some : list_any q ks ≡ true
  pub once : (i j : ℕ) (d : K) → i < j → j < length ks → q (get_or ks i d) ≡ true → q (get_or ks j d) ≡ true → ⊥

module _ {K : Type 0} (q : K → Bool) (f g : K → List Done) (x : Done) (parts : (k : K) → g k ≡ cond (q k) (x ∷ f k) (f k)) where
  none_more : (ks : List K) → ((j : ℕ) (d : K) → j < length ks → q (get_or ks j d) ≡ true → ⊥) → flat_map g ks ≡ flat_map f ks
  none_more [] none = refl
  none_more (k ∷ ks) none =
      ap₂ (λ us vs. us ++ vs) (parts k ∙ by (q k) refl) (none_more ks (λ j d lt is. none (suc j) d (omega (arith, lt)) is))
    where
      by : (b : Bool) → q k ≡ b → cond b (x ∷ f k) (f k) ≡ f k
      by false is = refl
      by true is = absurd (none 0 k (omega arith) is)

  one_more : (ks : List K) → IsOfOne q ks → AreAlike (flat_map g ks) (x ∷ flat_map f ks)
  one_more [] one = absurd (let is = one.some in cc)
  one_more (k ∷ ks) one = by (q k) refl (λ later. one_more ks later)
    where
      by : (b : Bool) → q k ≡ b → (IsOfOne q ks → AreAlike (flat_map g ks) (x ∷ flat_map f ks)) → AreAlike (flat_map g (k ∷ ks)) (x ∷ flat_map f (k ∷ ks))
      by true is rest =
          alike_same (g k ++ flat_map g ks) (x ∷ (f k ++ flat_map f ks))
          (ap₂ (λ us vs. us ++ vs) (parts k ∙ ap (λ b. cond b (x ∷ f k) (f k)) is) (none_more ks (λ j d lt yes. one.once 0 (suc j) d (omega arith) (omega (arith, lt)) is yes)))
      by false is rest =
          let there : list_any q ks ≡ true = sym (ap (λ b. b || list_any q ks) is) ∙ one.some in
          let later : IsOfOne q ks = record { some = there; once = λ i j d less lt yes too. one.once (suc i) (suc j) d (omega (arith, less)) (omega (arith, lt)) yes too } in
          alike_then (g k ++ flat_map g ks) (f k ++ (x ∷ flat_map f ks)) (x ∷ (f k ++ flat_map f ks))
          (alike_then (g k ++ flat_map g ks) (f k ++ flat_map g ks) (f k ++ (x ∷ flat_map f ks))
          (alike_same (g k ++ flat_map g ks) (f k ++ flat_map g ks) (ap (λ us. us ++ flat_map g ks) (parts k ∙ ap (λ b. cond b (x ∷ f k) (f k)) is)))
          (alike_after (f k) (flat_map g ks) (x ∷ flat_map f ks) (rest later)))
          (to_front (f k) x (flat_map f ks))

-- The parts of a list by tests of which each member passes one come to what the list comes to.
module _ {K A : Type 0} (p : K → A → Bool) (value : A → Done) (ks : List K) where
  pub by_parts : (xs : List A) → All (λ x. IsOfOne (λ k. p k x) ks) xs → AreAlike (flat_map (λ k. map value (filter (p k) xs)) ks) (map value xs)
  by_parts [] each = alike_same (flat_map (λ k. []) ks) [] (nothing ks)
    where
      nothing : (ks : List K) → flat_map {X = K} {A = Done} (λ k. []) ks ≡ []
      nothing [] = refl
      nothing (k ∷ ks) = nothing ks
  by_parts (x ∷ xs) each =
      alike_then (flat_map (λ k. map value (filter (p k) (x ∷ xs))) ks) (value x ∷ flat_map (λ k. map value (filter (p k) xs)) ks) (value x ∷ map value xs)
      (one_more (λ k. p k x) (λ k. map value (filter (p k) xs)) (λ k. map value (filter (p k) (x ∷ xs))) (value x) (λ k. part (p k x) (filter (p k) xs)) ks (All-head (λ x. IsOfOne (λ k. p k x) ks) x xs each))
      (alike_after (value x ∷ []) (flat_map (λ k. map value (filter (p k) xs)) ks) (map value xs) (by_parts xs (All-tail (λ x. IsOfOne (λ k. p k x) ks) x xs each)))
    where
      part : (b : Bool) (us : List A) → map value (cond b (x ∷ us) us) ≡ cond b (value x ∷ map value us) (map value us)
      part true us = refl
      part false us = refl

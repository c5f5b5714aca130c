-- A context is found by the number of the one above it and its last entry.
use Rattle.std.proofs.Common.{◌≡◌, ◌≢◌, ℕ, zero, suc, ◌+◌, ◌-◌, ◌<◌, ◌≤◌, Bool, true, false, cond, ◌⊎◌, inl, inr, List, [], ◌∷◌, ◌++◌, length, get_or, reverse, refl, sym, ap, ap₂, ◌∙◌, subst, arith, length-append}
use Rattle.std.specs.Prelude.{◌&&◌, nat_eq, slice_get, Some, Result, Ok, Err, OnOk, IfOk}
use Rattle.std.specs.Cmp.Lexicographic.{pointwise, told_text}
use Rattle.std.specs.List.{list_any, position_or_len}
use Rattle.std.proofs.lemmas.Bool.{cases_lt}
use Rattle.std.proofs.lemmas.Bool.Decides.{nat_tests}
use Rattle.std.proofs.lemmas.List.{get_or_append_left, reverse-append, reverse-reverse}
use Rattle.std.proofs.lemmas.List.Folds.{list_any_at}
use Rattle.std.proofs.lemmas.Option.{get_or_from_slice_get}
use Rattle.std.proofs.Math.Seq.{get_or-append_seam}
use Rattle.std.proofs.lemmas.List.Sums.{passes_at_first}
use Rattle.context_tree.specs.Contexts.{same, with_context}
use Rattle.context_tree.specs.Numbers.{IsNumberOf, NumbersStandFor, numbered, same_place}

-- ---- lists with a last element
abbrev first_or : List ℕ → ℕ
first_or [] = 0
first_or (x ∷ xs) = x

abbrev rest_of : List ℕ → List ℕ
rest_of [] = []
rest_of (x ∷ xs) = xs

turned : (xs : List ℕ) (x : ℕ) → reverse (xs ++ x ∷ []) ≡ x ∷ reverse xs
turned xs x = reverse-append xs (x ∷ [])

pub same_last : (xs ys : List ℕ) (x y : ℕ) → xs ++ x ∷ [] ≡ ys ++ y ∷ [] → x ≡ y
same_last xs ys x y is = ap first_or (sym (turned xs x) ∙ ap reverse is ∙ turned ys y)

pub same_front : (xs ys : List ℕ) (x y : ℕ) → xs ++ x ∷ [] ≡ ys ++ y ∷ [] → xs ≡ ys
same_front xs ys x y is =
    sym (reverse-reverse xs) ∙ ap (λ zs. reverse (rest_of zs)) (sym (turned xs x) ∙ ap reverse is ∙ turned ys y) ∙ reverse-reverse ys

pub not_none : (xs : List ℕ) (x : ℕ) → [] ≢ xs ++ x ∷ []
not_none xs x is = let short : length (xs ++ x ∷ []) ≡ 0 = ap length (sym is) in absurd (omega (arith, short, length-append xs (x ∷ [])))

pub same_told : (xs ys : List ℕ) → xs ≡ ys → pointwise nat_eq xs ys ≡ true
same_told xs ys is = by (pointwise nat_eq xs ys) refl
  where
    by : (b : Bool) → b ≡ pointwise nat_eq xs ys → pointwise nat_eq xs ys ≡ true
    by true told = sym told
    by false told = absurd ((told_text xs ys false told) is)

pub other_told : (xs ys : List ℕ) → xs ≢ ys → pointwise nat_eq xs ys ≡ false
other_told xs ys other = by (pointwise nat_eq xs ys) refl
  where
    by : (b : Bool) → b ≡ pointwise nat_eq xs ys → pointwise nat_eq xs ys ≡ false
    by true told = absurd (other (told_text xs ys true told))
    by false told = sym told

apart_numbers : (m n : ℕ) → nat_eq m n ≡ false → m ≡ n → ⊥
apart_numbers m n test is = absurd (grind (arith, nat_tests, test, is))

-- ---- contexts of numbers
module _ (places : List (ℕ × ℕ)) (contexts : List (List ℕ)) (stands : NumbersStandFor places contexts) where
  some_entry : (i : ℕ) → i < length contexts → [] ≢ get_or contexts i []
  some_entry i inside is = not_none (numbered contexts (get_or places i (0, 0)).0) (get_or places i (0, 0)).1 (is ∙ stands.each i inside)

  -- no two numbers are of one context
  one_number : (m n : ℕ) → m ≤ length contexts → n ≤ length contexts → numbered contexts m ≡ numbered contexts n → m ≡ n
  one_number zero zero m_in n_in is = refl
  one_number zero (suc j) m_in n_in is = absurd (some_entry j (omega (arith, n_in)) is)
  one_number (suc i) zero m_in n_in is = absurd (some_entry i (omega (arith, m_in)) (sym is))
  one_number (suc i) (suc j) m_in n_in is = elim (cases_lt i j) [
    | inl lt ↦ absurd (stands.once i j lt (omega (arith, n_in)) is)
    | inr le ↦ elim (cases_lt j i) [
      | inl lt ↦ absurd (stands.once j i lt (omega (arith, m_in)) (sym is))
      | inr ge ↦ omega (arith, le, ge)
    ]
  ]

  module _ (above entry : ℕ) (inside : above ≤ length contexts) where
    -- a place is that of the context just where both of its parts are
    agrees : (k : ℕ) → k < length contexts →
        pointwise nat_eq (numbered contexts above ++ entry ∷ []) (get_or contexts k []) ≡ (nat_eq above (get_or places k (0, 0)).0 && nat_eq entry (get_or places k (0, 0)).1)
    agrees k lt =
        part_of k (get_or places k (0, 0)).0 (get_or places k (0, 0)).1 (omega (arith, stands.above k lt, lt)) (stands.each k lt)
        (nat_eq above (get_or places k (0, 0)).0) (nat_eq entry (get_or places k (0, 0)).1) refl refl
      where
        part_of : (k up last : ℕ) → up ≤ length contexts → get_or contexts k [] ≡ numbered contexts up ++ last ∷ [] → (a b : Bool) → nat_eq above up ≡ a → nat_eq entry last ≡ b →
            pointwise nat_eq (numbered contexts above ++ entry ∷ []) (get_or contexts k []) ≡ (a && b)
        part_of k up last up_in whole true true is_up is_last =
            let ups : above ≡ up = grind (arith, nat_tests, is_up) in
            let lasts : entry ≡ last = grind (arith, nat_tests, is_last) in
            same_told (numbered contexts above ++ entry ∷ []) (get_or contexts k []) (ap₂ (λ n x. numbered contexts n ++ x ∷ []) ups lasts ∙ sym whole)
        part_of k up last up_in whole true false is_up is_last =
            other_told (numbered contexts above ++ entry ∷ []) (get_or contexts k []) (λ is.
            let lasts : entry ≡ last = same_last (numbered contexts above) (numbered contexts up) entry last (is ∙ whole) in
            apart_numbers entry last is_last lasts)
        part_of k up last up_in whole false b is_up is_last =
            other_told (numbered contexts above ++ entry ∷ []) (get_or contexts k []) (λ is.
            let ups : above ≡ up = one_number above up inside up_in (same_front (numbered contexts above) (numbered contexts up) entry last (is ∙ whole)) in
            apart_numbers above up is_up ups)

-- two tests that agree at each place
module _ {X Y : Type 0} (p : X → Bool) (q : Y → Bool) (d : X) (f : Y) where
  any_agree : (xs : List X) (ys : List Y) → length xs ≡ length ys → ((k : ℕ) → k < length xs → p (get_or xs k d) ≡ q (get_or ys k f)) → list_any p xs ≡ list_any q ys
  any_agree [] [] long agree = refl
  any_agree [] (y ∷ ys) long agree = absurd (omega (arith, long))
  any_agree (x ∷ xs) [] long agree = absurd (omega (arith, long))
  any_agree (x ∷ xs) (y ∷ ys) long agree = grind (arith, agree 0 (omega arith), any_agree xs ys (omega (arith, long)) (λ k lt. agree (suc k) (omega (arith, lt))))

  first_agree : (xs : List X) (ys : List Y) → length xs ≡ length ys → ((k : ℕ) → k < length xs → p (get_or xs k d) ≡ q (get_or ys k f)) → position_or_len p xs ≡ position_or_len q ys
  first_agree [] [] long agree = refl
  first_agree [] (y ∷ ys) long agree = absurd (omega (arith, long))
  first_agree (x ∷ xs) [] long agree = absurd (omega (arith, long))
  first_agree (x ∷ xs) (y ∷ ys) long agree = grind (arith, agree 0 (omega arith), first_agree xs ys (omega (arith, long)) (λ k lt. agree (suc k) (omega (arith, lt))))

module _ {X : Type 0} (p : X → Bool) where
  pub within_any : (xs : List X) → list_any p xs ≡ true → position_or_len p xs < length xs
  within_any [] there = absurd (cc)
  within_any (x ∷ xs) there = grind (arith, within_any xs)

  past_all : (xs : List X) → list_any p xs ≡ false → position_or_len p xs ≡ length xs
  past_all [] none = refl
  past_all (x ∷ xs) none = grind (arith, past_all xs)

-- ---- after a context was looked up or added
module _ (places : List (ℕ × ℕ)) (contexts : List (List ℕ)) (stands : NumbersStandFor places contexts) (above entry : ℕ) (inside : above ≤ length contexts) where
  abbrev key : ℕ × ℕ
  key = (above, entry)

  abbrev wanted : List ℕ
  wanted = numbered contexts above ++ entry ∷ []

  tests_agree : (k : ℕ) → k < length contexts → pointwise nat_eq (numbered contexts above ++ entry ∷ []) (get_or contexts k []) ≡ same_place (above, entry) (get_or places k (0, 0))
  tests_agree k lt = agrees places contexts stands above entry inside k lt

  pub any_is : list_any (same (numbered contexts above ++ entry ∷ [])) contexts ≡ list_any (same_place (above, entry)) places
  any_is = any_agree (same wanted) (same_place key) [] (0, 0) contexts places (sym stands.long) tests_agree

  first_is : position_or_len (same wanted) contexts ≡ position_or_len (same_place key) places
  first_is = first_agree (same wanted) (same_place key) [] (0, 0) contexts places (sym stands.long) tests_agree

  apart : list_any (same wanted) contexts ≡ false → (k : ℕ) → k < length contexts → get_or contexts k [] ≢ wanted
  apart none k lt is =
      let yes : list_any (same wanted) contexts ≡ true = list_any_at (same wanted) contexts k [] lt (same_told wanted (get_or contexts k []) (sym is)) in
      absurd (cc)

  kept_number : (n : ℕ) → n ≤ length contexts → numbered (contexts ++ wanted ∷ []) n ≡ numbered contexts n
  kept_number zero le = refl
  kept_number (suc i) le = get_or_append_left contexts (wanted ∷ []) [] i (omega (arith, le))

  old_context : (i : ℕ) → i < length contexts → get_or (contexts ++ wanted ∷ []) i [] ≡ get_or contexts i []
  old_context i lt = get_or_append_left contexts (wanted ∷ []) [] i lt

  new_context : (i : ℕ) → i ≡ length contexts → get_or (contexts ++ wanted ∷ []) i [] ≡ wanted
  new_context i is = ap (λ k. get_or (contexts ++ wanted ∷ []) k []) is ∙ get_or-append_seam contexts wanted [] []

  old_place : (i : ℕ) → i < length contexts → get_or (places ++ key ∷ []) i (0, 0) ≡ get_or places i (0, 0)
  old_place i lt = get_or_append_left places (key ∷ []) (0, 0) i (omega (arith, lt, stands.long))

  new_place : (i : ℕ) → i ≡ length contexts → get_or (places ++ key ∷ []) i (0, 0) ≡ key
  new_place i is =
      let last : i ≡ length places = omega (arith, is, stands.long) in
      ap (λ k. get_or (places ++ key ∷ []) k (0, 0)) last ∙ get_or-append_seam places key [] (0, 0)

  one_longer : (i : ℕ) → i < length (contexts ++ wanted ∷ []) → (i < length contexts) ⊎ (i ≡ length contexts)
  one_longer i lt = elim (cases_lt i (length contexts)) [
    | inl below ↦ inl below
    | inr over ↦ inr (omega (arith, lt, over, length-append contexts (wanted ∷ [])))
  ]

  grown : list_any (same wanted) contexts ≡ false → NumbersStandFor (places ++ key ∷ []) (contexts ++ wanted ∷ [])
  grown none = record {
    long = omega (arith, stands.long, length-append places (key ∷ []), length-append contexts (wanted ∷ []));
    above = λ i lt. elim (one_longer i lt) [
      | inl below ↦ subst (λ (p : ℕ × ℕ). p.0 ≤ i) (sym (old_place i below)) (stands.above i below)
      | inr last ↦ subst (λ (p : ℕ × ℕ). p.0 ≤ i) (sym (new_place i last)) (omega (arith, inside, last))
    ];
    each = λ i lt. elim (one_longer i lt) [
      | inl below ↦
          subst (λ (p : ℕ × ℕ). get_or (contexts ++ wanted ∷ []) i [] ≡ numbered (contexts ++ wanted ∷ []) p.0 ++ p.1 ∷ []) (sym (old_place i below))
          (old_context i below ∙ stands.each i below
          ∙ ap (λ c. c ++ (get_or places i (0, 0)).1 ∷ []) (sym (kept_number (get_or places i (0, 0)).0 (omega (arith, below, stands.above i below)))))
      | inr last ↦
          subst (λ (p : ℕ × ℕ). get_or (contexts ++ wanted ∷ []) i [] ≡ numbered (contexts ++ wanted ∷ []) p.0 ++ p.1 ∷ []) (sym (new_place i last))
          (new_context i last ∙ ap (λ c. c ++ entry ∷ []) (sym (kept_number above inside)))
    ];
    once = λ i j less lt. elim (one_longer j lt) [
      | inl below ↦ λ is. stands.once i j less below (sym (old_context i (omega (arith, less, below))) ∙ is ∙ old_context j below)
      | inr last ↦ λ is. apart none i (omega (arith, less, last)) (sym (old_context i (omega (arith, less, last))) ∙ is ∙ new_context j last)
    ];
  }

  -- it stands for the contexts with this one
  pub stands_with : (new : List (ℕ × ℕ)) → new ≡ cond (list_any (same_place (above, entry)) places) places (places ++ (above, entry) ∷ []) →
      NumbersStandFor new (with_context contexts (numbered contexts above ++ entry ∷ []))
  stands_with new is =
      subst (λ ps. NumbersStandFor ps (with_context contexts (numbered contexts above ++ entry ∷ []))) (sym is)
      (subst (λ b. NumbersStandFor (cond b places (places ++ (above, entry) ∷ [])) (with_context contexts (numbered contexts above ++ entry ∷ []))) any_is (by (list_any (same wanted) contexts) refl))
    where
      by : (b : Bool) → list_any (same wanted) contexts ≡ b → NumbersStandFor (cond b places (places ++ key ∷ [])) (cond b contexts (contexts ++ wanted ∷ []))
      by true there = stands
      by false none = grown none

  -- and where it stands is its number
  pub number_with : (index n : ℕ) → index ≡ position_or_len (same_place (above, entry)) places → n ≡ index + 1 →
      IsNumberOf (with_context contexts (numbered contexts above ++ entry ∷ [])) n (numbered contexts above ++ entry ∷ [])
  number_with index n is next =
      let next_is : n ≡ suc index = omega (arith, next) in
      subst (λ m. IsNumberOf (with_context contexts (numbered contexts above ++ entry ∷ [])) m (numbered contexts above ++ entry ∷ [])) (sym next_is)
      (by (list_any (same wanted) contexts) refl)
    where
      first : index ≡ position_or_len (same wanted) contexts
      first = is ∙ sym first_is

      by : (b : Bool) → list_any (same wanted) contexts ≡ b → IsNumberOf (cond b contexts (contexts ++ wanted ∷ [])) (suc index) wanted
      by true there =
          let lt : position_or_len (same wanted) contexts < length contexts = within_any (same wanted) contexts there in
          let found : same wanted (get_or contexts (position_or_len (same wanted) contexts) []) ≡ true = passes_at_first (same wanted) contexts [] lt in
          record {
            within = omega (arith, lt, first);
            there = ap (λ k. get_or contexts k []) first ∙ sym (told_text wanted (get_or contexts (position_or_len (same wanted) contexts) []) true (sym found));
          }
      by false none =
          let last : position_or_len (same wanted) contexts ≡ length contexts = past_all (same wanted) contexts none in
          record {
            within = omega (arith, last, first, length-append contexts (wanted ∷ []));
            there = new_context index (first ∙ last);
          }

pub none_stand : NumbersStandFor [] []
none_stand = record {
  long = refl;
  above = λ i lt. absurd (omega (arith, lt));
  each = λ i lt. absurd (omega (arith, lt));
  once = λ i j less lt. absurd (omega (arith, lt));
}

-- no more than can be numbered
pub still_few : (places new : List (ℕ × ℕ)) (key : ℕ × ℕ) (most : ℕ) → new ≡ cond (list_any (same_place key) places) places (places ++ key ∷ []) → length places ≤ most →
    (list_any (same_place key) places ≡ false → length places < most) → length new ≤ most
still_few places new key most is few room = by (list_any (same_place key) places) refl is
  where
    by : (b : Bool) → list_any (same_place key) places ≡ b → new ≡ cond b places (places ++ key ∷ []) → length new ≤ most
    by true there grown = omega (arith, ap length grown, few)
    by false none grown = omega (arith, ap length grown, length-append places (key ∷ []), room none)

-- what holds of an answer that is known
pub on_ok_is : {T E : Type 0} (r : Result T E) (v : T) (P : Type 0) → r ≡ Ok v → P → OnOk r P
on_ok_is r v P is p = subst (λ o. OnOk o P) (sym is) p

pub on_err_is : {T E : Type 0} (r : Result T E) (e : E) (P : Type 0) → r ≡ Err e → OnOk r P
on_err_is r e P is = subst (λ o. OnOk o P) (sym is) tt

pub if_ok_is : {T E : Type 0} (r : Result T E) (v : T) (P : T → Type 0) → r ≡ Ok v → P v → IfOk r P
if_ok_is r v P is p = subst (λ o. IfOk o P) (sym is) p

pub if_err_is : {T E : Type 0} (r : Result T E) (e : E) (P : T → Type 0) → r ≡ Err e → IfOk r P
if_err_is r e P is = subst (λ o. IfOk o P) (sym is) tt

-- the place of a number
pub above_is : (places : List (ℕ × ℕ)) (contexts : List (List ℕ)) (n : ℕ) (place : ℕ × ℕ) → NumbersStandFor places contexts → 1 ≤ n → n ≤ length places →
    Some place ≡ slice_get places (n - 1) → (place.0 < n) × (numbered contexts n ≡ numbered contexts place.0 ++ place.1 ∷ [])
above_is places contexts zero place stands some within read = absurd (omega (arith, some))
above_is places contexts (suc i) place stands some within read =
    let inside : i < length contexts = omega (arith, within, stands.long) in
    let at : suc i - 1 ≡ i = omega arith in
    let here : place ≡ get_or places i (0, 0) = sym (get_or_from_slice_get places i place (0, 0) (sym (read ∙ ap (slice_get places) at))) in (
      subst (λ (p : ℕ × ℕ). p.0 < suc i) (sym here) (omega (arith, stands.above i inside)),
      subst (λ (p : ℕ × ℕ). get_or contexts i [] ≡ numbered contexts p.0 ++ p.1 ∷ []) (sym here) (stands.each i inside),
    )

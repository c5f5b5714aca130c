-- What a search in vain says of the calls that were open then.
use Rattle.std.proofs.Common.{◌≡◌, ℕ, zero, suc, ◌+◌, ◌≤◌, Bool, true, false, cond, List, [], ◌∷◌, ◌++◌, length, map, take, drop, reverse, Option, refl, ap, sym, ◌∙◌, arith, ◌<◌, All, get_or, set, not, ltb, subst}
use Rattle.std.specs.Prelude.{min}
use Rattle.std.specs.List.{position_or_len}
use Rattle.std.proofs.lemmas.Bool.Decides.{nat_tests}
use Rattle.std.proofs.lemmas.List.Elements.{All-from_get_or, All-get_or, All-set, All-weaker}
use Rattle.std.proofs.lemmas.List.{length-append, length-map, length-take, drop-map, map-append, take_all, reverse-append, take-append-drop, take-append-le, take-take}
use Rattle.trace_model.specs.Activations.{count_returned, is_back}
use Rattle.call_tracker.specs.declared.missed.Miss.{Miss}
use Rattle.call_tracker.specs.declared.missed.Missed.{Missed}
use Rattle.call_tracker.specs.Missed.{AreMissed, IsMissed}

-- a count, one call further out
abbrev one_out : ℕ → ℕ
one_out zero = 0
one_out (suc n) = suc (suc n)

module _ (target : ℕ) where
  counted : (p n : ℕ) (b : Bool) → ltb p n ≡ b → cond (ltb (1 + p) (suc n)) (1 + p + 1) 0 ≡ one_out (cond b (p + 1) 0)
  counted p n true is =
      let more : ltb (1 + p) (suc n) ≡ true = grind (arith, nat_tests, is) in
      let one : 1 + p + 1 ≡ suc (suc p) = omega arith in
      let two : p + 1 ≡ suc p = omega arith in
      ap (λ b. cond b (1 + p + 1) 0) more ∙ one ∙ sym (ap one_out two)
  counted p n false is = let more : ltb (1 + p) (suc n) ≡ false = grind (arith, nat_tests, is) in ap (λ b. cond b (1 + p + 1) 0) more

  -- the innermost call has the address or not
  count-cons : (b : Option ℕ) (bs : List (Option ℕ)) → count_returned target (b ∷ bs) ≡ cond (is_back target b) 1 (one_out (count_returned target bs))
  count-cons b bs = by (is_back target b)
    where
      by : (f : Bool) → (let k = cond (not f) (1 + position_or_len (is_back target) bs) 0 in cond (ltb k (suc (length bs))) (k + 1) 0) ≡ cond f 1 (one_out (count_returned target bs))
      by true = let more : ltb 0 (suc (length bs)) ≡ true = grind (arith, nat_tests) in ap (λ b. cond b 1 0) more
      by false = let p = position_or_len (is_back target) bs in counted p (length bs) (ltb p (length bs)) refl

  none_out : (n : ℕ) → one_out n ≡ 0 → n ≡ 0
  none_out zero is = refl
  none_out (suc n) is = omega (arith, is)

  -- where the outer calls have no such address, the inner ones tell
  pub count-inner : (xs ys : List (Option ℕ)) → count_returned target ys ≡ 0 → count_returned target (xs ++ ys) ≡ count_returned target xs
  count-inner [] ys none = none
  count-inner (x ∷ xs) ys none =
      count-cons x (xs ++ ys) ∙ ap (λ n. cond (is_back target x) 1 (one_out n)) (count-inner xs ys none) ∙ sym (count-cons x xs)

  -- where no call has it, the outer ones have it not
  pub count-outer : (xs ys : List (Option ℕ)) → count_returned target (xs ++ ys) ≡ 0 → count_returned target ys ≡ 0
  count-outer [] ys none = none
  count-outer (x ∷ xs) ys none = count-outer xs ys (by (is_back target x) (sym (count-cons x (xs ++ ys)) ∙ none))
    where
      by : (f : Bool) → cond f 1 (one_out (count_returned target (xs ++ ys))) ≡ 0 → count_returned target (xs ++ ys) ≡ 0
      by true is = omega (arith, is)
      by false is = none_out (count_returned target (xs ++ ys)) is

-- the innermost calls first
module _ (backs : List (Option ℕ)) (target n : ℕ) where
  turned : reverse backs ≡ reverse (drop n backs) ++ reverse (take n backs)
  turned = sym (ap reverse (take-append-drop n backs)) ∙ reverse-append (take n backs) (drop n backs)

  -- a search among the others is one among all
  pub search-all : IsMissed backs target n → count_returned target (reverse (drop n backs)) ≡ count_returned target (reverse backs)
  search-all missed = sym (ap (count_returned target) turned ∙ count-inner target (reverse (drop n backs)) (reverse (take n backs)) missed)

  missed-outer : count_returned target (reverse backs) ≡ 0 → IsMissed backs target n
  missed-outer none = count-outer target (reverse (drop n backs)) (reverse (take n backs)) (sym (ap (count_returned target) turned) ∙ none)

-- what fewer of the outermost calls miss
missed-less : (backs : List (Option ℕ)) (target n m : ℕ) → m ≤ n → IsMissed backs target n → IsMissed backs target m
missed-less backs target n m le missed =
    ap (λ (bs : List (Option ℕ)). count_returned target (reverse bs)) (sym (take-take m n backs le)) ∙ missed-outer (take n backs) target m missed

-- ---- What is remembered.
-- after a call more
pub missed-pushed : (backs : List (Option ℕ)) (back : Option ℕ) (m : Missed) → AreMissed backs m → AreMissed (backs ++ back ∷ []) m
missed-pushed backs back m are = record {
  few = omega (arith, are.few, length-append backs (back ∷ []));
  each = All-weaker (λ miss. IsMissed backs miss.target (min miss.depth m.low)) (λ miss. IsMissed (backs ++ back ∷ []) miss.target (min miss.depth m.low))
      (λ miss missed. ap (λ (bs : List (Option ℕ)). count_returned miss.target (reverse bs)) (take-append-le (min miss.depth m.low) backs (back ∷ []) (omega (arith, are.few))) ∙ missed)
      m.places are.each;
}

-- where so many calls are left
pub missed-left : (backs : List (Option ℕ)) (m new : Missed) (depth : ℕ) → new.places ≡ m.places → new.low ≡ min m.low depth → AreMissed backs m → AreMissed (take depth backs) new
missed-left backs m new depth places low are = record {
  few = omega (arith, low, are.few, length-take depth backs);
  each = subst (λ ms. All (λ miss. IsMissed (take depth backs) miss.target (min miss.depth new.low)) ms) (sym places)
      (All-weaker (λ miss. IsMissed backs miss.target (min miss.depth m.low)) (λ miss. IsMissed (take depth backs) miss.target (min miss.depth new.low))
      (λ miss missed.
      ap (λ (bs : List (Option ℕ)). count_returned miss.target (reverse bs)) (take-take (min miss.depth new.low) depth backs (omega (arith, low)))
      ∙ missed-less backs miss.target (min miss.depth m.low) (min miss.depth new.low) (omega (arith, low)) missed)
      m.places are.each);
}

abbrev nothing : Miss
nothing = record { target = 0; depth = 0 }

-- where one of the targets is known of no more calls than were open all the time
pub missed-settled : (backs : List (Option ℕ)) (m new : Missed) (i depth : ℕ) → i < length m.places → depth ≡ min (get_or m.places i nothing).depth m.low →
    new.places ≡ set m.places i (record { target = (get_or m.places i nothing).target; depth = depth }) → new.low ≡ m.low → AreMissed backs m → AreMissed backs new
missed-settled backs m new i depth within is places low are =
    let miss = get_or m.places i nothing in
    let P : Miss → Type 0 = λ k. IsMissed backs k.target (min k.depth m.low) in
    let held : P miss = All-get_or P m.places i nothing within are.each in
    let less : min depth m.low ≤ min miss.depth m.low = omega (arith, is) in
    record {
      few = omega (arith, low, are.few);
      each = subst (λ ms. All (λ k. IsMissed backs k.target (min k.depth new.low)) ms) (sym places)
          (subst (λ n. All (λ k. IsMissed backs k.target (min k.depth n)) (set m.places i (record { target = miss.target; depth = depth }))) (sym low)
          (All-set P m.places i (record { target = miss.target; depth = depth }) (missed-less backs miss.target (min miss.depth m.low) (min depth m.low) less held) are.each));
    }

-- where one more target is known
pub missed-known : (backs : List (Option ℕ)) (m new : Missed) (i target depth : ℕ) → All (λ k. k.depth ≤ m.low) m.places → length backs ≡ depth →
    new.places ≡ set m.places i (record { target = target; depth = depth }) → new.low ≡ depth → IsMissed backs target depth → AreMissed backs m → AreMissed backs new
missed-known backs m new i target depth settled all places low missed are =
    let P : Miss → Type 0 = λ k. IsMissed backs k.target (min k.depth depth) in
    let same : min depth depth ≡ depth = omega arith in
    record {
      few = omega (arith, low, all);
      each = subst (λ ms. All (λ k. IsMissed backs k.target (min k.depth new.low)) ms) (sym places)
          (subst (λ n. All (λ k. IsMissed backs k.target (min k.depth n)) (set m.places i (record { target = target; depth = depth }))) (sym low)
          (All-set P m.places i (record { target = target; depth = depth }) (subst (IsMissed backs target) (sym same) missed)
          (All-from_get_or P m.places nothing
          (λ j within.
          let low : (get_or m.places j nothing).depth ≤ m.low = All-get_or (λ k. k.depth ≤ m.low) m.places j nothing within settled in
          subst (IsMissed backs (get_or m.places j nothing).target) (omega (arith, low, are.few, all))
          (All-get_or (λ k. IsMissed backs k.target (min k.depth m.low)) m.places j nothing within are.each)))));
    }

-- ---- A search among calls, each with its return address.
module _ {A : Type 0} (back : A → Option ℕ) where
  backs-reverse : (calls : List A) → map back (reverse calls) ≡ reverse (map back calls)
  backs-reverse [] = refl
  backs-reverse (a ∷ calls) =
      ap (map back) (reverse-append (a ∷ []) calls) ∙ map-append back (reverse calls) (a ∷ [])
      ∙ ap (λ bs. bs ++ back a ∷ []) (backs-reverse calls) ∙ sym (reverse-append (back a ∷ []) (map back calls))

  -- of the calls behind those that are known to miss it
  pub searched : (calls seen : List A) (target missed n : ℕ) → seen ≡ drop missed calls → IsMissed (map back calls) target missed →
      n ≡ count_returned target (map back (reverse seen)) → n ≡ count_returned target (map back (reverse calls))
  searched calls seen target missed n is known count =
      count ∙ ap (λ (cs : List A). count_returned target (map back (reverse cs))) is
      ∙ ap (count_returned target) (backs-reverse (drop missed calls) ∙ ap reverse (sym (drop-map back missed calls)))
      ∙ search-all (map back calls) target missed known ∙ sym (ap (count_returned target) (backs-reverse calls))

  -- none was found, so all miss it
  pub missed-all : (calls : List A) (target n : ℕ) → n ≡ length calls → 0 ≡ count_returned target (map back (reverse calls)) → IsMissed (map back calls) target n
  missed-all calls target n all none =
      ap (λ bs. count_returned target (reverse bs)) (take_all n (map back calls) (omega (arith, all, length-map calls back)))
      ∙ ap (count_returned target) (sym (backs-reverse calls)) ∙ sym none

-- How many activations a return ends, by a search from the innermost outwards.
use Rattle.std.proofs.Common.{◌≡◌, ℕ, ◌+◌, Bool, true, false, cond, ltb, List, [], ◌∷◌, length, map, Option, Some, None, refl, sym, ap, ◌∙◌, subst, not}
use Rattle.std.specs.List.{position_or_len}
use Rattle.std.specs.Option.{MatchOption}
use Rattle.std.proofs.lemmas.List.{length-map}
use Rattle.trace_model.specs.Activations.{is_back, count_returned}

-- the place that was found, as the count that it gives
counted : (b : Bool) (p n : ℕ) (r : Option ℕ) → r ≡ cond b (Some p) None → MatchOption r (n ≡ 0) (λ k. n ≡ k + 1) → n ≡ cond b (p + 1) 0
counted true p n r e is = subst (λ o. MatchOption o (n ≡ 0) (λ k. n ≡ k + 1)) e is
counted false p n r e is = subst (λ o. MatchOption o (n ≡ 0) (λ k. n ≡ k + 1)) e is

-- over a list of calls, of which each has its return address
module _ {A : Type 0} (back : A → Option ℕ) where
  position-map : (calls : List A) (target : ℕ) → position_or_len (is_back target) (map back calls) ≡ position_or_len (λ a. is_back target (back a)) calls
  position-map [] target = refl
  position-map (a ∷ calls) target = ap (λ n. cond (not (is_back target (back a))) (1 + n) 0) (position-map calls target)

  pub returned_by_position : (calls : List A) (target n : ℕ) (r : Option ℕ) →
      (let p = position_or_len (λ a. is_back target (back a)) calls in r ≡ cond (ltb p (length calls)) (Some p) None) →
      MatchOption r (n ≡ 0) (λ k. n ≡ k + 1) →
      n ≡ count_returned target (map back calls)
  returned_by_position calls target n r found is =
      let p = position_or_len (λ a. is_back target (back a)) calls in
      counted (ltb p (length calls)) p n r found is
      ∙ sym (ap (λ l. cond (ltb p l) (p + 1) 0) (length-map calls back))
      ∙ sym (ap (λ m. cond (ltb m (length (map back calls))) (m + 1) 0) (position-map calls target))

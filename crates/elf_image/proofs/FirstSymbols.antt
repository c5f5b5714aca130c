-- One more symbol, whose value is not below those seen.
use Rattle.std.proofs.Common.{◌≡◌, ◌≢◌, ℕ, ◌-◌, ◌<◌, ◌≤◌, true, false, eqb, List, [], ◌∷◌, ◌++◌, length, get_or, set, filter, fold, append-nil, Option, Some, None, refl, sym, ap, subst, ◌∙◌, inl, inr, arith}
use Rattle.std.specs.List.{All, find}
use Rattle.std.specs.Option.{option_or}
use Rattle.std.proofs.lemmas.Bool.{cases_eq, cases_lt, eq-eqb, ne_eqb}
use Rattle.std.proofs.lemmas.List.{get_or_append_left, get_or_default, get_or-set_other, get_or-set_same, length-append, length-set}
use Rattle.std.proofs.lemmas.List.Elements.{All-push, filter-append}
use Rattle.std.proofs.lemmas.List.Folds.{find-append, find-set, find_past}
use Rattle.std.proofs.lemmas.List.Quantifiers.{all_pairs_push}
use Rattle.std.proofs.lemmas.List.Recursion.{found_at, found_nowhere}
use Rattle.std.proofs.lemmas.List.Sums.{fold_push, position_or_len_is}
use Rattle.std.proofs.Math.Seq.{get_or-append_seam}
use Rattle.elf_image.specs.Symbols.{Symbol}
use Rattle.elf_image.specs.Private.FirstSymbols.{AreFirst}
use Rattle.elf_image.specs.Symbols.{first_symbol, goes_before, symbol_of}

-- the symbol that stands for none
abbrev pub no_symbol : Symbol
no_symbol = record { value = 0; rank = 0; name = [] }

pub first_none : AreFirst [] []
unfolding symbol_of
first_none = record {
  rising = λ i j d lt inside. absurd (omega arith);
  found = λ at. refl;
  bounded = λ top all k d inside. absurd (omega arith);
}

-- the first at a value, with one more symbol
joins : (seen : List Symbol) (s : Symbol) → symbol_of (seen ++ s ∷ []) s.value ≡ first_symbol (symbol_of seen s.value) s
unfolding symbol_of
joins seen s = rw (filter-append (λ t. eqb t.value s.value) seen (s ∷ []), eq-eqb s.value s.value refl) (fold_push first_symbol None (filter (λ t. eqb t.value s.value) seen) s)

passes_by : (seen : List Symbol) (s : Symbol) (at : ℕ) → s.value ≢ at → symbol_of (seen ++ s ∷ []) at ≡ symbol_of seen at
unfolding symbol_of
passes_by seen s at other = rw (filter-append (λ t. eqb t.value at) seen (s ∷ []), ne_eqb s.value at other) (ap (λ (ts : List Symbol). fold first_symbol None ts) (append-nil (filter (λ t. eqb t.value at) seen)))

or_none : {X : Type 0} (o : Option X) → option_or o None ≡ o
or_none None = refl
or_none (Some x) = refl

-- what holds of all holds of all but the last, and of the last
front_of : {X : Type 0} (P : X → Type 0) (xs : List X) (x : X) → All P (xs ++ x ∷ []) → All P xs
front_of P xs x all k d inside =
    let there : P (get_or (xs ++ x ∷ []) k d) = all k d (omega (arith, length-append xs (x ∷ []))) in
    rw (get_or_append_left xs (x ∷ []) d k inside) at there

last_of : {X : Type 0} (P : X → Type 0) (xs : List X) (x : X) → All P (xs ++ x ∷ []) → P x
last_of P xs x all =
    let there : P (get_or (xs ++ x ∷ []) (length xs) x) = all (length xs) x (omega (arith, length-append xs (x ∷ []))) in
    rw (get_or-append_seam xs x [] x) at there

module _ (seen first : List Symbol) (s : Symbol) (before : AreFirst seen first) (below : All (λ t. t.value ≤ s.value) seen) where
  -- no value is above the new one
  at_most : All (λ t. t.value ≤ s.value) first
  at_most = before.bounded s.value below

  -- where the last value is another, all are below the new one
  module _ (fresh : 0 < length first → (get_or first (length first - 1) no_symbol).value ≢ s.value) where
    all_below : (k : ℕ) (d : Symbol) → k < length first → (get_or first k d).value < s.value
    all_below k d inside =
        let last : (get_or first (length first - 1) d).value ≤ s.value = at_most (length first - 1) d (omega arith) in
        let other : (get_or first (length first - 1) d).value ≢ s.value = λ same. fresh (omega arith) (ap (λ (t : Symbol). t.value) (get_or_default first (length first - 1) no_symbol d (omega arith)) ∙ same) in
        elim (cases_lt k (length first - 1)) as (λ _. (get_or first k d).value < s.value) [
          | inl earlier ↦ let rises : (get_or first k d).value < (get_or first (length first - 1) d).value = before.rising k (length first - 1) d earlier (omega arith) in omega (arith, rises, last)
          | inr final ↦ let same : k ≡ length first - 1 = omega arith in rw same (omega (arith, last, other))
        ]

    unmet : find (λ t. eqb t.value s.value) first ≡ None
    unmet = found_nowhere (find (λ t. eqb t.value s.value)) (λ t. eqb t.value s.value) Some None refl (λ t rest. refl) first no_symbol
        (λ k inside. let less : (get_or first k no_symbol).value < s.value = all_below k no_symbol inside in ne_eqb _ _ (λ e. omega (arith, less, e)))

    pub first_pushed : AreFirst (seen ++ s ∷ []) (first ++ s ∷ [])
    first_pushed = record {
      rising = all_pairs_push (λ t u. t.value < u.value) first s before.rising all_below;
      found = λ at. find-append (λ t. eqb t.value at) first (s ∷ []) ∙ (elim (cases_eq s.value at) as (λ _. option_or (find (λ t. eqb t.value at) first) (find (λ t. eqb t.value at) (s ∷ [])) ≡ symbol_of (seen ++ s ∷ []) at) [
        | inl here ↦ subst (λ (v : ℕ). option_or (find (λ t. eqb t.value v) first) (find (λ t. eqb t.value v) (s ∷ [])) ≡ symbol_of (seen ++ s ∷ []) v) here
            (let none : symbol_of seen s.value ≡ None = sym (before.found s.value) ∙ unmet in
            rw (unmet, eq-eqb s.value s.value refl, joins seen s, none) refl)
        | inr elsewhere ↦ rw (ne_eqb s.value at elsewhere, passes_by seen s at elsewhere) (or_none (find (λ t. eqb t.value at) first) ∙ before.found at)
      ]);
      bounded = λ top all. All-push (λ t. t.value ≤ top) first s (before.bounded top (front_of (λ t. t.value ≤ top) seen s all)) (last_of (λ t. t.value ≤ top) seen s all);
    }

  -- where the last value is the new one
  module _ (some : 0 < length first) (tied : (get_or first (length first - 1) no_symbol).value ≡ s.value) where
    last : Symbol
    last = get_or first (length first - 1) no_symbol

    others : (k : ℕ) (d : Symbol) → k < length first - 1 → (get_or first k d).value < s.value
    others k d low =
        let rises : (get_or first k d).value < (get_or first (length first - 1) d).value = before.rising k (length first - 1) d low (omega arith) in
        let same : (get_or first (length first - 1) d).value ≡ s.value = ap (λ (t : Symbol). t.value) (get_or_default first (length first - 1) d no_symbol (omega arith)) ∙ tied in
        omega (arith, rises, same)

    fails_before : (k : ℕ) → k < length first - 1 → eqb (get_or first k no_symbol).value s.value ≡ false
    fails_before k low = let less : (get_or first k no_symbol).value < s.value = others k no_symbol low in ne_eqb _ _ (λ e. omega (arith, less, e))

    met : find (λ t. eqb t.value s.value) first ≡ Some (get_or first (length first - 1) no_symbol)
    met = found_at (find (λ t. eqb t.value s.value)) (λ t. eqb t.value s.value) Some None refl (λ t rest. refl) first (length first - 1) no_symbol (omega arith)
        fails_before (eq-eqb _ _ tied)

    first_is : symbol_of (seen ++ s ∷ []) s.value ≡ first_symbol (Some (get_or first (length first - 1) no_symbol)) s
    first_is = joins seen s ∙ ap (λ (o : Option Symbol). first_symbol o s) (sym (before.found s.value) ∙ met)

    pub first_kept : goes_before s (get_or first (length first - 1) no_symbol) ≡ false → AreFirst (seen ++ s ∷ []) first
    first_kept later = record {
      rising = before.rising;
      found = λ at. elim (cases_eq s.value at) as (λ _. find (λ t. eqb t.value at) first ≡ symbol_of (seen ++ s ∷ []) at) [
        | inl here ↦ subst (λ (v : ℕ). find (λ t. eqb t.value v) first ≡ symbol_of (seen ++ s ∷ []) v) here (met ∙ sym (first_is ∙ rw later refl))
        | inr elsewhere ↦ before.found at ∙ sym (passes_by seen s at elsewhere)
      ];
      bounded = λ top all. before.bounded top (front_of (λ t. t.value ≤ top) seen s all);
    }

    -- the new one in its place
    same_values : (k : ℕ) (d : Symbol) → (get_or (set first (length first - 1) s) k d).value ≡ (get_or first k d).value
    same_values k d = elim (cases_eq k (length first - 1)) as (λ _. (get_or (set first (length first - 1) s) k d).value ≡ (get_or first k d).value) [
      | inl final ↦ rw final (ap (λ (t : Symbol). t.value) (get_or-set_same first (length first - 1) s d (omega arith))
          ∙ (sym tied ∙ ap (λ (t : Symbol). t.value) (get_or_default first (length first - 1) no_symbol d (omega arith))))
      | inr earlier ↦ ap (λ (t : Symbol). t.value) (get_or-set_other first (length first - 1) k s d earlier)
    ]

    pub first_replaced : goes_before s (get_or first (length first - 1) no_symbol) ≡ true → AreFirst (seen ++ s ∷ []) (set first (length first - 1) s)
    first_replaced sooner = record {
      rising = λ i j d lt inside. rw (same_values i d, same_values j d) (before.rising i j d lt (omega (arith, length-set first (length first - 1) s, inside)));
      found = λ at. elim (cases_eq s.value at) as (λ _. find (λ t. eqb t.value at) (set first (length first - 1) s) ≡ symbol_of (seen ++ s ∷ []) at) [
        | inl here ↦ subst (λ (v : ℕ). find (λ t. eqb t.value v) (set first (length first - 1) s) ≡ symbol_of (seen ++ s ∷ []) v) here
            (find-set (λ t. eqb t.value s.value) first (length first - 1) s
            (sym (position_or_len_is (λ t. eqb t.value s.value) first (length first - 1) no_symbol (omega arith) fails_before (λ _. eq-eqb _ _ tied)))
            (omega arith) (eq-eqb s.value s.value refl)
            ∙ sym (first_is ∙ rw sooner refl))
        | inr elsewhere ↦ find_past (λ t. eqb t.value at) first (length first - 1) s no_symbol (ne_eqb _ _ (λ e. elsewhere (sym tied ∙ e))) (ne_eqb _ _ elsewhere)
            ∙ (before.found at ∙ sym (passes_by seen s at elsewhere))
      ];
      bounded = λ top all k d inside. rw (same_values k d) (before.bounded top (front_of (λ t. t.value ≤ top) seen s all) k d (omega (arith, length-set first (length first - 1) s, inside)));
    }

-- the first at a value depends on the symbols at it alone
pub symbol_of-same : (xs ys : List Symbol) (at : ℕ) → filter (λ s. eqb s.value at) xs ≡ filter (λ s. eqb s.value at) ys → symbol_of xs at ≡ symbol_of ys at
unfolding symbol_of
symbol_of-same xs ys at same = ap (λ (ts : List Symbol). fold first_symbol None ts) same

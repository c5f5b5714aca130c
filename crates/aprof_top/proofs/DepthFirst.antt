-- Contexts are a tree, listed depth first.
use Rattle.std.proofs.Common.{◌≡◌, ℕ, zero, suc, ◌+◌, ◌<◌, ◌≤◌, Bool, true, false, cond, not, ◌||◌, List, [], ◌∷◌, ◌++◌, length, drop, get_or, map, take, Some, slice_get, refl, sym, ap, ap₂, ◌∙◌, arith, append-nil, append_assoc}
use Rattle.std.specs.Prelude.{◌==◌, nat_eq, nat_lt}
use Rattle.std.specs.List.{list_any, position_or_len, range_with_len}
use Rattle.std.specs.Cmp.Lexicographic.{pointwise}
use Rattle.std.proofs.lemmas.Bool.{and_parts}
use Rattle.std.proofs.lemmas.Bool.Decides.{nat_tests}
use Rattle.std.proofs.lemmas.List.{length-append, length_push, take-append-drop, take-append-le, take_all}
use Rattle.std.proofs.lemmas.List.FromFn.{get_or-map-range_with_len, length-map-range_with_len, map-range_with_len_more}
use Rattle.std.proofs.Math.ListN.{get_or-append}
use Rattle.trace_model.specs.declared.activations.Activation.{Activation}
use Rattle.trace_model.specs.Activations.{open_calls}
use Rattle.trace_model.specs.Sizes.{before}
use Rattle.context_tree.specs.Contexts.{context_of, same}
use Rattle.context_tree.specs.Order.{comes_before, is_before, numbers_down_to}
use Rattle.context_tree.proofs.Before.{before_append, before_less, before_more}
use Rattle.aprof_top.specs.Contexts.{ContextsAreATree, ContextsAreOfBeginnings}
use Rattle.aprof_top.proofs.Begun.{begun_so}

-- ---- beginnings
placed : {A : Type 0} (xs : List A) (i : ℕ) (x : A) → slice_get xs i ≡ Some x → (i < length xs) × ((d : A) → get_or xs i d ≡ x)
placed [] i x is = absurd (cc)
placed (y ∷ ys) zero x is = (omega arith, λ d. cc is)
placed (y ∷ ys) (suc i) x is = let rest = placed ys i x is in (omega (arith, rest.0), rest.1)

of_beginnings : ContextsAreOfBeginnings
of_beginnings past t place a is =
    let there = placed (open_calls past t) place a is in
    ap context_of (begun_so t a past place there.0) ∙ ap (λ (b : Activation). context_of (open_calls (before past (b.at + 1)) t)) (there.1 a)

-- ---- the order of number lists
between : (xs ys zs : List ℕ) → is_before xs ys ≡ true → is_before ys (xs ++ zs) ≡ true → (ws : List ℕ) × (ys ≡ xs ++ ws)
between [] ys zs after ahead = (ys, refl)
between (x ∷ xs) [] zs after ahead = absurd (cc)
between (x ∷ xs) (y ∷ ys) zs after ahead = by (x == y) (y == x) refl refl after ahead (between xs ys zs)
  where
    same_head : (x == y) ≡ true → y ≡ x
    same_head is = grind (arith, nat_tests, is)

    apart : (y == x) ≡ false → (x == y) ≡ true → ⊥
    apart other is = absurd (grind (arith, nat_tests, is, other))

    never : nat_lt x y ≡ true → nat_lt y x ≡ true → ⊥
    never one other = absurd (grind (arith, nat_tests, one, other))

    apart' : (x == y) ≡ false → (y == x) ≡ true → ⊥
    apart' other is = absurd (grind (arith, nat_tests, is, other))

    by : (s r : Bool) → (x == y) ≡ s → (y == x) ≡ r → cond s (is_before xs ys) (nat_lt x y) ≡ true → cond r (is_before ys (xs ++ zs)) (nat_lt y x) ≡ true
        → (is_before xs ys ≡ true → is_before ys (xs ++ zs) ≡ true → (ws : List ℕ) × (ys ≡ xs ++ ws)) → (ws : List ℕ) × (y ∷ ys ≡ x ∷ xs ++ ws)
    by true true e f one other rec = let rest = rec one other in (rest.0, ap₂ (λ a as'. a ∷ as') (same_head e) rest.1)
    by true false e f one other rec = absurd (apart f e)
    by false true e f one other rec = absurd (apart' e f)
    by false false e f one other rec = absurd (never one other)

-- ---- numbers down to a context
map_range : {X : Type 0} (f g : ℕ → X) (a n : ℕ) → ((k : ℕ) → a ≤ k → k < a + n → f k ≡ g k) → map f (range_with_len a n) ≡ map g (range_with_len a n)
map_range f g a zero agree = refl
map_range f g a (suc n) agree =
    ap₂ (λ x xs. x ∷ xs) (agree a (omega arith) (omega arith)) (map_range f g (a + 1) n (λ k low high. agree k (omega (arith, low)) (omega (arith, high))))

-- where two tests pass first at one place, one element passes both
common : {X : Type 0} (p q : X → Bool) (xs : List X) → list_any q xs ≡ true → position_or_len p xs ≡ position_or_len q xs → (x : X) × (p x ≡ true) × (q x ≡ true)
common p q [] some same = absurd (let no : false ≡ true = some in cc)
common {X} p q (x ∷ xs) some same = by (p x) (q x) refl refl some same (common p q xs)
  where
    by : (a b : Bool) → p x ≡ a → q x ≡ b → (b || list_any q xs) ≡ true → cond (not a) (1 + position_or_len p xs) 0 ≡ cond (not b) (1 + position_or_len q xs) 0
        → (list_any q xs ≡ true → position_or_len p xs ≡ position_or_len q xs → (x : X) × (p x ≡ true) × (q x ≡ true)) → (x : X) × (p x ≡ true) × (q x ≡ true)
    by true true is is' some same rec = (x, is, is')
    by true false is is' some same rec = absurd (omega (arith, same))
    by false true is is' some same rec = absurd (omega (arith, same))
    by false false is is' some same rec = rec some (omega (arith, same))

is_same : (xs ys : List ℕ) → pointwise nat_eq xs ys ≡ true → xs ≡ ys
is_same [] [] told = refl
is_same [] (y ∷ ys) told = absurd (cc)
is_same (x ∷ xs) [] told = absurd (cc)
is_same (x ∷ xs) (y ∷ ys) told =
    let both = and_parts (nat_eq x y) (pointwise nat_eq xs ys) told in
    ap₂ (λ a more. a ∷ more) (first both.0) (is_same xs ys both.1)
  where
    first : nat_eq x y ≡ true → x ≡ y
    first is = grind (arith, nat_tests, is)

module _ (known : List (List ℕ)) where
  abbrev key : List ℕ → List ℕ
  key c = numbers_down_to known c

  abbrev at_first : List ℕ → ℕ
  at_first c = position_or_len (same c) known

  key_push : (c : List ℕ) (x : ℕ) → key (c ++ x ∷ []) ≡ key c ++ at_first (c ++ x ∷ []) ∷ []
  key_push c x =
      ap (λ m. map (λ n. at_first (take n (c ++ x ∷ []))) (range_with_len 1 m)) (length_push c x)
      ∙ map-range_with_len_more (λ n. at_first (take n (c ++ x ∷ []))) 1 (length c) (1 + length c) refl
      ∙ ap₂ (λ ns q. ns ++ q ∷ [])
      (map_range (λ n. at_first (take n (c ++ x ∷ []))) (λ n. at_first (take n c)) 1 (length c)
      (λ k low high. ap at_first (take-append-le k c (x ∷ []) (omega (arith, high)))))
      (ap at_first (take_all (1 + length c) (c ++ x ∷ []) (omega (arith, length_push c x))))

  key_more : (c more : List ℕ) → (rest : List ℕ) × (key (c ++ more) ≡ key c ++ rest)
  key_more c [] = ([], ap key (append-nil c) ∙ sym (append-nil (key c)))
  key_more c (x ∷ more) =
      let rest = key_more (c ++ x ∷ []) more in (
        at_first (c ++ x ∷ []) ∷ rest.0,
        ap key (sym (append_assoc c (x ∷ []) more)) ∙ rest.1 ∙ ap (λ k. k ++ rest.0) (key_push c x) ∙ append_assoc (key c) (at_first (c ++ x ∷ []) ∷ []) rest.0,
      )

  above : (c : List ℕ) (x : ℕ) (more : List ℕ) → comes_before known c (c ++ x ∷ more) ≡ true
  above c x more =
      let rest = key_more (c ++ x ∷ []) more in
      let whole : key (c ++ x ∷ more) ≡ key c ++ at_first (c ++ x ∷ []) ∷ rest.0 =
      ap key (sym (append_assoc c (x ∷ []) more)) ∙ rest.1 ∙ ap (λ k. k ++ rest.0) (key_push c x) ∙ append_assoc (key c) (at_first (c ++ x ∷ []) ∷ []) rest.0 in
      ap (is_before (key c)) whole ∙ before_more (key c) (at_first (c ++ x ∷ [])) rest.0

  siblings : (c : List ℕ) (x y : ℕ) → at_first (c ++ x ∷ []) < at_first (c ++ y ∷ []) → comes_before known (c ++ x ∷ []) (c ++ y ∷ []) ≡ true
  siblings c x y less =
      ap₂ is_before (key_push c x) (key_push c y)
      ∙ before_append (key c) (at_first (c ++ x ∷ []) ∷ []) (at_first (c ++ y ∷ []) ∷ [])
      ∙ before_less (at_first (c ++ x ∷ [])) (at_first (c ++ y ∷ [])) [] [] less

  key_at : (c : List ℕ) (i : ℕ) → i < length c → get_or (key c) i 0 ≡ at_first (take (1 + i) c)
  key_at c i inside = get_or-map-range_with_len (λ n. at_first (take n c)) 1 (length c) i (1 + i) 0 inside refl

  key_long : (c : List ℕ) → length (key c) ≡ length c
  key_long c = length-map-range_with_len (λ n. at_first (take n c)) 1 (length c)

  under : (z : ℕ) (c d ws : List ℕ) → list_any (same (z ∷ c)) known ≡ true → key d ≡ key (z ∷ c) ++ ws → (rest : List ℕ) × (d ≡ z ∷ c ++ rest)
  under z c d ws there extends =
      let n = length c in
      let long : 1 + n ≤ length d = omega (arith, key_long d, ap length extends, length-append (key (z ∷ c)) ws, key_long (z ∷ c)) in
      let one : at_first (take (1 + n) d) ≡ at_first (z ∷ c) =
      sym (key_at d n (omega (arith, long))) ∙ ap (λ k. get_or k n 0) extends
      ∙ get_or-append (key (z ∷ c)) ws 0 n (omega (arith, key_long (z ∷ c))) ∙ key_at (z ∷ c) n (omega arith)
      ∙ ap at_first (take_all (1 + n) (z ∷ c) (omega arith)) in
      let both = common (same (take (1 + n) d)) (same (z ∷ c)) known there one in
      let is : take (1 + n) d ≡ z ∷ c = is_same (take (1 + n) d) both.0 both.1 ∙ sym (is_same (z ∷ c) both.0 both.2) in
      (drop (1 + n) d, sym (take-append-drop (1 + n) d) ∙ ap (λ y. y ++ drop (1 + n) d) is)

  together : (c more d : List ℕ) → list_any (same c) known ≡ true → comes_before known c d ≡ true → comes_before known d (c ++ more) ≡ true → (rest : List ℕ) × (d ≡ c ++ rest)
  together [] more d there after ahead = (d, refl)
  together (z ∷ c) more d there after ahead =
      let rest = key_more (z ∷ c) more in
      let found = between (key (z ∷ c)) (key d) rest.0 after (sym (ap (is_before (key d)) rest.1) ∙ ahead) in
      under z c d found.0 there found.1

pub are_a_tree : ContextsAreATree
are_a_tree = record {
  begun = of_beginnings;
  order = λ known. record { above = above known; together = together known; siblings = siblings known };
}

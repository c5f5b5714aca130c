-- How many things are so.
use Rattle.std.proofs.Common.{inl, inr, ◌≡◌, ◌≢◌, ◌⊎◌, ℕ, zero, suc, ◌+◌, ◌<◌, Bool, true, cond, List, [], ◌∷◌, ◌++◌, map, get_or, refl, sym, ap, ap₂, subst, ◌∙◌, arith}
use Rattle.std.specs.Prelude.{◌↔◌, All, AllPairs, Contains}
use Rattle.std.specs.List.{count_by, filter}
use Rattle.std.proofs.lemmas.Bool.{cases_lt, cond_both}
use Rattle.std.proofs.lemmas.List.{length-append, length-map}
use Rattle.std.proofs.lemmas.List.Elements.{All-contains, All-contains_itself, All-filter, filter_passes, Contains-get_or, Contains-append_left, Contains-append_right, Contains-append_cases}
use Rattle.std.proofs.lemmas.List.Kept.{AllPairs-filter}
use Rattle.std.proofs.lemmas.List.Sums.{length-filter}
use Rattle.trace_model.specs.Positions.{IsNumberOf}
use Rattle.trace_model.proofs.Pairs.{pairs, laters, later_map, later_append, contains_first, contains_map, contains_from_map}

pub none_so : {A : Type 0} (P : A → Type 0) → ((x : A) → ¬ P x) → IsNumberOf P 0
none_so P fails = record {
  list = [];
  many = refl;
  once = λ i j d lt h. absurd (omega (arith, h));
  each = λ x. (λ c. absurd (omega (arith, c.1)), λ p. absurd (fails x p));
}

pub one_so : {A : Type 0} (P : A → Type 0) (x : A) → ((y : A) → P y ↔ (x ≡ y)) → IsNumberOf P 1
one_so P x iff = record {
  list = x ∷ [];
  many = refl;
  once = λ i j d lt h. absurd (omega (arith, lt, h));
  each = λ y. (
    (λ c. (iff y).1 (elim (contains_first x [] y c) [ inl same ↦ same | inr none ↦ absurd (omega (arith, none.1)) ])),
    (λ p. (0, omega arith, (iff y).0 p)),
  );
}

pub same_so : {A : Type 0} (P Q : A → Type 0) (n : ℕ) → ((x : A) → P x ↔ Q x) → IsNumberOf P n → IsNumberOf Q n
same_so P Q n iff k = record {
  list = k.list;
  many = k.many;
  once = k.once;
  each = λ x. (λ c. (iff x).0 ((k.each x).0 c), λ q. (k.each x).1 ((iff x).1 q));
}

-- those of two kinds, where none is of both
pub either_so : {A : Type 0} (P Q R : A → Type 0) (m n : ℕ) → ((x : A) → P x → ¬ Q x) → ((x : A) → R x ↔ (P x ⊎ Q x)) →
    IsNumberOf P m → IsNumberOf Q n → IsNumberOf R (m + n)
either_so P Q R m n apart iff k l =
    let across : All (λ x. All (λ y. x ≢ y) l.list) k.list =
    λ i d in' j e inside same. apart (get_or k.list i d) ((k.each (get_or k.list i d)).0 (Contains-get_or k.list i d in'))
    (subst Q (sym same) ((l.each (get_or l.list j e)).0 (Contains-get_or l.list j e inside))) in
    record {
      list = k.list ++ l.list;
      many = length-append k.list l.list ∙ ap₂ (λ a b. a + b) k.many l.many;
      once = pairs (λ x y. x ≢ y) (k.list ++ l.list)
          (later_append (λ x y. x ≢ y) k.list l.list (laters (λ x y. x ≢ y) k.list k.once) (laters (λ x y. x ≢ y) l.list l.once) across);
      each = λ x. (
        (λ c. (iff x).1 (elim (Contains-append_cases k.list l.list x c) [ inl first ↦ inl ((k.each x).0 first) | inr second ↦ inr ((l.each x).0 second) ])),
        (λ r. elim ((iff x).0 r) [
          | inl p ↦ Contains-append_left k.list l.list x ((k.each x).1 p)
          | inr q ↦ Contains-append_right k.list l.list x ((l.each x).1 q)
        ]),
      );
    }

-- what those are mapped to, where no two are mapped to one
pub mapped_so : {A B : Type 0} (f : A → B) (P : A → Type 0) (Q : B → Type 0) (n : ℕ) → ((x y : A) → P x → P y → f x ≡ f y → x ≡ y) →
    ((y : B) → Q y ↔ ((x : A) × P x × (f x ≡ y))) → IsNumberOf P n → IsNumberOf Q n
mapped_so f P Q n apart iff k =
    let so : All P k.list = λ i d in'. (k.each (get_or k.list i d)).0 (Contains-get_or k.list i d in') in
    record {
      list = map f k.list;
      many = length-map k.list f ∙ k.many;
      once = pairs (λ x y. x ≢ y) (map f k.list) (later_map (λ x y. x ≢ y) f k.list (laters (λ x y. f x ≢ f y) k.list
          (λ i j d lt in' same. k.once i j d lt in' (apart (get_or k.list i d) (get_or k.list j d) (so i d (omega (arith, lt, in'))) (so j d in') same))));
      each = λ y. (
        (λ c. let (x, in', same) = contains_from_map f k.list y c in (iff y).1 (x, (k.each x).0 in', same)),
        (λ q. let (x, p, same) = (iff y).0 q in subst (Contains (map f k.list)) same (contains_map f k.list x ((k.each x).1 p))),
      );
    }

passing : {A : Type 0} (test : A → Bool) (xs : List A) (x : A) → Contains xs x → test x ≡ true → Contains (filter test xs) x
passing test [] x c holds = absurd (omega (arith, c.1))
passing test (y ∷ xs) x c holds =
    elim (contains_first y xs x c) [
      | inl same ↦ subst (λ b. Contains (cond b (y ∷ filter test xs) (filter test xs)) x) (sym (ap test same ∙ holds)) (0, omega arith, same)
      | inr rest ↦
          let kept = passing test xs x rest holds in
          cond_both (test y) (y ∷ filter test xs) (filter test xs) (λ zs. Contains zs x) (λ _. Contains-append_right (y ∷ []) (filter test xs) x kept) (λ _. kept)
    ]

-- the elements of a list that pass a test, where each stands there once
pub passing_so : {A : Type 0} (test : A → Bool) (xs : List A) → AllPairs (λ x y. x ≢ y) xs →
    IsNumberOf (λ x. Contains xs x × (test x ≡ true)) (count_by test xs)
passing_so test xs once = record {
  list = filter test xs;
  many = length-filter test xs;
  once = AllPairs-filter (λ x y. x ≢ y) test xs once;
  each = λ x. (
    (λ c. (
      All-contains (Contains xs) (filter test xs) x (All-filter test (Contains xs) xs (All-contains_itself xs)) c,
      All-contains (λ y. test y ≡ true) (filter test xs) x (filter_passes test xs) c,
    )),
    (λ h. passing test xs x h.0 h.1),
  );
}

-- those at positions below one, by those at each position
pub below_so : {A : Type 0} (at : A → ℕ) (P : A → Type 0) (f : ℕ → ℕ) → f 0 ≡ 0 →
    ((q : ℕ) → (n : ℕ) × (f (suc q) ≡ f q + n) × IsNumberOf (λ x. (at x ≡ q) × P x) n) →
    (q : ℕ) → IsNumberOf (λ x. (at x < q) × P x) (f q)
below_so at P f none each zero = rw none (none_so (λ x. (at x < 0) × P x) (λ x h. absurd (omega (arith, h.0))))
below_so at P f none each (suc q) =
    let (n, more, here) = each q in
    rw more
    (either_so (λ x. (at x < q) × P x) (λ x. (at x ≡ q) × P x) (λ x. (at x < suc q) × P x) (f q) n
    (λ x below same. absurd (omega (arith, below.0, same.0)))
    (λ x. grind (arith, cases_lt (at x) q))
    (below_so at P f none each q)
    here)

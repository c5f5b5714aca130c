-- Where the context of a number stands in the text.
use Rattle.std.proofs.Common.{◌≡◌, ◌≢◌, ℕ, zero, suc, ◌+◌, ◌-◌, ◌<◌, ◌≤◌, Bool, true, false, ◌⊎◌, inl, inr, List, [], ◌∷◌, ◌++◌, length, get_or, take, map, Option, Some, None, refl, sym, ap, ap₂, ◌∙◌, subst, arith, append_assoc, length-append}
use Rattle.std.specs.List.{position_or_len, range_with_len}
use Rattle.std.proofs.lemmas.Bool.{cases_eq, cases_lt}
use Rattle.std.proofs.lemmas.List.{append-nil, append_cancel_left, length_push, same_from_push, take-append-le, take_all}
use Rattle.std.proofs.lemmas.List.FromFn.{map-range_with_len_more}
use Rattle.context_tree.specs.Contexts.{same}
use Rattle.context_tree.specs.Links.{IsNextUnder}
use Rattle.context_tree.specs.Numbers.{NumbersStandFor, above_of, numbered}
use Rattle.context_tree.specs.Order.{IsFollowedBy, is_before, numbers_down_to}
use Rattle.context_tree.specs.Private.Leaving.{Extends, IsLeftBy, IsUnder}
use Rattle.context_tree.proofs.Before.{IsApart, before_append, before_asym, before_less, before_more, before_self, extends_or, has_last}
use Rattle.context_tree.proofs.Numbering.{other_told, same_told}

-- ---- numbers down to a context
map_range : {X : Type 0} (f g : ℕ → X) (a n : ℕ) → ((k : ℕ) → a ≤ k → k < a + n → f k ≡ g k) → map f (range_with_len a n) ≡ map g (range_with_len a n)
map_range f g a zero agree = refl
map_range f g a (suc n) agree =
    ap₂ (λ x xs. x ∷ xs) (agree a (omega arith) (omega arith)) (map_range f g (a + 1) n (λ k low high. agree k (omega (arith, low)) (omega (arith, high))))

down_push : (known : List (List ℕ)) (c : List ℕ) (x : ℕ) → numbers_down_to known (c ++ x ∷ []) ≡ numbers_down_to known c ++ position_or_len (same (c ++ x ∷ [])) known ∷ []
down_push known c x =
    let f : ℕ → ℕ = λ n. position_or_len (same (take n (c ++ x ∷ []))) known in
    ap (λ m. map (λ n. position_or_len (same (take n (c ++ x ∷ []))) known) (range_with_len 1 m)) (length_push c x)
    ∙ map-range_with_len_more (λ n. position_or_len (same (take n (c ++ x ∷ []))) known) 1 (length c) (1 + length c) refl
    ∙ ap₂ (λ ns q. ns ++ q ∷ [])
    (map_range (λ n. position_or_len (same (take n (c ++ x ∷ []))) known) (λ n. position_or_len (same (take n c)) known) 1 (length c)
    (λ k low high. ap (λ d. position_or_len (same d) known) (take-append-le k c (x ∷ []) (omega (arith, high)))))
    (ap (λ d. position_or_len (same d) known) (take_all (1 + length c) (c ++ x ∷ []) (omega (arith, length_push c x))))

first_at : {X : Type 0} (p : X → Bool) (xs : List X) (i : ℕ) (d : X) → i < length xs → p (get_or xs i d) ≡ true → ((j : ℕ) → j < i → p (get_or xs j d) ≡ false) → position_or_len p xs ≡ i
first_at p [] i d lt is before = absurd (omega (arith, lt))
first_at p (x ∷ xs) zero d lt is before = grind (arith, is)
first_at p (x ∷ xs) (suc i) d lt is before =
    let rest : position_or_len p xs ≡ i = first_at p xs i d (omega (arith, lt)) is (λ j less. before (suc j) (omega (arith, less))) in
    let here : p x ≡ false = before 0 (omega arith) in
    grind (arith, rest, here)

module _ (places : List (ℕ × ℕ)) (known : List (List ℕ)) (stands : NumbersStandFor places known) where
  abbrev key : ℕ → List ℕ
  key n = numbers_down_to known (numbered known n)

  position_is : (i : ℕ) → i < length known → position_or_len (same (get_or known i [])) known ≡ i
  position_is i lt =
      first_at (same (get_or known i [])) known i [] lt (same_told (get_or known i []) (get_or known i []) refl)
      (λ j less. other_told (get_or known i []) (get_or known j []) (λ is. stands.once j i less lt (sym is)))

  key_number : (i : ℕ) → i < length known → key (suc i) ≡ key (above_of places (suc i)) ++ i ∷ []
  key_number i lt =
      let at : suc i - 1 ≡ i = omega arith in
      let each = stands.each i lt in
      ap (numbers_down_to known) each ∙ down_push known (numbered known (get_or places i (0, 0)).0) (get_or places i (0, 0)).1
      ∙ ap (λ q. numbers_down_to known (numbered known (get_or places i (0, 0)).0) ++ q ∷ []) (ap (λ c. position_or_len (same c) known) (sym each) ∙ position_is i lt)
      ∙ ap (λ k. numbers_down_to known (numbered known (get_or places k (0, 0)).0) ++ i ∷ []) (sym at)

  above_less : (i : ℕ) → i < length known → above_of places (suc i) ≤ i
  above_less i lt =
      let at : suc i - 1 ≡ i = omega arith in
      subst (λ k. (get_or places k (0, 0)).0 ≤ i) (sym at) (stands.above i lt)

  nothing_more : (u : List ℕ) (j : ℕ) (r : List ℕ) → [] ≢ u ++ j ∷ r
  nothing_more u j r is = absurd (omega (arith, ap length is, length-append u (j ∷ r)))

  -- each beginning of the numbers down to a context are those down to one above it
  pub record IsOnWay (u : List ℕ) (j : ℕ) : Type 0 where
    pub within : suc j ≤ length known
    pub is : key (suc j) ≡ u ++ j ∷ []

  on_way : (most m : ℕ) (u : List ℕ) (j : ℕ) (r : List ℕ) → m ≤ most → m ≤ length known → key m ≡ u ++ j ∷ r → IsOnWay u j
  on_way most zero u j r le within is = absurd (nothing_more u j r is)
  on_way zero (suc i) u j r le within is = absurd (omega (arith, le))
  on_way (suc most) (suc i) u j [] le within is =
      let parts = same_from_push (key (above_of places (suc i))) u i j (sym (key_number i (omega (arith, within))) ∙ is) in
      record {
        within = omega (arith, within, parts.1);
        is = ap key (ap suc (sym parts.1)) ∙ is;
      }
  on_way (suc most) (suc i) u j (x ∷ r) le within is =
      let end = has_last x r in
      let whole : key (above_of places (suc i)) ++ i ∷ [] ≡ (u ++ j ∷ end.front) ++ end.last ∷ [] =
      sym (key_number i (omega (arith, within))) ∙ is ∙ ap (λ rs. u ++ j ∷ rs) end.is ∙ sym (append_assoc u (j ∷ end.front) (end.last ∷ []))
      in
      let less = above_less i (omega (arith, within)) in
      on_way most (above_of places (suc i)) u j end.front (omega (arith, less, le)) (omega (arith, less, within))
      (same_from_push (key (above_of places (suc i))) (u ++ j ∷ end.front) i end.last whole).0

  pub one_key : (m n : ℕ) → m ≤ length known → n ≤ length known → key m ≡ key n → m ≡ n
  one_key zero zero m_in n_in is = refl
  one_key zero (suc j) m_in n_in is = absurd (nothing_more (key (above_of places (suc j))) j [] (is ∙ key_number j (omega (arith, n_in))))
  one_key (suc i) zero m_in n_in is = absurd (nothing_more (key (above_of places (suc i))) i [] (sym is ∙ key_number i (omega (arith, m_in))))
  one_key (suc i) (suc j) m_in n_in is =
      ap suc (same_from_push (key (above_of places (suc i))) (key (above_of places (suc j))) i j (sym (key_number i (omega (arith, m_in))) ∙ is ∙ key_number j (omega (arith, n_in)))).1

  -- what is under a context is, or is under, one right under it
  child_of : (m n j : ℕ) (r : List ℕ) → m ≤ length known → n ≤ length known → key m ≡ key n ++ j ∷ r → (suc j ≤ length known) × (above_of places (suc j) ≡ n)
  child_of m n j r m_in n_in is =
      let way = on_way m m (key n) j r (omega arith) m_in is in
      let parts = same_from_push (key (above_of places (suc j))) (key n) j j (sym (key_number j (omega (arith, way.within))) ∙ way.is) in
      let less = above_less j (omega (arith, way.within)) in
      (way.within, one_key (above_of places (suc j)) n (omega (arith, less, way.within)) n_in parts.0)

  -- one right under a is, or stands before, what is under a later one right under a
  first_of : (a s m j : ℕ) (r : List ℕ) → 1 ≤ s → s ≤ length known → m ≤ length known → above_of places s ≡ a → key m ≡ key a ++ j ∷ r → s ≤ suc j →
      (s ≡ m) ⊎ (is_before (key s) (key m) ≡ true)
  first_of a zero m j r some s_in m_in above is le = absurd (omega (arith, some))
  first_of a (suc t) m j r some s_in m_in above is le = elim (cases_eq t j) [
    | inl same ↦
        let whole : key m ≡ key (suc t) ++ r =
        is ∙ sym (append_assoc (key a) (j ∷ []) r) ∙ ap (λ u. u ++ r) (ap₂ (λ b i. key b ++ i ∷ []) (sym above) (sym same) ∙ sym (key_number t (omega (arith, s_in))))
        in
        by r whole
    | inr other ↦
        inr (ap₂ (λ u v. is_before u v) (key_number t (omega (arith, s_in)) ∙ ap (λ b. key b ++ t ∷ []) above) is
        ∙ before_append (key a) (t ∷ []) (j ∷ r) ∙ before_less t j [] r (omega (arith, le, other)))
  ]
    where
      by : (r : List ℕ) → key m ≡ key (suc t) ++ r → (suc t ≡ m) ⊎ (is_before (key (suc t)) (key m) ≡ true)
      by [] whole = inl (one_key (suc t) m s_in m_in (sym (whole ∙ append-nil (key (suc t)))))
      by (x ∷ r) whole = inr (ap (is_before (key (suc t))) whole ∙ before_more (key (suc t)) x r)

  -- ---- after a context and all that are under it
  abbrev pub IsOut : ℕ → ℕ → Type 0
  IsOut n m = (is_before (key n) (key m) ≡ true) × (Extends (key n) (key m) → ⊥)

  -- what is out of a context is out of the one above it, or under a later one right under that
  pub data Leaves (a n m : ℕ) : Type 0 where
    further : IsOut a m → Leaves a n m
    later : (j : ℕ) (r : List ℕ) → key m ≡ key a ++ j ∷ r → n < suc j → Leaves a n m

  key_of : (n : ℕ) → 1 ≤ n → n ≤ length known → key n ≡ key (above_of places n) ++ (n - 1) ∷ []
  key_of zero some within = absurd (omega (arith, some))
  key_of (suc i) some within = let at : i ≡ suc i - 1 = omega arith in key_number i (omega (arith, within)) ∙ ap (λ j. key (above_of places (suc i)) ++ j ∷ []) at

  leaves : (n m : ℕ) → 1 ≤ n → n ≤ length known → m ≤ length known → IsOut n m → Leaves (above_of places n) n m
  leaves n m some n_in m_in out = by (extends_or (key (above_of places n)) (key m))
    where
      by_rest : (rest : List ℕ) → key m ≡ key (above_of places n) ++ rest → is_before ((n - 1) ∷ []) rest ≡ true → Leaves (above_of places n) n m
      by_rest [] whole less = absurd (cc)
      by_rest (j ∷ r) whole less = elim (cases_eq (n - 1) j) [
        | inl same ↦
            absurd (out.1 (record {
              rest = r;
              is = whole ∙ ap (λ x. key (above_of places n) ++ x ∷ r) (sym same) ∙ sym (append_assoc (key (above_of places n)) ((n - 1) ∷ []) r) ∙ ap (λ u. u ++ r) (sym (key_of n some n_in));
            }))
        | inr other ↦
            elim (cases_lt (n - 1) j) [
              | inl under ↦ later j r whole (omega (arith, under, some))
              | inr over ↦ absurd (before_asym ((n - 1) ∷ []) (j ∷ r) less (before_less j (n - 1) r [] (omega (arith, over, other))))
            ]
      ]

      by : Extends (key (above_of places n)) (key m) ⊎ IsApart (key (above_of places n)) (key m) → Leaves (above_of places n) n m
      by (inl e) = by_rest e.rest e.is (sym (before_append (key (above_of places n)) ((n - 1) ∷ []) e.rest) ∙ sym (ap₂ is_before (key_of n some n_in) e.is) ∙ out.0)
      by (inr apart) = further (sym (apart.same ((n - 1) ∷ [])) ∙ ap (λ u. is_before u (key m)) (sym (key_of n some n_in)) ∙ out.0, apart.free)

  out_up : (n m : ℕ) → 1 ≤ n → n ≤ length known → IsOut (above_of places n) m → IsOut n m
  out_up n m some n_in out = by (extends_or (key (above_of places n)) (key m))
    where
      by : Extends (key (above_of places n)) (key m) ⊎ IsApart (key (above_of places n)) (key m) → IsOut n m
      by (inl e) = absurd (out.1 e)
      by (inr apart) = (
        ap (λ u. is_before u (key m)) (key_of n some n_in) ∙ apart.same ((n - 1) ∷ []) ∙ out.0,
        λ e. out.1 (record { rest = (n - 1) ∷ e.rest; is = e.is ∙ ap (λ u. u ++ e.rest) (key_of n some n_in) ∙ append_assoc (key (above_of places n)) ((n - 1) ∷ []) e.rest }),
      )

  out_none : (n m : ℕ) → 1 ≤ n → n ≤ length known → m ≤ length known → IsNextUnder places (above_of places n) n None → IsOut n m → IsOut (above_of places n) m
  out_none n m some n_in m_in none out = by (leaves n m some n_in m_in out)
    where
      by : Leaves (above_of places n) n m → IsOut (above_of places n) m
      by (further up) = up
      by (later j r whole less) =
          let above_in : above_of places n ≤ length known = above_in_of n some n_in in
          let child = child_of m (above_of places n) j r m_in above_in whole in
          absurd (none (suc j) less (omega (arith, child.0, stands.long)) child.1)
        where
          above_in_of : (n : ℕ) → 1 ≤ n → n ≤ length known → above_of places n ≤ length known
          above_in_of zero some within = absurd (omega (arith, some))
          above_in_of (suc i) some within = omega (arith, above_less i (omega (arith, within)), within)

  above_in : (n : ℕ) → 1 ≤ n → n ≤ length known → above_of places n ≤ length known
  above_in zero some within = absurd (omega (arith, some))
  above_in (suc i) some within = omega (arith, above_less i (omega (arith, within)), within)

  -- the next one right under the same
  out_next : (n s : ℕ) → 1 ≤ n → n ≤ length known → IsNextUnder places (above_of places n) n (Some s) → IsOut n s
  out_next n s some n_in next =
      let s_in : s ≤ length known = omega (arith, next.1, stands.long) in
      let key_s : key s ≡ key (above_of places n) ++ (s - 1) ∷ [] = key_of s (omega (arith, next.0)) s_in ∙ ap (λ a. key a ++ (s - 1) ∷ []) next.2 in (
        ap₂ is_before (key_of n some n_in) key_s ∙ before_append (key (above_of places n)) ((n - 1) ∷ []) ((s - 1) ∷ []) ∙ before_less (n - 1) (s - 1) [] [] (omega (arith, some, next.0)),
        λ e.
            let whole : (s - 1) ∷ [] ≡ (n - 1) ∷ e.rest =
            append_cancel_left (key (above_of places n)) ((s - 1) ∷ []) ((n - 1) ∷ e.rest) (sym key_s ∙ e.is ∙ ap (λ u. u ++ e.rest) (key_of n some n_in) ∙ append_assoc (key (above_of places n)) ((n - 1) ∷ []) e.rest)
            in
            let same : s - 1 ≡ n - 1 = cc in
            absurd (omega (arith, same, some, next.0)),
      )

  out_least : (n s m : ℕ) → 1 ≤ n → n ≤ length known → m ≤ length known → IsNextUnder places (above_of places n) n (Some s) → IsOut n m → (s ≡ m) ⊎ (is_before (key s) (key m) ≡ true)
  out_least n s m some n_in m_in next out = by (leaves n m some n_in m_in out)
    where
      s_in : s ≤ length known
      s_in = omega (arith, next.1, stands.long)

      by : Leaves (above_of places n) n m → (s ≡ m) ⊎ (is_before (key s) (key m) ≡ true)
      by (further up) = inr (out_up s m (omega (arith, next.0)) s_in (subst (λ a. IsOut a m) (sym next.2) up)).0
      by (later j r whole less) =
          let child = child_of m (above_of places n) j r m_in (above_in n some n_in) whole in
          first_of (above_of places n) s m j r (omega (arith, next.0)) s_in m_in next.2 whole
          (elim (cases_lt (suc j) s) [
            | inl small ↦ absurd (next.3 (suc j) less small child.1)
            | inr big ↦ big
          ])

  -- ---- climbing from a context
  pub record IsClimbing (from n : ℕ) : Type 0 where
    pub within : n ≤ length known
    pub up : (m : ℕ) → 1 ≤ m → m ≤ length known → is_before (key from) (key m) ≡ true → Extends (key from) (key m) ⊎ IsOut n m
    pub back : (m : ℕ) → 1 ≤ m → m ≤ length known → IsOut n m → is_before (key from) (key m) ≡ true

  pub climbs_first : (from : ℕ) → from ≤ length known → IsClimbing from from
  climbs_first from within = record {
    within = within;
    up = λ m some m_in less. by m less (extends_or (key from) (key m));
    back = λ m some m_in out. out.0;
  }
    where
      by : (m : ℕ) → is_before (key from) (key m) ≡ true → Extends (key from) (key m) ⊎ IsApart (key from) (key m) → Extends (key from) (key m) ⊎ IsOut from m
      by m less (inl e) = inl e
      by m less (inr apart) = inr (less, apart.free)

  pub climbs_on : (from n : ℕ) → 1 ≤ n → IsClimbing from n → IsNextUnder places (above_of places n) n None → IsClimbing from (above_of places n)
  climbs_on from n some climbs none = record {
    within = above_in n some climbs.within;
    up = λ m m_some m_in less. by m m_in (climbs.up m m_some m_in less);
    back = λ m m_some m_in out. climbs.back m m_some m_in (out_up n m some climbs.within out);
  }
    where
      by : (m : ℕ) → m ≤ length known → Extends (key from) (key m) ⊎ IsOut n m → Extends (key from) (key m) ⊎ IsOut (above_of places n) m
      by m m_in (inl e) = inl e
      by m m_in (inr out) = inr (out_none n m some climbs.within m_in none out)

  pub climbed : (from n s : ℕ) → 1 ≤ n → IsClimbing from n → IsNextUnder places (above_of places n) n (Some s) → IsLeftBy known (numbered known from) (Some s)
  climbed from n s some climbs next = (
    omega (arith, next.0),
    omega (arith, next.1, stands.long),
    climbs.back s (omega (arith, next.0)) (omega (arith, next.1, stands.long)) (out_next n s some climbs.within next),
    λ m m_some m_in less. by m m_in (climbs.up m m_some m_in less),
  )
    where
      by : (m : ℕ) → m ≤ length known → Extends (key from) (key m) ⊎ IsOut n m → IsUnder known (numbered known from) (numbered known m) ⊎ ((s ≡ m) ⊎ (is_before (key s) (key m) ≡ true))
      by m m_in (inl e) = inl e
      by m m_in (inr out) = inr (out_least n s m some climbs.within m_in next out)

  pub climbed_out : (from : ℕ) → IsClimbing from 0 → IsLeftBy known (numbered known from) None
  climbed_out from climbs m m_some m_in less = by (climbs.up m m_some m_in less)
    where
      by : Extends (key from) (key m) ⊎ IsOut 0 m → IsUnder known (numbered known from) (numbered known m)
      by (inl e) = e
      by (inr out) = absurd (out.1 (record { rest = key m; is = refl }))

  -- ---- the one that comes next
  pub follows_child : (n s : ℕ) → n ≤ length known → IsNextUnder places n 0 (Some s) → IsFollowedBy known (numbered known n) (Some s)
  follows_child n s n_in next = (
    omega (arith, next.0),
    s_in,
    ap (is_before (key n)) key_s ∙ before_more (key n) (s - 1) [],
    λ m m_some m_in less. by m m_in less (extends_or (key n) (key m)),
  )
    where
      s_in : s ≤ length known
      s_in = omega (arith, next.1, stands.long)

      key_s : key s ≡ key n ++ (s - 1) ∷ []
      key_s = key_of s (omega (arith, next.0)) s_in ∙ ap (λ a. key a ++ (s - 1) ∷ []) next.2

      by_rest : (m : ℕ) → m ≤ length known → (rest : List ℕ) → key m ≡ key n ++ rest → is_before (key n) (key m) ≡ true → (s ≡ m) ⊎ (is_before (key s) (key m) ≡ true)
      by_rest m m_in [] whole less =
          let self : is_before (key n) (key m) ≡ false = ap (is_before (key n)) (whole ∙ append-nil (key n)) ∙ before_self (key n) in absurd (cc)
      by_rest m m_in (j ∷ r) whole less =
          let child = child_of m n j r m_in n_in whole in
          first_of n s m j r (omega (arith, next.0)) s_in m_in next.2 whole
          (elim (cases_lt (suc j) s) [
            | inl small ↦ absurd (next.3 (suc j) (omega arith) small child.1)
            | inr big ↦ big
          ])

      by : (m : ℕ) → m ≤ length known → is_before (key n) (key m) ≡ true → Extends (key n) (key m) ⊎ IsApart (key n) (key m) → (s ≡ m) ⊎ (is_before (key s) (key m) ≡ true)
      by m m_in less (inl e) = by_rest m m_in e.rest e.is less
      by m m_in less (inr apart) = inr (ap (λ u. is_before u (key m)) key_s ∙ apart.same ((s - 1) ∷ []) ∙ less)

  none_under : (n m : ℕ) → n ≤ length known → m ≤ length known → IsNextUnder places n 0 None → is_before (key n) (key m) ≡ true → Extends (key n) (key m) → ⊥
  none_under n m n_in m_in none less e = by e.rest e.is
    where
      by : (rest : List ℕ) → key m ≡ key n ++ rest → ⊥
      by [] whole = let self : is_before (key n) (key m) ≡ false = ap (is_before (key n)) (whole ∙ append-nil (key n)) ∙ before_self (key n) in absurd (cc)
      by (j ∷ r) whole = let child = child_of m n j r m_in n_in whole in none (suc j) (omega arith) (omega (arith, child.0, stands.long)) child.1

  pub follows_others : (n : ℕ) (o : Option ℕ) → n ≤ length known → IsNextUnder places n 0 None → IsLeftBy known (numbered known n) o → IsFollowedBy known (numbered known n) o
  follows_others n None n_in none left = λ m m_some m_in less. none_under n m n_in m_in none less (left m m_some m_in less)
  follows_others n (Some s) n_in none left = (left.0, left.1, left.2, λ m m_some m_in less. by m m_in less (left.3 m m_some m_in less))
    where
      by : (m : ℕ) → m ≤ length known → is_before (key n) (key m) ≡ true → IsUnder known (numbered known n) (numbered known m) ⊎ ((s ≡ m) ⊎ (is_before (key s) (key m) ≡ true)) →
          (s ≡ m) ⊎ (is_before (key s) (key m) ≡ true)
      by m m_in less (inl e) = absurd (none_under n m n_in m_in none less e)
      by m m_in less (inr after) = after

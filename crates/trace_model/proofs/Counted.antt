-- Costs and sizes are numbers of things at positions.
use Rattle.std.proofs.Common.{inl, inr, ◌≡◌, ◌≢◌, ◌⊎◌, ℕ, suc, ◌+◌, ◌-◌, ◌<◌, ◌≤◌, Bool, true, not, List, [], ◌∷◌, ◌++◌, length, drop, get_or, reverse, Some, refl, sym, ap, ap₂, subst, ◌∙◌, arith}
use Rattle.std.specs.Prelude.{◌↔◌, AllPairs, Contains}
use Rattle.std.specs.List.{count_by, range_with_len}
use Rattle.std.proofs.lemmas.Bool.{eq-eqb, ne_eqb, cases_eq, cases_lt, cases_order, not-true, not_from_false}
use Rattle.std.proofs.lemmas.List.{drop_more, get_or-reverse, get_or-take, length-drop, length-reverse, length-take, take-append-drop}
use Rattle.std.proofs.lemmas.List.FromFn.{length-range_with_len, get_or-range_with_len}
use Rattle.std.proofs.lemmas.Option.{get_or_from_slice_get, slice_get_cases}
use Rattle.trace_model.specs.declared.event_kinds.Event.{Event}
use Rattle.trace_model.specs.declared.event_kinds.Event.TheVariants.{Step, Read}
use Rattle.trace_model.specs.Events.{words_read, steps_run}
use Rattle.trace_model.specs.Sizes.{since, before, known, accessed, count_pairs, size, bare, cost}
use Rattle.trace_model.specs.Causes.{counts_by, part}
use Rattle.trace_model.specs.Laws.{IsInRange}
use Rattle.trace_model.specs.Positions.{event_at, between, IsNumberOf, CostCountsSteps, IsStepBetween, WordAt, IsReadOf, IsUnknownRead, SizeCountsUnknownReads, IsUnknownReadBy, PartsCountUnknownReads, IsReadFirst, BareCountsWords}
use Rattle.trace_model.proofs.Known.{accessed_tells}
use Rattle.trace_model.proofs.Numbers.{none_so, one_so, same_so, mapped_so, passing_so, below_so}
use Rattle.trace_model.proofs.Positions.{event_within, before_all, event_before, before_before, since_more, since_none}

-- where an event stands, counted from the newest
event_back : (past : List Event) (p : ℕ) (e : Event) → event_at past p ≡ Some e → get_or past (length past - 1 - p) e ≡ e
event_back past p e is = sym (get_or-reverse past p e (event_within past p e is)) ∙ get_or_from_slice_get (reverse past) p e e is

before_next : (past : List Event) (q : ℕ) (e : Event) → event_at past q ≡ Some e → before past (suc q) ≡ e ∷ before past q
before_next past q e is =
    let within = event_within past q e is in
    let k = length past - 1 - q in
    let from : length past - suc q ≡ k = omega arith in
    let next : k + 1 ≡ length past - q = omega (arith, within) in
    ap (λ n. drop n past) from ∙ drop_more past k e (omega (arith, within)) ∙ ap₂ (λ f n. f ∷ drop n past) (event_back past q e is) next

between_none : (past : List Event) (a q : ℕ) → q ≤ a + 1 → between past a q ≡ []
between_none past a q soon = since_none (before past q) a (omega (arith, soon, length-drop (length past - q) past))

-- the events between two positions with those at one more: there is an event there, or it adds none
between_next : (past : List Event) (a q : ℕ) →
    ((e : Event) × (a < q) × (event_at past q ≡ Some e) × (between past a (suc q) ≡ e ∷ between past a q))
    ⊎ ((between past a (suc q) ≡ between past a q) × ((q ≤ a) ⊎ (length past ≤ q)))
between_next past a q =
    elim (cases_lt a q) [
      | inr soon ↦ inr (between_none past a (suc q) (omega (arith, soon)) ∙ sym (between_none past a q (omega (arith, soon))), inl soon)
      | inl after ↦ elim ((slice_get_cases (reverse past) q).1) [
        | inl (e, within, is, same) ↦
            let further = since_more e (before past q) a (omega (arith, after, within, length-reverse past, length-drop (length past - q) past)) in
            inl (e, after, is, ap (λ es. since es a) (before_next past q e is) ∙ further)
        | inr (over, nothing) ↦
            let late : length past ≤ q = omega (arith, over, length-reverse past) in
            inr (ap (λ es. since es a) (before_all past (suc q) (omega (arith, late)) ∙ sym (before_all past q late)), inr late)
      ]
    ]

-- A total over the events between two positions, to which each event adds the number of the things at its position.
module _ {A : Type 0} (at : A → ℕ) (P : A → Type 0) (past : List Event) (a : ℕ) (stands : (x : A) → P x → (a < at x) × (at x < length past))
    (total : List Event → ℕ) (added : Event → List Event → ℕ) (none : total [] ≡ 0)
    (more : (e : Event) (inside : List Event) → total (e ∷ inside) ≡ total inside + added e inside)
    (each : (e : Event) (q : ℕ) → a < q → event_at past q ≡ Some e → IsNumberOf (λ x. (at x ≡ q) × P x) (added e (between past a q))) where
  next : (q : ℕ) → (n : ℕ) × (total (between past a (suc q)) ≡ total (between past a q) + n) × IsNumberOf (λ x. (at x ≡ q) × P x) n
  next q =
      elim (between_next past a q) [
        | inl (e, after, is, new) ↦ (added e (between past a q), ap total new ∙ more e (between past a q), each e q after is)
        | inr (same, away) ↦ (0, omega (arith, ap total same), none_so (λ x. (at x ≡ q) × P x) (λ x h. grind (arith, away, stands x h.1)))
      ]

  pub counted : (q : ℕ) → IsNumberOf (λ x. (at x < q) × P x) (total (between past a q))
  counted = below_so at P (λ q. total (between past a q)) (ap total (between_none past a 0 (omega arith)) ∙ none) next

abbrev IsStepAt : List Event → ℕ → ℕ → ℕ → Type 0
IsStepAt past t a p = (a < p) × (event_at past p ≡ Some (Step t))

steps_at : (past : List Event) (t a : ℕ) (e : Event) (q : ℕ) → a < q → event_at past q ≡ Some e →
    IsNumberOf (λ p. (p ≡ q) × IsStepAt past t a p) (steps_run e t)
steps_at past t a (Step b) q after is =
    elim (cases_eq b t) [
      | inl same ↦ rw (eq-eqb b t same) (one_so (λ p. (p ≡ q) × IsStepAt past t a p) q (λ p. grind (arith, same, after, is)))
      | inr other ↦ rw (ne_eqb b t other) (none_so (λ p. (p ≡ q) × IsStepAt past t a p) (λ p h. other (cc)))
    ]
steps_at past t a e q after is = none_so (λ p. (p ≡ q) × IsStepAt past t a p) (λ p h. cc)

pub cost_counted : CostCountsSteps
cost_counted past t a q =
    same_so (λ p. (p < q) × IsStepAt past t a p) (IsStepBetween past t a q) (cost (between past a q) t) (λ p. grind arith)
    (counted (λ p. p) (IsStepAt past t a) past a (λ p h. (h.0, event_within past p (Step t) h.1))
    (λ es. cost es t) (λ e inside. steps_run e t) refl (λ e inside. refl) (steps_at past t a) q)

in_range : (first count l : ℕ) → Contains (range_with_len first count) l ↔ IsInRange first count l
in_range first count l = (
  (λ (k, in', is).
      let within : k < count = omega (arith, in', length-range_with_len first count) in
      omega (arith, within, is, get_or-range_with_len first count k l within)),
  (λ (low, high).
      let within : l - first < count = omega (arith, low, high) in
      (l - first, omega (arith, within, length-range_with_len first count), omega (arith, low, get_or-range_with_len first count (l - first) l within))),
)

range_apart : (first count : ℕ) → AllPairs (λ x y. x ≢ y) (range_with_len first count)
range_apart first count i j d lt in' same = grind (arith, length-range_with_len, get_or-range_with_len)

-- thread t reads the word at the position, behind the other, and the pair passes the test
abbrev pub IsPairAt : (List Event → ℕ → Bool) → List Event → ℕ → ℕ → WordAt → Type 0
IsPairAt test past t a w = (a < w.at) × IsReadOf past t w × (test (between past a w.at) w.word ≡ true)

-- it does so, and the position stands before a third
abbrev pub IsPairBetween : (List Event → ℕ → Bool) → List Event → ℕ → ℕ → ℕ → WordAt → Type 0
IsPairBetween test past t a q w = (w.at < q) × IsPairAt test past t a w

pairs_at : (test : List Event → ℕ → Bool) (past : List Event) (t a : ℕ) (e : Event) (q : ℕ) → a < q → event_at past q ≡ Some e →
    IsNumberOf (λ w. (w.at ≡ q) × IsPairAt test past t a w) (count_by (test (between past a q)) (words_read e t))
pairs_at test past t a (Read b first count) q after is =
    let counts = test (between past a q) in
    elim (cases_eq b t) [
      | inl own ↦ rw (eq-eqb b t own)
          (mapped_so (λ l. record { at = q; word = l }) (λ l. Contains (range_with_len first count) l × (counts l ≡ true))
          (λ w. (w.at ≡ q) × IsPairAt test past t a w) (count_by counts (range_with_len first count))
          (λ l m _ _ same. ap (λ (w : WordAt). w.word) same)
          (λ w. (
            (λ (here, (above, (f, c, there, range), passes)).
                let low : first ≡ f = cc in
                let high : count ≡ c = cc in
                let inside = (in_range first count w.word).1 (omega (arith, low, range.0), omega (arith, low, high, range.1)) in
                (w.word, (inside, ap (λ p. test (between past a p) w.word) (sym here) ∙ passes), (λ i. record { at = sym here i; word = w.word }))),
            (λ (l, (inside, passes), same).
                let read = is ∙ ap (λ u. Some (Read u first count)) own in
                subst (λ w. (w.at ≡ q) × IsPairAt test past t a w) same (refl, (after, (first, count, read, (in_range first count l).0 inside), passes))),
          ))
          (passing_so counts (range_with_len first count) (range_apart first count)))
      | inr other ↦ rw (ne_eqb b t other) (none_so (λ w. (w.at ≡ q) × IsPairAt test past t a w) (λ w (here, (above, (f, c, there, range), passes)). other (cc)))
    ]
pairs_at test past t a e q after is = none_so (λ w. (w.at ≡ q) × IsPairAt test past t a w) (λ w (here, (above, (f, c, there, range), passes)). cc)

pub pairs_counted : (test : List Event → ℕ → Bool) (past : List Event) (t a q : ℕ) →
    IsNumberOf (IsPairBetween test past t a q) (count_pairs test (between past a q) t)
pairs_counted test past t a q =
    counted (λ (w : WordAt). w.at) (IsPairAt test past t a) past a
    (λ w (above, (f, c, there, range), passes). (above, event_within past w.at (Read t f c) there))
    (λ es. count_pairs test es t) (λ e inside. count_by (test inside) (words_read e t)) refl (λ e inside. refl) (pairs_at test past t a) q

pub size_counted : SizeCountsUnknownReads
size_counted past t a q =
    let test : List Event → ℕ → Bool = λ earlier l. not (known earlier t l) in
    same_so (IsPairBetween test past t a q) (IsUnknownRead past t a q) (size (between past a q) t)
    (λ w. grind arith) (pairs_counted test past t a q)

-- the events inside up to a position and those before
inside_before : (past : List Event) (a p : ℕ) → a < p → between past a p ++ before past (a + 1) ≡ before past p
inside_before past a p after =
    ap (λ es. between past a p ++ es) (sym (before_before past p (a + 1) (omega (arith, after))))
    ∙ take-append-drop (length (before past p) - (a + 1)) (before past p)

pub parts_counted : PartsCountUnknownReads
parts_counted cause past t a q =
    let test : List Event → ℕ → Bool = λ earlier l. counts_by cause earlier (before past (a + 1)) t l in
    same_so (IsPairBetween test past t a q) (IsUnknownReadBy cause past t a q) (part cause (between past a q) (before past (a + 1)) t)
    (λ w. grind (arith, inside_before past a w.at)) (pairs_counted test past t a q)

in_since : (past : List Event) (a p : ℕ) (e : Event) → a < p → event_at past p ≡ Some e → Contains (since past a) e
in_since past a p e after is =
    let within = event_within past p e is in
    let n = length past - (a + 1) in
    let k = length past - 1 - p in
    (k, omega (arith, after, within, length-take n past), get_or-take n past k e (omega (arith, after, within)) ∙ event_back past p e is)

abbrev is_new : ℕ → List Event → ℕ → Bool
is_new t earlier l = not (accessed earlier t l)

-- a word that was read is not new
not_again : (past : List Event) (t a q : ℕ) (w v : WordAt) → IsPairBetween (is_new t) past t a q w → IsPairBetween (is_new t) past t a q v →
    w.word ≡ v.word → ¬ (w.at < v.at)
not_again past t a q w v (until, (after, (first, count, is, range), passes)) g same earlier =
    let e = Read t first count in
    let there = in_since (before past v.at) a w.at e after (event_before past v.at w.at earlier ∙ is) in
    grind (arith, (accessed_tells (between past a v.at) t w.word).1 (e, there, (refl, range)))

pub bare_counted : BareCountsWords
bare_counted past t a q =
    mapped_so (λ (w : WordAt). w.word) (IsPairBetween (is_new t) past t a q) (IsReadFirst past t a q) (bare (between past a q) t)
    (λ w v h g same. elim (cases_order w.at v.at) [
      | inl here ↦ (λ i. record { at = here i; word = same i })
      | inr (inl earlier) ↦ absurd (not_again past t a q w v h g same earlier)
      | inr (inr later) ↦ absurd (not_again past t a q v w g h (sym same) later)
    ])
    (λ l. (
      (λ h. (
        record { at = h.at; word = l },
        (h.until, (h.after, h.read, not_from_false (accessed (between past a h.at) t l) h.first)),
        refl,
      )),
      (λ (w, (until, (after, read, passes)), is).
          let first = not-true (accessed (between past a w.at) t w.word) passes in
          subst (IsReadFirst past t a q) is (record { at = w.at; after = after; until = until; read = read; first = first })),
    ))
    (pairs_counted (is_new t) past t a q)

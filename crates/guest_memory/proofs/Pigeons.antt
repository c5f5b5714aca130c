-- No more distinct threads have a reservation than a list of all of them has places.
use Rattle.std.proofs.Common.{◌≡◌, ℕ, zero, suc, ◌+◌, ◌-◌, ◌<◌, ◌≤◌, Bool, true, false, cond, ◌==◌, List, [], ◌∷◌, length, get_or, take, set, Option, Some, None, arith, refl, ap, sym, ◌∙◌}
use Rattle.std.specs.Prelude.{is_some, is_none, Contains}
use Rattle.std.proofs.lemmas.Bool.{and_parts, eq-eqb}
use Rattle.std.proofs.lemmas.List.{get_or_default, length-take-le, take_more_set}
use Rattle.guest_words.specs.declared.limits.TheConstants.{THREADS}
use Rattle.guest_memory.specs.declared.reservations.Reservations.{Reservations}
use Rattle.guest_memory.specs.ReservedBy.{reserved_by}
use Rattle.guest_memory.specs.Reserved.{Reserved, HoldAtMost, with_word, without_thread}
use Rattle.guest_memory.specs.Holders.{held_in, is_distinct}
use Rattle.guest_memory.proofs.HeldWords.{none_from, held_first, held_later, held_in-push, is_distinct-push}

-- a list without one place
minus : ℕ → List ℕ → List ℕ
minus k [] = []
minus zero (x ∷ xs) = xs
minus (suc k) (x ∷ xs) = x ∷ minus k xs

length-minus : (k : ℕ) (xs : List ℕ) → k < length xs → length xs ≡ length (minus k xs) + 1
unfolding minus
length-minus k [] low = absurd (omega arith)
length-minus zero (x ∷ xs) low = omega arith
length-minus (suc k) (x ∷ xs) low = let rest = length-minus k xs (omega arith) in omega arith

-- what stood at another place is still there
Contains-minus : (k : ℕ) (xs : List ℕ) (x : ℕ) → (get_or xs k x ≡ x → ⊥) → Contains xs x → Contains (minus k xs) x
unfolding minus
Contains-minus k [] x other (j, low, is) = absurd (omega arith)
Contains-minus zero (y ∷ ys) x other (zero, low, is) = absurd (other is)
Contains-minus zero (y ∷ ys) x other (suc j, low, is) = (j, omega arith, is)
Contains-minus (suc k) (y ∷ ys) x other (zero, low, is) = (0, omega arith, is)
Contains-minus (suc k) (y ∷ ys) x other (suc j, low, is) =
    let rest = Contains-minus k ys x other (j, omega arith, is) in
    let lower = rest.1 in
    (suc rest.0, omega arith, rest.2)

pub distinct_few : (xs : List (ℕ × ℕ)) (holders : List ℕ) → is_distinct xs ≡ true → ((tid : ℕ) → is_some (held_in xs tid) ≡ true → Contains holders tid) → length xs ≤ length holders
distinct_few [] holders distinct each = omega arith
distinct_few ((t, w) ∷ rest) holders distinct each =
    let parts = and_parts (is_none (held_in rest t)) (is_distinct rest) distinct in
    let alone : held_in rest t ≡ None = none_from (held_in rest t) parts.0 in
    let place = each t (ap (λ (o : Option ℕ). is_some o) (held_first t w rest t refl)) in
    let low : place.0 < length holders = place.1 in
    let fewer = length-minus place.0 holders low in
    let others : (tid : ℕ) → is_some (held_in rest tid) ≡ true → Contains (minus place.0 holders) tid =
    λ tid some.
    let apart : tid ≡ t → ⊥ = λ same. let bad : false ≡ true = sym (ap (λ (o : Option ℕ). is_some o) (ap (held_in rest) same ∙ alone)) ∙ some in cc in
    let not_there : get_or holders place.0 tid ≡ tid → ⊥ = λ is. apart (sym is ∙ (get_or_default holders place.0 tid t low ∙ place.2)) in
    Contains-minus place.0 holders tid not_there (each tid (ap (λ (o : Option ℕ). is_some o) (held_later t w rest tid apart) ∙ some)) in
    let some_more = distinct_few rest (minus place.0 holders) parts.1 others in
    omega arith

-- where fewer than `THREADS` threads have a reservation there is room for one more
pub room_left : (r : Reservations) (held : Reserved) → reserved_by r ≡ held → HoldAtMost held (THREADS - 1) → r.count < THREADS
unfolding reserved_by
room_left r held means most =
    let long : length (take r.count r.holders) ≡ r.count = length-take-le r.count r.holders (omega (arith, r.few, r.places)) in
    let fewer = distinct_few (take r.count r.holders) most.holders r.distinct (λ tid some. most.each tid (ap (λ (h : Reserved). is_some (h tid)) (sym means) ∙ some)) in
    omega (arith, long, fewer, most.few)

nothing_held : (r : Reservations) (before : Reserved) (tid : ℕ) → reserved_by r ≡ without_thread before tid → held_in (take r.count r.holders) tid ≡ None
unfolding reserved_by
nothing_held r before tid means = ap (λ (h : Reserved). h tid) means ∙ ap (λ (b : Bool). cond b None (before tid)) (eq-eqb tid tid refl)

over_none : (b : Bool) (word : ℕ) (o : Option ℕ) → cond b (Some word) (cond b None o) ≡ cond b (Some word) o
over_none true word o = refl
over_none false word o = refl

-- one more is reserved
pub reserved_more : (r : Reservations) (before : Reserved) (tid word : ℕ) → r.count < THREADS → reserved_by r ≡ without_thread before tid
    → held_in (take (r.count + 1) (set r.holders r.count (tid, word))) ≡ with_word before tid word
unfolding reserved_by
reserved_more r before tid word room means = λ i q.
    (ap (λ (xs : List (ℕ × ℕ)). held_in xs q) (take_more_set r.holders r.count (tid, word) (omega (arith, r.places, room)))
    ∙ held_in-push (take r.count r.holders) tid word q (nothing_held r before tid means)
    ∙ ap (λ (h : Reserved). cond (q == tid) (Some word) (h q)) means
    ∙ over_none (q == tid) word (before q)) i

-- threads stay distinct
pub distinct_more : (r : Reservations) (before : Reserved) (tid word : ℕ) → r.count < THREADS → reserved_by r ≡ without_thread before tid
    → is_distinct (take (r.count + 1) (set r.holders r.count (tid, word))) ≡ true
distinct_more r before tid word room means =
    ap is_distinct (take_more_set r.holders r.count (tid, word) (omega (arith, r.places, room)))
    ∙ is_distinct-push (take r.count r.holders) tid word r.distinct (nothing_held r before tid means)

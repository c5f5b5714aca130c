-- Lists of waiters, parted one by one.
use Rattle.std.proofs.Common.{◌≡◌, ◌⊎◌, ℕ, zero, suc, ◌+◌, ◌<◌, ◌≤◌, Bool, true, false, not, ◌||◌, cond, nat_eq, List, [], ◌∷◌, ◌++◌, length, take, map, filter, get_or, refl, sym, ap, ap₂, ◌∙◌, subst, inl, inr, arith}
use Rattle.std.proofs.lemmas.List.{append-nil, take_all, take_more, take-append-le, length-append}
use Rattle.std.proofs.lemmas.List.Elements.{filter-append}
use Rattle.std.proofs.lemmas.List.Folds.{list_any-append}
use Rattle.std.proofs.lemmas.Bool.{eq-eqb, or_parts}
use Rattle.std.proofs.Math.Bool.{or-false, or-true}
use Rattle.std.proofs.lemmas.Bool.Decides.{nat_tests}
use Rattle.guest_words.specs.declared.limits.TheConstants.{THREADS}
use Rattle.futex_table.specs.declared.waiter.Waiter.{Waiter}
use Rattle.futex_table.specs.Once.{waits, IsOnce}
use Rattle.futex_table.specs.Waiting.{waits_at, waiters_at, without, woken, moved_to}

-- who does not wait does not wait in a part of the list
pub waits-filter : (p : Waiter → Bool) (xs : List Waiter) (t : ℕ) → waits xs t ≡ false → waits (filter p xs) t ≡ false
waits-filter p [] t e = refl
waits-filter p (x ∷ xs) t e =
    let here = (or_parts (nat_eq x.tid t) (waits xs t) e).0 in
    let there = waits-filter p xs t (or_parts (nat_eq x.tid t) (waits xs t) e).1 in
    elim (p x) as (λ b. waits (cond b (x ∷ filter p xs) (filter p xs)) t ≡ false) [ true ↦ ap₂ (λ a b. a || b) here there | false ↦ there ]

pub waits-take : (n : ℕ) (xs : List Waiter) (t : ℕ) → waits xs t ≡ false → waits (take n xs) t ≡ false
waits-take zero xs t e = refl
waits-take (suc n) [] t e = refl
waits-take (suc n) (x ∷ xs) t e =
    ap₂ (λ a b. a || b) (or_parts (nat_eq x.tid t) (waits xs t) e).0 (waits-take n xs t (or_parts (nat_eq x.tid t) (waits xs t) e).1)

-- nor is one of the list the one who does not wait
other-at : (xs : List Waiter) (t i : ℕ) (d : Waiter) → waits xs t ≡ false → i < length xs → nat_eq (get_or xs i d).tid t ≡ false
other-at [] t i d e inside = absurd (omega arith)
other-at (x ∷ xs) t zero d e inside = (or_parts (nat_eq x.tid t) (waits xs t) e).0
other-at (x ∷ xs) t (suc i) d e inside = other-at xs t i d (or_parts (nat_eq x.tid t) (waits xs t) e).1 (omega arith)

pub nat_eq-sym : (a b : ℕ) → nat_eq a b ≡ nat_eq b a
nat_eq-sym a b = grind (arith, nat_tests)

-- in a list where no thread waits twice, who stands at a place does not wait before it
pub IsOnce-before : (xs : List Waiter) (i : ℕ) (d : Waiter) → IsOnce xs → i < length xs → waits (take i xs) (get_or xs i d).tid ≡ false
IsOnce-before [] i d once inside = absurd (omega arith)
IsOnce-before (x ∷ xs) zero d once inside = refl
IsOnce-before (x ∷ xs) (suc i) d once inside =
    ap₂ (λ a b. a || b) (nat_eq-sym x.tid (get_or xs i d).tid ∙ other-at xs x.tid i d once.0 (omega arith)) (IsOnce-before xs i d once.1 (omega arith))

pub IsOnce-filter : (p : Waiter → Bool) (xs : List Waiter) → IsOnce xs → IsOnce (filter p xs)
IsOnce-filter p [] once = tt
IsOnce-filter p (x ∷ xs) once =
    elim (p x) as (λ b. IsOnce (cond b (x ∷ filter p xs) (filter p xs))) [ true ↦ (waits-filter p xs x.tid once.0, IsOnce-filter p xs once.1) | false ↦ IsOnce-filter p xs once.1 ]

pub IsOnce-take : (n : ℕ) (xs : List Waiter) → IsOnce xs → IsOnce (take n xs)
IsOnce-take zero xs once = tt
IsOnce-take (suc n) [] once = tt
IsOnce-take (suc n) (x ∷ xs) once = (waits-take n xs x.tid once.0, IsOnce-take n xs once.1)

-- two lists of which no thread waits in both
abbrev pub IsApart : List Waiter → List Waiter → Type 0
IsApart [] ys = Unit {0}
IsApart (x ∷ xs) ys = (waits ys x.tid ≡ false) × IsApart xs ys

pub IsOnce-append : (xs ys : List Waiter) → IsOnce xs → IsOnce ys → IsApart xs ys → IsOnce (xs ++ ys)
IsOnce-append [] ys once others apart = others
IsOnce-append (x ∷ xs) ys once others apart =
    (list_any-append (λ w. nat_eq w.tid x.tid) xs ys ∙ ap₂ (λ a b. a || b) once.0 apart.0, IsOnce-append xs ys once.1 others apart.1)

-- one more that does not wait yet
pub IsOnce-push : (xs : List Waiter) (w : Waiter) → IsOnce xs → waits xs w.tid ≡ false → IsOnce (xs ++ w ∷ [])
IsOnce-push [] w once new = (refl, tt)
IsOnce-push (x ∷ xs) w once new =
    let here : nat_eq w.tid x.tid ≡ false = nat_eq-sym w.tid x.tid ∙ (or_parts (nat_eq x.tid w.tid) (waits xs w.tid) new).0 in
    (list_any-append (λ v. nat_eq v.tid x.tid) xs (w ∷ []) ∙ ap₂ (λ a b. a || (b || false)) once.0 here, IsOnce-push xs w once.1 (or_parts (nat_eq x.tid w.tid) (waits xs w.tid) new).1)

-- taking out one more that does not wait in the list changes nothing
without-other : (xs gone : List Waiter) (w : Waiter) → waits xs w.tid ≡ false → without xs (gone ++ w ∷ []) ≡ without xs gone
without-other [] gone w new = refl
without-other (x ∷ xs) gone w new =
    let here : nat_eq w.tid x.tid ≡ false = nat_eq-sym w.tid x.tid ∙ (or_parts (nat_eq x.tid w.tid) (waits xs w.tid) new).0 in
    let same : waits (gone ++ w ∷ []) x.tid ≡ waits gone x.tid = list_any-append (λ v. nat_eq v.tid x.tid) gone (w ∷ []) ∙ ap (λ b. waits gone x.tid || (b || false)) here ∙ or-false (waits gone x.tid) in
    ap₂ (λ b rest. cond (not b) (x ∷ rest) rest) same (without-other xs gone w (or_parts (nat_eq x.tid w.tid) (waits xs w.tid) new).1)

-- the last of the list is taken out
without-last : (gone : List Waiter) (w : Waiter) → without (w ∷ []) (gone ++ w ∷ []) ≡ []
without-last gone w =
    ap (λ b. cond (not b) (w ∷ []) []) (list_any-append (λ v. nat_eq v.tid w.tid) gone (w ∷ []) ∙ ap (λ b. waits gone w.tid || (b || false)) (eq-eqb w.tid w.tid refl) ∙ or-true (waits gone w.tid))

-- fewer than n were taken of a list that is no longer
length-take-below : (n : ℕ) (ys : List Waiter) → length (take n ys) < n → length ys < n
length-take-below zero ys less = absurd (omega arith)
length-take-below (suc n) [] less = omega arith
length-take-below (suc n) (y ∷ ys) less = let rest : length ys < n = length-take-below n ys (omega arith) in omega arith

-- what was taken is all that is wanted
length-take-enough : (n : ℕ) (ys : List Waiter) → n ≤ length (take n ys) → n ≤ length ys
length-take-enough zero ys le = omega arith
length-take-enough (suc n) [] le = absurd (omega arith)
length-take-enough (suc n) (y ∷ ys) le = let rest : n ≤ length ys = length-take-enough n ys (omega arith) in omega arith

-- one more is taken
pub part_taken : (xs : List Waiter) (w : Waiter) (at bits most : ℕ) → waits xs w.tid ≡ false → waits_at at bits w ≡ true → length (woken xs at most bits) < most → (woken (xs ++ w ∷ []) at most bits ≡ woken xs at most bits ++ w ∷ []) × (without (xs ++ w ∷ []) (woken (xs ++ w ∷ []) at most bits) ≡ without xs (woken xs at most bits))
part_taken xs w at bits most new passes few =
    let found = waiters_at xs at bits in
    let short : length found < most = length-take-below most found few in
    let all : take most found ≡ found = take_all most found (omega arith) in
    let more : waiters_at (xs ++ w ∷ []) at bits ≡ found ++ w ∷ [] = filter-append (waits_at at bits) xs (w ∷ []) ∙ ap (λ b. found ++ cond b (w ∷ []) []) passes in
    let taken : woken (xs ++ w ∷ []) at most bits ≡ woken xs at most bits ++ w ∷ [] = ap (take most) more ∙ take_all most (found ++ w ∷ []) (omega (arith, length-append found (w ∷ []))) ∙ ap (λ front. front ++ w ∷ []) (sym all) in
    let gone = woken xs at most bits in
    (taken, ap (without (xs ++ w ∷ [])) taken ∙ filter-append (λ v. not (waits (gone ++ w ∷ []) v.tid)) xs (w ∷ []) ∙ ap₂ (λ a b. a ++ b) (without-other xs gone w new) (without-last gone w) ∙ append-nil (without xs gone))

-- one more stays, since it does not wait there or enough were taken
stays : (xs : List Waiter) (w : Waiter) (at bits most : ℕ) → waits xs w.tid ≡ false → woken (xs ++ w ∷ []) at most bits ≡ woken xs at most bits → (woken (xs ++ w ∷ []) at most bits ≡ woken xs at most bits) × (without (xs ++ w ∷ []) (woken (xs ++ w ∷ []) at most bits) ≡ without xs (woken xs at most bits) ++ w ∷ [])
stays xs w at bits most new same =
    let gone = woken xs at most bits in
    let absent : waits gone w.tid ≡ false = waits-take most (waiters_at xs at bits) w.tid (waits-filter (waits_at at bits) xs w.tid new) in
    (same, ap (without (xs ++ w ∷ [])) same ∙ filter-append (λ v. not (waits gone v.tid)) xs (w ∷ []) ∙ ap (λ b. without xs gone ++ cond (not b) (w ∷ []) []) absent)

pub part_passed : (xs : List Waiter) (w : Waiter) (at bits most : ℕ) → waits xs w.tid ≡ false → waits_at at bits w ≡ false → (woken (xs ++ w ∷ []) at most bits ≡ woken xs at most bits) × (without (xs ++ w ∷ []) (woken (xs ++ w ∷ []) at most bits) ≡ without xs (woken xs at most bits) ++ w ∷ [])
part_passed xs w at bits most new fails =
    stays xs w at bits most new (ap (take most) (filter-append (waits_at at bits) xs (w ∷ []) ∙ ap (λ b. waiters_at xs at bits ++ cond b (w ∷ []) []) fails ∙ append-nil (waiters_at xs at bits)))

pub part_enough : (xs : List Waiter) (w : Waiter) (at bits most : ℕ) → waits xs w.tid ≡ false → most ≤ length (woken xs at most bits) → (woken (xs ++ w ∷ []) at most bits ≡ woken xs at most bits) × (without (xs ++ w ∷ []) (woken (xs ++ w ∷ []) at most bits) ≡ without xs (woken xs at most bits) ++ w ∷ [])
part_enough xs w at bits most new enough =
    let found = waiters_at xs at bits in
    let many : most ≤ length found = length-take-enough most found enough in
    stays xs w at bits most new (ap (take most) (filter-append (waits_at at bits) xs (w ∷ [])) ∙ take-append-le most found (waiters_at (w ∷ []) at bits) many)

-- The first i of the list are parted: these were taken, and those stay.
pub record IsParted (waiting : List Waiter) (at bits most i : ℕ) (kept taken : List Waiter) (room_kept room_taken : ℕ) : Type 0 where
  pub taken_is : taken ≡ woken (take i waiting) at most bits
  pub kept_is : kept ≡ without (take i waiting) (woken (take i waiting) at most bits)
  pub all : length kept + length taken ≡ i
  pub inside : i ≤ length waiting
  pub has_room_kept : THREADS ≤ room_kept
  pub has_room_taken : THREADS ≤ room_taken

-- So many of the list are added, waiting at the other address.
pub record IsAdded (taken before kept : List Waiter) (to i room : ℕ) : Type 0 where
  pub kept_is : kept ≡ before ++ map (moved_to to) (take i taken)
  pub few : length kept ≤ length before + i
  pub inside : i ≤ length taken
  pub has_room : THREADS ≤ room

-- one place more, at which the thread is taken
pub IsParted-taken : (waiting : List Waiter) (at bits most i : ℕ) (kept taken kept' taken' : List Waiter) (rk rt rk' rt' : ℕ) (w : Waiter) → IsOnce waiting → IsParted waiting at bits most i kept taken rk rt → i < length waiting → w ≡ get_or waiting i w → waits_at at bits w ≡ true → length taken < most → kept' ≡ kept → taken' ≡ taken ++ w ∷ [] → THREADS ≤ rk' → THREADS ≤ rt' → IsParted waiting at bits most (i + 1) kept' taken' rk' rt'
IsParted-taken waiting at bits most i kept taken kept' taken' rk rt rk' rt' w once parted inside is passes few same_kept same_taken room_kept room_taken =
    let front = take i waiting in
    let new : waits front w.tid ≡ false = ap (λ v. waits front v.tid) is ∙ IsOnce-before waiting i w once inside in
    let more : take (i + 1) waiting ≡ front ++ w ∷ [] = take_more waiting i w inside ∙ ap (λ v. front ++ v ∷ []) (sym is) in
    let less : length (woken front at most bits) < most = subst (λ xs. length xs < most) parted.taken_is few in
    let both = part_taken front w at bits most new passes less in
    record {
      taken_is = same_taken ∙ ap (λ xs. xs ++ w ∷ []) parted.taken_is ∙ sym both.0 ∙ ap (λ xs. woken xs at most bits) (sym more);
      kept_is = same_kept ∙ parted.kept_is ∙ sym both.1 ∙ ap (λ xs. without xs (woken xs at most bits)) (sym more);
      all = let one : length taken' ≡ length taken + 1 = ap length same_taken ∙ length-append taken (w ∷ []) in let same : length kept' ≡ length kept = ap length same_kept in let old = parted.all in omega arith;
      inside = omega arith;
      has_room_kept = room_kept;
      has_room_taken = room_taken;
    }

-- one place more, at which the thread stays
pub IsParted-kept : (waiting : List Waiter) (at bits most i : ℕ) (kept taken kept' taken' : List Waiter) (rk rt rk' rt' : ℕ) (w : Waiter) → IsOnce waiting → IsParted waiting at bits most i kept taken rk rt → i < length waiting → w ≡ get_or waiting i w → (waits_at at bits w ≡ false) ⊎ (most ≤ length taken) → kept' ≡ kept ++ w ∷ [] → taken' ≡ taken → THREADS ≤ rk' → THREADS ≤ rt' → IsParted waiting at bits most (i + 1) kept' taken' rk' rt'
IsParted-kept waiting at bits most i kept taken kept' taken' rk rt rk' rt' w once parted inside is why same_kept same_taken room_kept room_taken =
    let front = take i waiting in
    let new : waits front w.tid ≡ false = ap (λ v. waits front v.tid) is ∙ IsOnce-before waiting i w once inside in
    let more : take (i + 1) waiting ≡ front ++ w ∷ [] = take_more waiting i w inside ∙ ap (λ v. front ++ v ∷ []) (sym is) in
    let both : (woken (front ++ w ∷ []) at most bits ≡ woken front at most bits) × (without (front ++ w ∷ []) (woken (front ++ w ∷ []) at most bits) ≡ without front (woken front at most bits) ++ w ∷ []) =
    elim why as (λ _. (woken (front ++ w ∷ []) at most bits ≡ woken front at most bits) × (without (front ++ w ∷ []) (woken (front ++ w ∷ []) at most bits) ≡ without front (woken front at most bits) ++ w ∷ [])) [
      | inl fails ↦ part_passed front w at bits most new fails
      | inr enough ↦ part_enough front w at bits most new (subst (λ xs. most ≤ length xs) parted.taken_is enough)
    ] in
    record {
      taken_is = same_taken ∙ parted.taken_is ∙ sym both.0 ∙ ap (λ xs. woken xs at most bits) (sym more);
      kept_is = same_kept ∙ ap (λ xs. xs ++ w ∷ []) parted.kept_is ∙ sym both.1 ∙ ap (λ xs. without xs (woken xs at most bits)) (sym more);
      all = let one : length kept' ≡ length kept + 1 = ap length same_kept ∙ length-append kept (w ∷ []) in let same : length taken' ≡ length taken = ap length same_taken in let old = parted.all in omega arith;
      inside = omega arith;
      has_room_kept = room_kept;
      has_room_taken = room_taken;
    }

-- moved threads are the same threads
waits-moved : (to : ℕ) (xs : List Waiter) (t : ℕ) → waits (map (moved_to to) xs) t ≡ waits xs t
waits-moved to [] t = refl
waits-moved to (x ∷ xs) t = ap (λ b. nat_eq x.tid t || b) (waits-moved to xs t)

IsOnce-moved : (to : ℕ) (xs : List Waiter) → IsOnce xs → IsOnce (map (moved_to to) xs)
IsOnce-moved to [] once = tt
IsOnce-moved to (x ∷ xs) once = (waits-moved to xs x.tid ∙ once.0, IsOnce-moved to xs once.1)

-- those who stay are others than those who are taken out
IsApart-without : (to : ℕ) (xs gone : List Waiter) → IsApart (without xs gone) (map (moved_to to) gone)
IsApart-without to [] gone = tt
IsApart-without to (x ∷ xs) gone = by_test (waits gone x.tid) refl (IsApart-without to xs gone)
  where
    by_test : (b : Bool) → waits gone x.tid ≡ b → IsApart (without xs gone) (map (moved_to to) gone) → IsApart (cond (not b) (x ∷ without xs gone) (without xs gone)) (map (moved_to to) gone)
    by_test true e rest = rest
    by_test false e rest = (waits-moved to gone x.tid ∙ e, rest)

-- no thread waits twice after a part is taken out, or is moved behind the others
pub IsOnce-without : (xs gone : List Waiter) → IsOnce xs → IsOnce (without xs gone)
IsOnce-without xs gone once = IsOnce-filter (λ w. not (waits gone w.tid)) xs once

pub IsOnce-shifted : (xs : List Waiter) (at bits most to : ℕ) → IsOnce xs → IsOnce (without xs (woken xs at most bits) ++ map (moved_to to) (woken xs at most bits))
IsOnce-shifted xs at bits most to once =
    let gone = woken xs at most bits in
    IsOnce-append (without xs gone) (map (moved_to to) gone) (IsOnce-without xs gone once) (IsOnce-moved to gone (IsOnce-take most (waiters_at xs at bits) (IsOnce-filter (waits_at at bits) xs once))) (IsApart-without to xs gone)

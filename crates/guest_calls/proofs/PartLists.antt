-- Lists of parts.
use Rattle.std.proofs.Common.{◌≡◌, ℕ, zero, suc, ◌<◌, ◌≤◌, ◌+◌, ◌-◌, ◌*◌, Bool, true, List, [], ◌∷◌, ◌++◌, length, take, drop, get_or, arith, refl, ap, ap₂, ◌/◌, None, append_assoc, sym, ◌∙◌}
use Rattle.std.specs.Prelude.{◌&&◌, min}
use Rattle.std.proofs.lemmas.List.Sums.{sum_by-cons}
use Rattle.std.proofs.lemmas.Bool.{and_parts}
use Rattle.guest_memory.specs.Memory.{Memory, with_bytes}
use Rattle.guest_memory.specs.Reserved.{Reserved, after_write}
use Rattle.rv_exec.specs.Accesses.{can_write}
use Rattle.trace_model.specs.declared.event_kinds.Event.{Event}
use Rattle.guest_kernel.specs.declared.parts.IoVec.{IoVec}
use Rattle.guest_kernel.specs.Copies.{fill_event, words_touched}
use Rattle.guest_calls.specs.Results.{Guest, filled}
use Rattle.guest_kernel.specs.Parts.{all_in_reach, total}
use Rattle.guest_calls.specs.Vectors.{part_at, parts_at, carried, filled_parts}
use Rattle.guest_kernel.proofs.Reach.{writable_kept}

-- one more part
pub parts_snoc : (m : Memory) (at i : ℕ) → parts_at m at (i + 1) ≡ parts_at m at i ++ part_at m (at + 8 * i) ∷ []
parts_snoc m at zero = let e : at + 8 * 0 ≡ at = omega arith in rw e refl
parts_snoc m at (suc i) =
    let e : suc i + 1 ≡ suc (i + 1) = omega arith in
    let f : (at + 8) + 8 * i ≡ at + 8 * suc i = omega arith in
    ap (λ (n : ℕ). parts_at m at n) e ∙ ap (λ (ps : List IoVec). part_at m at ∷ ps) (parts_snoc m (at + 8) i ∙ ap (λ (a : ℕ). parts_at m (at + 8) i ++ part_at m a ∷ []) f)

-- the parts from a place on are the part there and the rest
pub parts_from : (ps : List IoVec) (i : ℕ) (d : IoVec) → i < length ps → drop i ps ≡ get_or ps i d ∷ drop (i + 1) ps
parts_from [] i d inside = absurd (omega arith)
parts_from (p ∷ ps) zero d inside = refl
parts_from (p ∷ ps) (suc i) d inside = let e : suc i + 1 ≡ suc (i + 1) = omega arith in rw e (parts_from ps i d (omega arith))

guest_is : (m m' : Memory) (h h' : Reserved) (es es' : List Event) → m ≡ m' → h ≡ h' → es ≡ es' → (let g : Guest = record { memory = m; held = h; events = es } in g) ≡ record { memory = m'; held = h'; events = es' }
guest_is m m' h h' es es' a b c =
    ap (λ (x : Memory). let g : Guest = record { memory = x; held = h; events = es } in g) a
    ∙ ap₂ (λ (y : Reserved) (z : List Event). let g : Guest = record { memory = m'; held = y; events = z } in g) b c

-- the next part is filled
pub filled_next : (ps : List IoVec) (i : ℕ) (d : IoVec) (bytes front back : List ℕ) (g new : Guest) → i < length ps → front ≡ take (get_or ps i d).size bytes → back ≡ drop (get_or ps i d).size bytes → new.memory ≡ (filled (get_or ps i d).at front g).memory → new.held ≡ (filled (get_or ps i d).at front g).held → new.events ≡ (filled (get_or ps i d).at front g).events → filled_parts (drop (i + 1) ps) back new ≡ filled_parts (drop i ps) bytes g
filled_next ps i d bytes front back g new inside is_front is_back memory held events =
    let p = get_or ps i d in
    ap₂ (λ (rest : List ℕ) (x : Guest). filled_parts (drop (i + 1) ps) rest x) is_back (guest_is new.memory _ new.held _ new.events _ memory held events ∙ ap (λ (xs : List ℕ). filled p.at xs g) is_front)
    ∙ ap (λ (qs : List IoVec). filled_parts qs bytes g) (sym (parts_from ps i d inside))

reach_kept : (m : Memory) (to : ℕ) (bytes : List ℕ) (ps : List IoVec) → all_in_reach (can_write (with_bytes m to bytes)) ps ≡ all_in_reach (can_write m) ps
reach_kept m to bytes [] = refl
reach_kept m to bytes (p ∷ ps) = ap₂ (λ (a b : Bool). a && b) (writable_kept m to bytes p.at p.size) (reach_kept m to bytes ps)

pub rest_in_reach : (m new : Memory) (to : ℕ) (bytes : List ℕ) (ps : List IoVec) (i : ℕ) (d : IoVec) → i < length ps → new ≡ with_bytes m to bytes → all_in_reach (can_write m) (drop i ps) ≡ true → all_in_reach (can_write new) (drop (i + 1) ps) ≡ true
rest_in_reach m new to bytes ps i d inside is all =
    ap (λ (x : Memory). all_in_reach (can_write x) (drop (i + 1) ps)) is ∙ reach_kept m to bytes (drop (i + 1) ps)
    ∙ (and_parts (can_write m (get_or ps i d).at (get_or ps i d).size) (all_in_reach (can_write m) (drop (i + 1) ps)) (ap (λ (qs : List IoVec). all_in_reach (can_write m) qs) (sym (parts_from ps i d inside)) ∙ all)).1

-- the sum from a place on
pub total_from : (ps : List IoVec) (i : ℕ) (d : IoVec) → i < length ps → total (drop i ps) ≡ (get_or ps i d).size + total (drop (i + 1) ps)
total_from ps i d inside = ap (λ (qs : List IoVec). total qs) (parts_from ps i d inside) ∙ sum_by-cons (λ p. p.size) (get_or ps i d) (drop (i + 1) ps)

-- cut parts have no more bytes than they are cut to
pub total_carried : (n : ℕ) (ps : List IoVec) → total (carried n ps) ≤ n
total_carried n [] = omega arith
total_carried n (p ∷ ps) =
    let sum = sum_by-cons (λ (q : IoVec). q.size) (record { at = p.at; size = min n p.size }) (carried (n - p.size) ps) in
    let rest = total_carried (n - p.size) ps in
    omega (arith, sum, rest)

pub length_carried : (n : ℕ) (ps : List IoVec) → length (carried n ps) ≡ length ps
length_carried n [] = refl
length_carried n (p ∷ ps) = ap (λ (k : ℕ). suc k) (length_carried (n - p.size) ps)

-- the guest with earlier events
abbrev pub behind : List Event → Guest → Guest
behind before g = record g { events = before ++ g.events }

-- what stands before the guest's events stays there
pub filled_behind : (ps : List IoVec) (bytes : List ℕ) (m : Memory) (h : Reserved) (before es : List Event) → filled_parts ps bytes (record { memory = m; held = h; events = before ++ es }) ≡ behind before (filled_parts ps bytes (record { memory = m; held = h; events = es }))
filled_behind [] bytes m h before es = refl
filled_behind (p ∷ ps) bytes m h before es =
    let front = take p.size bytes in
    let n = fill_event p.at (length front) in
    let m' = with_bytes m p.at front in
    let h' = after_write h None (p.at / 4) (words_touched p.at (length front)) in
    ap (λ (xs : List Event). filled_parts ps (drop p.size bytes) (record { memory = m'; held = h'; events = xs })) (append_assoc before es n)
    ∙ filled_behind ps (drop p.size bytes) m' h' before (es ++ n)

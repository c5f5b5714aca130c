-- One more thread in a list of threads by rising number.
use Rattle.std.proofs.Common.{◌≡◌, ℕ, ◌<◌, ◌-◌, ◌+◌, Bool, false, List, [], ◌∷◌, ◌++◌, length, take, drop, arith, ◌∙◌, ap, set, subst, sym}
use Rattle.std.proofs.lemmas.List.{drop-drop, drop-replicate, drop-set-lt, length-set, take_more_set}
use Rattle.guest_words.specs.declared.limits.TheConstants.{THREADS}
use Rattle.guest_words.specs.Ready.{IsRising, IsAboveLast}
use Rattle.guest_words.specs.Places.{IsFilled, filler}

-- one more above the last keeps a list rising
pub rising_push : (xs : List (ℕ × Bool)) (p : ℕ × Bool) → IsRising xs → IsAboveLast p.0 xs → IsRising (xs ++ p ∷ [])
rising_push [] p r a = tt
rising_push (x ∷ []) p r a = (a, tt)
rising_push (x ∷ y ∷ rest) p r a = (r.0, rising_push (y ∷ rest) p r.1 a)

-- a place more is used
pub filled_push : (items : List (ℕ × Bool)) (n : ℕ) (p : ℕ × Bool) → IsFilled (record { threads = items; len = n }) → n < THREADS → IsAboveLast p.0 (take n items)
    → IsFilled (record { threads = set items n p; len = n + 1 })
filled_push items n p h room above =
    let places : length items ≡ THREADS = h.places in
    let within : n < length items = omega arith in
    let less : (THREADS - n) - 1 ≡ THREADS - (n + 1) = omega arith in
    record {
      short = omega arith;
      places = length-set items n p ∙ places;
      filled = drop-set-lt (n + 1) items n p (omega arith) ∙ (sym (drop-drop 1 n items) ∙ (ap (drop 1) h.filled ∙ (drop-replicate 1 (THREADS - n) (1, false) ∙ ap filler less)));
      rising = subst IsRising (sym (take_more_set items n p within)) (rising_push (take n items) p h.rising above);
    }

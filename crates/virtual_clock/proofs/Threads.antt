-- A thread has at most one deadline, also where one is added or some are taken out.
use Rattle.std.proofs.Common.{◌≡◌, ℕ, Bool, true, false, ◌||◌, cond, nat_eq, List, [], ◌∷◌, ◌++◌, filter, refl, ap₂, ◌∙◌, arith}
use Rattle.std.proofs.lemmas.List.Folds.{list_any-append}
use Rattle.std.proofs.lemmas.Bool.{or_parts}
use Rattle.std.proofs.lemmas.Bool.Decides.{nat_tests}
use Rattle.virtual_clock.specs.declared.deadline.Deadline.{Deadline}
use Rattle.virtual_clock.specs.Once.{has, IsOnce}

nat_eq-sym : (a b : ℕ) → nat_eq a b ≡ nat_eq b a
nat_eq-sym a b = grind (arith, nat_tests)

-- who has no deadline has none in a part of the list
pub has-filter : (p : Deadline → Bool) (xs : List Deadline) (t : ℕ) → has xs t ≡ false → has (filter p xs) t ≡ false
has-filter p [] t e = refl
has-filter p (x ∷ xs) t e =
    let here = (or_parts (nat_eq x.tid t) (has xs t) e).0 in
    let there = has-filter p xs t (or_parts (nat_eq x.tid t) (has xs t) e).1 in
    elim (p x) as (λ b. has (cond b (x ∷ filter p xs) (filter p xs)) t ≡ false) [ true ↦ ap₂ (λ a b. a || b) here there | false ↦ there ]

pub IsOnce-filter : (p : Deadline → Bool) (xs : List Deadline) → IsOnce xs → IsOnce (filter p xs)
IsOnce-filter p [] once = tt
IsOnce-filter p (x ∷ xs) once =
    elim (p x) as (λ b. IsOnce (cond b (x ∷ filter p xs) (filter p xs))) [ true ↦ (has-filter p xs x.tid once.0, IsOnce-filter p xs once.1) | false ↦ IsOnce-filter p xs once.1 ]

-- one more, of a thread that has none yet
pub IsOnce-push : (xs : List Deadline) (d : Deadline) → IsOnce xs → has xs d.tid ≡ false → IsOnce (xs ++ d ∷ [])
IsOnce-push [] d once new = (refl, tt)
IsOnce-push (x ∷ xs) d once new =
    let here : nat_eq d.tid x.tid ≡ false = nat_eq-sym d.tid x.tid ∙ (or_parts (nat_eq x.tid d.tid) (has xs d.tid) new).0 in
    (list_any-append (λ e. nat_eq e.tid x.tid) xs (d ∷ []) ∙ ap₂ (λ a b. a || (b || false)) once.0 here, IsOnce-push xs d once.1 (or_parts (nat_eq x.tid d.tid) (has xs d.tid) new).1)

-- What the calls on slices of stamps answer, over the numbers of the stamps.
use Rattle.std.specs.Prelude.{◌≡◌, ℕ, ◌+◌, ◌*◌, List, [], ◌∷◌, Bool, not, ◌&&◌, ◌==◌, cond, Option, Some, None, max, min, nat_le, nat_lt, count_by, fold}
use Rattle.stamp_lanes.specs.declared.bulk.Bulk.{Bulk}

-- the least and the greatest, where there are any
abbrev pub extremes : List ℕ → Option (ℕ × ℕ)
extremes [] = None
extremes (x ∷ xs) = Some (fold min x xs, fold max x xs)

-- `below`, and one for each start that is at most n
abbrev pub class_of : List ℕ → ℕ → ℕ → ℕ
class_of starts below n = below + count_by (λ start. nat_le start n) starts

-- Two stamps of one place, each with its class.
pub record Renewal : Type 0 where
  pub own : ℕ
  pub own_class : ℕ
  pub write : ℕ
  pub write_class : ℕ

-- the places of four columns
abbrev pub renewals : List ℕ → List ℕ → List ℕ → List ℕ → List Renewal
renewals (o ∷ os) (k ∷ ks) (w ∷ ws) (l ∷ ls) =
    record { own = o; own_class = k; write = w; write_class = l } ∷ renewals os ks ws ls
renewals _ _ _ _ = []

-- how two stamps of one class stand to each other: below, equal, above
abbrev pub rank : ℕ → ℕ → ℕ
rank own write = cond (nat_lt own write) 0 (cond (own == write) 1 2)

-- three stamps for each class, and none for a place that has none
abbrev pub renewed : Renewal → ℕ
renewed r = cond (r.own == 0) 0 (3 * r.own_class + cond (r.own_class == r.write_class) (rank r.own r.write) 0)

-- One place of a read: the thread's own stamp, that of the latest write, and who wrote.
pub record Place : Type 0 where
  pub own : ℕ
  pub write : ℕ
  pub mark : ℕ

-- the places of three columns
abbrev pub places : List ℕ → List ℕ → List ℕ → List Place
places (o ∷ os) (w ∷ ws) (m ∷ ms) = record { own = o; write = w; mark = m } ∷ places os ws ms
places _ _ _ = []

-- neither touched nor written
abbrev pub is_plain : Place → Bool
is_plain p = p.own == 0 && p.write == 0

-- written since the own stamp
abbrev pub is_foreign : Place → Bool
is_foreign p = nat_lt p.own p.write

-- by a thread, whose mark is 0
abbrev pub is_by_thread : Place → Bool
is_by_thread p = is_foreign p && p.mark == 0

-- by the kernel
abbrev pub is_by_kernel : Place → Bool
is_by_kernel p = is_foreign p && not (p.mark == 0)

abbrev pub is_untouched : Place → Bool
is_untouched p = p.own == 0

-- touched, but before the start
abbrev pub is_old : ℕ → Place → Bool
is_old start p = nat_lt 0 p.own && nat_lt p.own start

-- the counts of a read of these places
pub record IsBulk (start : ℕ) (ps : List Place) (b : Bulk) : Type 0 where
  pub plain : b.plain ≡ count_by is_plain ps
  pub thread : b.thread ≡ count_by is_by_thread ps
  pub kernel : b.kernel ≡ count_by is_by_kernel ps
  pub untouched : b.untouched ≡ count_by is_untouched ps
  pub old : b.old ≡ count_by (is_old start) ps

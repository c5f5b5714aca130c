-- The accesses of an event come into the counts of routines.
use Rattle.std.proofs.Common.{◌≡◌, ℕ, ◌+◌, ◌≤◌, suc, List, [], ◌∷◌, ◌++◌, length, map, get_or, cond, inl, inr, refl, sym, ap, ap₂, ◌∙◌, subst, arith, length-append}
use Rattle.std.specs.List.{All, count_by}
use Rattle.std.proofs.lemmas.List.{append-nil}
use Rattle.std.proofs.lemmas.List.Sums.{sum_by-append}
use Rattle.cost_points.specs.Joined.{joined}
use Rattle.cost_points.specs.Keys.{rising, IsRising, grouped, put}
use Rattle.cost_points.specs.Places.{IsPlaceOf, with_changed}
use Rattle.cost_points.proofs.Grouped.{grouped_labels}
use Rattle.cost_points.proofs.Indexed.{it_changes}
use Rattle.cost_points.proofs.Put.{grouped_put, keys_put, length-put, put-all, put_above, put_below, put_same}
use Rattle.cost_points.proofs.Rising.{IsRising-insert, IsRising-rising, order}
use Rattle.cache_profile.specs.declared.routines.RoutineMisses.{RoutineMisses}
use Rattle.cache_profile.specs.ByRoutine.{LineAccess, by_routine, counts_of}
use Rattle.cache_profile.specs.Private.Added.{HasRoom, plus, with_routine}

abbrev entry_of : LineAccess → ℕ
entry_of a = a.entry

pub entries_are : (all : List LineAccess) → map (λ r. r.entry) (by_routine all) ≡ rising (map entry_of all)
entries_are all = grouped_labels entry_of counts_of (λ r. r.entry) (λ k ms. refl) all

pub entries_rise : (all : List LineAccess) → IsRising (map (λ r. r.entry) (by_routine all))
entries_rise all = subst IsRising (sym (entries_are all)) (IsRising-rising (map entry_of all))

abbrev pub counts : ℕ → ℕ → ℕ → RoutineMisses
counts entry accesses misses = record { entry = entry; accesses = accesses; misses = misses }

pub none_by_routine : [] ≡ by_routine []
unfolding grouped
none_by_routine = refl

-- the routines with more accesses and misses of the one at the entry
abbrev pub with_accesses : (entry accesses misses : ℕ) → List RoutineMisses → List RoutineMisses
with_accesses entry accesses misses rs =
    put (λ r. r.entry) entry (plus accesses misses) (record { entry = entry; accesses = accesses; misses = misses }) rs

-- These are accesses of the routine: at least one, `accesses` in all, of which `misses` miss.
pub record AreOf (entry accesses misses : ℕ) (more : List LineAccess) : Type 0 where
  pub some : 1 ≤ accesses
  pub entries : All (λ a. a.entry ≡ entry) more
  pub all : length more ≡ accesses
  pub missing : count_by (λ a. a.missed) more ≡ misses

-- accesses of one routine add to its counts
pub more_by_routine : (all more : List LineAccess) (x accesses misses : ℕ) → AreOf x accesses misses more → by_routine (all ++ more) ≡ with_accesses x accesses misses (by_routine all)
more_by_routine all more x accesses misses are =
    grouped_put entry_of counts_of (λ r. r.entry) (λ k ms. refl) x (plus accesses misses) (counts x accesses misses) all more are.entries (omega (arith, are.some, are.all))
    (λ members some. ap₂ (counts x) (longer members) (further members)) (ap₂ (counts x) (sym are.all) (sym are.missing))
  where
    longer : (members : List LineAccess) → length members + accesses ≡ length (members ++ more)
    longer members = omega (arith, length-append members more, are.all)

    further : (members : List LineAccess) → count_by (λ a. a.missed) members + misses ≡ count_by (λ a. a.missed) (members ++ more)
    further members =
        ap (λ n. count_by (λ a. a.missed) members + n) (sym are.missing) ∙ sym (sum_by-append (λ (a : LineAccess). cond a.missed 1 0) members more)

-- so there is one routine more at most
pub more-le : (all more : List LineAccess) (x : ℕ) → All (λ a. a.entry ≡ x) more → length (by_routine (all ++ more)) ≤ suc (length (by_routine all))
more-le all [] x same = omega (arith, ap (λ ls. length (by_routine ls)) (append-nil all))
more-le all (d ∷ more) x same =
    let long = length (d ∷ more) in
    let missing = count_by (λ a. a.missed) (d ∷ more) in
    omega (
      arith,
      ap length (more_by_routine all (d ∷ more) x long missing (record { some = omega arith; entries = same; all = refl; missing = refl })),
      length-put (λ (r : RoutineMisses). r.entry) x (plus long missing) (counts x long missing) (by_routine all),
    )

-- ---- a routine that is made first, with no accesses
pub entries_with : (x : ℕ) (rs : List RoutineMisses) → IsRising (map (λ r. r.entry) rs) → IsRising (map (λ r. r.entry) (with_routine x rs))
entries_with x rs up =
    subst IsRising (sym (keys_put (λ (r : RoutineMisses). r.entry) x (λ r. r) (counts x 0 0) refl (λ r. refl) rs)) (IsRising-insert x (map (λ r. r.entry) rs) up)

pub room_with : (x : ℕ) (rs : List RoutineMisses) → All HasRoom rs → All HasRoom (with_routine x rs)
room_with x rs room =
    put-all (λ (r : RoutineMisses). r.entry) x (λ r. r) (counts x 0 0) HasRoom (record { accesses = omega arith; misses = omega arith }) (λ r same p. p) rs room

module _ (x accesses misses : ℕ) where
  made : plus accesses misses (counts x 0 0) ≡ counts x accesses misses
  made =
      let some : 0 + accesses ≡ accesses = omega arith in
      let missing : 0 + misses ≡ misses = omega arith in
      ap₂ (counts x) some missing

  -- to make it first changes nothing else
  pub made_first : (rs : List RoutineMisses) → with_accesses x accesses misses (with_routine x rs) ≡ with_accesses x accesses misses rs
  made_first [] =
      put_same (λ (r : RoutineMisses). r.entry) x (plus accesses misses) (counts x accesses misses) (counts x 0 0) [] refl ∙ ap (λ r. r ∷ []) made
  made_first (r ∷ rs) = elim (order x r.entry) [
    | inl h ↦
        ap (with_accesses x accesses misses) (put_below (λ (s : RoutineMisses). s.entry) x (λ s. s) (counts x 0 0) r rs h)
        ∙ put_same (λ (s : RoutineMisses). s.entry) x (plus accesses misses) (counts x accesses misses) (counts x 0 0) (r ∷ rs) refl
        ∙ ap (λ s. s ∷ r ∷ rs) made
        ∙ sym (put_below (λ (s : RoutineMisses). s.entry) x (plus accesses misses) (counts x accesses misses) r rs h)
    | inr (inl h) ↦ ap (with_accesses x accesses misses) (put_same (λ (s : RoutineMisses). s.entry) x (λ s. s) (counts x 0 0) r rs h)
    | inr (inr h) ↦
        ap (with_accesses x accesses misses) (put_above (λ (s : RoutineMisses). s.entry) x (λ s. s) (counts x 0 0) r rs h)
        ∙ put_above (λ (s : RoutineMisses). s.entry) x (plus accesses misses) (counts x accesses misses) r (with_routine x rs) h
        ∙ ap (λ ss. r ∷ ss) (made_first rs)
        ∙ sym (put_above (λ (s : RoutineMisses). s.entry) x (plus accesses misses) (counts x accesses misses) r rs h)
  ]

-- accesses are added to the routine that was made
pub added_first : (all more : List LineAccess) (x accesses misses : ℕ) (was made new : List RoutineMisses) → was ≡ by_routine all → made ≡ with_routine x was → new ≡ with_accesses x accesses misses made →
    AreOf x accesses misses more → new ≡ by_routine (all ++ more)
added_first all more x accesses misses was first new was_is first_is new_is are =
    new_is ∙ ap (with_accesses x accesses misses) (first_is ∙ ap (with_routine x) was_is) ∙ made_first x accesses misses (by_routine all) ∙ sym (more_by_routine all more x accesses misses are)

-- accesses are added to the routine at a place
pub added_at : (all more : List LineAccess) (x accesses misses : ℕ) (was : List RoutineMisses) (bs : List (List RoutineMisses)) (b at : ℕ) (old new : RoutineMisses) → was ≡ by_routine all →
    joined bs ≡ with_routine x was → IsPlaceOf (λ r. r.entry) bs x b at → old ≡ get_or (get_or bs b []) at old → new ≡ plus accesses misses old → AreOf x accesses misses more →
    joined (with_changed bs b at new) ≡ by_routine (all ++ more)
added_at all more x accesses misses was bs b at old new was_is found place read new_is are =
    let up : IsRising (map (λ r. r.entry) (joined bs)) =
    subst (λ (rs : List RoutineMisses). IsRising (map (λ r. r.entry) rs)) (sym (found ∙ ap (with_routine x) was_is)) (entries_with x (by_routine all) (entries_rise all)) in
    added_first all more x accesses misses was (joined bs) (joined (with_changed bs b at new)) was_is found
    (it_changes (λ (r : RoutineMisses). r.entry) bs x x refl b at place old read (plus accesses misses) (counts x accesses misses) new up new_is) are

-- All threads renumbered, one after another.
use Rattle.std.proofs.Common.{◌≡◌, ℕ, zero, suc, ◌+◌, ◌*◌, ◌<◌, ◌≤◌, Bool, true, false, cond, leb, List, [], ◌∷◌, ◌++◌, length, get_or, set, take, Option, Some, None, refl, sym, ap, ap₂, ◌∙◌, subst, arith, All, MutBor, inl, inr}
use Rattle.std.specs.Prelude.{◌==◌, Contains}
use Rattle.std.specs.Option.{IsSome, option_copied_mut}
use Rattle.std.specs.List.Sorted.{IsPermutation}
use Rattle.std.proofs.lemmas.Bool.{cases_lt, eq-eqb}
use Rattle.std.proofs.lemmas.Bool.Decides.{nat_tests}
use Rattle.std.proofs.lemmas.List.{length-append, length-map, get_or-set_same, get_or-set_other, get_or_append_left, get_or-append-add}
use Rattle.std.proofs.lemmas.List.Elements.{All-contains_itself}
use Rattle.std.proofs.lemmas.List.Sorted.{Contains-permutation, sum_by-IsPermutation}
use Rattle.guest_words.specs.ByThread.{IsRising, numbers, value_of, with_value}
use Rattle.shadow_stack.specs.Frames.{Frame, starts_of}
use Rattle.shadow_pages.specs.Pages.{Page, stamp_at}
use Rattle.stamp_lanes.specs.Plain.{renewed}
use Rattle.stamp_renumber.specs.Classes.{class, new_access, new_start, new_write}
use Rattle.stamp_renumber.specs.Renumbered.{IsThreadRenumbered, renewed_frames}
use Rattle.stamp_renumber.specs.Threads.{Stamped, all_starts}
use Rattle.stamp_renumber.proofs.Changed.{rising_tail, starts_long}

-- ---- a thread at its place
pub taken_room : (threads : List (ℕ × Stamped)) (i : ℕ) (x : ℕ × Stamped) → i < length threads → x ≡ get_or threads i x →
    length (all_starts (take i threads)) + length x.1.frames ≤ length (all_starts threads)
taken_room [] i x within is = absurd (omega (arith, within))
taken_room (y ∷ threads) zero x within is =
    let long = ap (λ (z : ℕ × Stamped). length z.1.frames) is in
    omega (arith, long, starts_long y threads)
taken_room (y ∷ threads) (suc i) x within is =
    omega (arith, taken_room threads i x (omega (arith, within)) is, starts_long y (take i threads), starts_long y threads)

pub starts_of_place : (threads : List (ℕ × Stamped)) (i : ℕ) (d : ℕ × Stamped) → i < length threads → length (get_or threads i d).1.frames ≤ length (all_starts threads)
starts_of_place [] i d within = absurd (omega (arith, within))
starts_of_place (x ∷ threads) zero d within = omega (arith, starts_long x threads)
starts_of_place (x ∷ threads) (suc i) d within = omega (arith, starts_of_place threads i d (omega (arith, within)), starts_long x threads)

all_left : (P : ℕ → Type 0) (xs ys : List ℕ) → All P (xs ++ ys) → All P xs
all_left P xs ys all k d lt = subst P (get_or_append_left xs ys d k lt) (all k d (omega (arith, lt, length-append xs ys)))

all_right : (P : ℕ → Type 0) (xs ys : List ℕ) → All P (xs ++ ys) → All P ys
all_right P xs ys all k d lt = subst P (get_or-append-add xs ys k d) (all (length xs + k) d (omega (arith, lt, length-append xs ys)))

pub all_of_place : (P : ℕ → Type 0) (threads : List (ℕ × Stamped)) (i : ℕ) (d : ℕ × Stamped) → i < length threads → All P (all_starts threads) → All P (starts_of (get_or threads i d).1.frames)
all_of_place P [] i d within all = absurd (omega (arith, within))
all_of_place P (x ∷ threads) zero d within all = all_left P (starts_of x.1.frames) (all_starts threads) all
all_of_place P (x ∷ threads) (suc i) d within all = all_of_place P threads i d (omega (arith, within)) (all_right P (starts_of x.1.frames) (all_starts threads) all)

above : (n : ℕ) (xs : List (ℕ × Stamped)) (i : ℕ) (d : ℕ × Stamped) → IsRising (n ∷ numbers xs) → i < length xs → n < (get_or xs i d).0
above n [] i d rising within = absurd (omega (arith, within))
above n (x ∷ xs) zero d rising within = rising.0
above n (x ∷ xs) (suc i) d rising within =
    let up : n < x.0 = rising.0 in
    let far = above x.0 xs i d rising.1 (omega (arith, within)) in
    omega (arith, up, far)

other_test : (n t : ℕ) → n < t → (n == t) ≡ false
other_test n t lt = grind (arith, nat_tests)

pub value_at : (xs : List (ℕ × Stamped)) (i : ℕ) (d : ℕ × Stamped) → IsRising (numbers xs) → i < length xs → value_of xs (get_or xs i d).0 ≡ Some (get_or xs i d).1
value_at [] i d rising within = absurd (omega (arith, within))
value_at (x ∷ xs) zero d rising within = ap (λ b. cond b (Some x.1) (value_of xs x.0)) (eq-eqb x.0 x.0 refl)
value_at (x ∷ xs) (suc i) d rising within =
    let inside : i < length xs = omega (arith, within) in
    let t = (get_or xs i d).0 in
    ap (λ b. cond b (Some x.1) (value_of xs t)) (other_test x.0 t (above x.0 xs i d rising inside)) ∙ value_at xs i d (rising_tail x.0 (numbers xs) rising) inside

pub with_at : (xs : List (ℕ × Stamped)) (i : ℕ) (d : ℕ × Stamped) (v : Stamped) → IsRising (numbers xs) → i < length xs → with_value xs (get_or xs i d).0 v ≡ set xs i ((get_or xs i d).0, v)
with_at [] i d v rising within = absurd (omega (arith, within))
with_at (x ∷ xs) zero d v rising within = ap (λ b. cond b ((x.0, v) ∷ xs) (x ∷ with_value xs x.0 v)) (eq-eqb x.0 x.0 refl)
with_at (x ∷ xs) (suc i) d v rising within =
    let inside : i < length xs = omega (arith, within) in
    let t = (get_or xs i d).0 in
    ap (λ b. cond b ((x.0, v) ∷ xs) (x ∷ with_value xs t v)) (other_test x.0 t (above x.0 xs i d rising inside)) ∙ ap (λ ys. x ∷ ys) (with_at xs i d v (rising_tail x.0 (numbers xs) rising) inside)

pub lent : (r : Option (MutBor Stamped)) (v : Stamped) → option_copied_mut r ≡ Some v → IsSome r
lent None v is = absurd (cc)
lent (Some m) v is = refl

pub numbers_long : (xs ys : List (ℕ × Stamped)) → numbers xs ≡ numbers ys → length xs ≡ length ys
numbers_long xs ys same = sym (length-map xs (λ x. x.0)) ∙ ap length same ∙ length-map ys (λ x. x.0)

-- ---- one thread more
module _ (R : Stamped → Stamped → Type 0) (old now : List (ℕ × Stamped)) (i n : ℕ) (new : Stamped) (long : length now ≡ length old) (within : i < length old) where
  pub done_more : ((d : ℕ × Stamped) → R (get_or old i d).1 new) → ((k : ℕ) (d : ℕ × Stamped) → k < i → R (get_or old k d).1 (get_or now k d).1) →
      (k : ℕ) (d : ℕ × Stamped) → k < i + 1 → R (get_or old k d).1 (get_or (set now i (n, new)) k d).1
  done_more here done k d lt = elim (cases_lt k i) [
    | inl below ↦ subst (λ (x : ℕ × Stamped). R (get_or old k d).1 x.1) (sym (get_or-set_other now i k (n, new) d (λ e. omega (arith, e, below)))) (done k d below)
    | inr over ↦
        let same : i ≡ k = omega (arith, over, lt) in
        subst (λ j. R (get_or old j d).1 (get_or (set now i (n, new)) j d).1) same
        (subst (λ (x : ℕ × Stamped). R (get_or old i d).1 x.1) (sym (get_or-set_same now i (n, new) d (omega (arith, within, long)))) (here d))
  ]

  pub left_more : ((k : ℕ) (d : ℕ × Stamped) → i ≤ k → get_or now k d ≡ get_or old k d) → (k : ℕ) (d : ℕ × Stamped) → i + 1 ≤ k → get_or (set now i (n, new)) k d ≡ get_or old k d
  left_more left k d le = get_or-set_other now i k (n, new) d (λ e. omega (arith, e, le)) ∙ left k d (omega (arith, le))

-- ---- by thread number
pub by_number : (R : Stamped → Stamped → Type 0) (old new : List (ℕ × Stamped)) → numbers new ≡ numbers old →
    ((k : ℕ) (d : ℕ × Stamped) → k < length old → R (get_or old k d).1 (get_or new k d).1) →
    (t : ℕ) (was is : Stamped) → value_of old t ≡ Some was → value_of new t ≡ Some is → R was is
by_number R [] new same each t was is a b = absurd (cc)
by_number R (x ∷ old) [] same each t was is a b = absurd (cc)
by_number R (x ∷ old) (y ∷ new) same each t was is a b =
    let first : y.0 ≡ x.0 = cc in
    let rest : numbers new ≡ numbers old = cc in
    by (x.0 == t) a (ap (λ n. cond (n == t) (Some y.1) (value_of new t)) (sym first) ∙ b)
    (each 0 x (omega arith))
    (λ c d. by_number R old new rest (λ k d lt. each (suc k) d (omega (arith, lt))) t was is c d)
  where
    by : (b : Bool) → cond b (Some x.1) (value_of old t) ≡ Some was → cond b (Some y.1) (value_of new t) ≡ Some is → R x.1 y.1 → (value_of old t ≡ Some was → value_of new t ≡ Some is → R was is) → R was is
    by true a b here later =
        let same_was : x.1 ≡ was = cc in
        let same_is : y.1 ≡ is = cc in
        subst (λ s. R s is) same_was (subst (λ s. R x.1 s) same_is here)
    by false a b here later = later a b

-- ---- as many frames as before
pub same_count : (starts : List ℕ) (writes : List Page) (old new : List (ℕ × Stamped)) → length new ≡ length old →
    ((k : ℕ) (d : ℕ × Stamped) → k < length old → IsThreadRenumbered starts writes (get_or old k d).1 (get_or new k d).1) → length (all_starts new) ≡ length (all_starts old)
same_count starts writes [] [] long each = refl
same_count starts writes [] (y ∷ new) long each = absurd (omega (arith, long))
same_count starts writes (x ∷ old) [] long each = absurd (omega (arith, long))
same_count starts writes (x ∷ old) (y ∷ new) long each =
    let one = ap length (each 0 x (omega arith)).frames ∙ length-map x.1.frames (λ (f : Frame). record f { start = new_start starts f.start }) in
    omega (arith, one, same_count starts writes old new (omega (arith, long)) (λ k d lt. each (suc k) d (omega (arith, lt))), starts_long x old, starts_long y new)

-- ---- the starts in another order
pub among_sorted : (xs ys : List ℕ) → IsPermutation xs ys → All (Contains ys) xs
among_sorted xs ys same = λ k d lt. Contains-permutation xs ys (get_or xs k d) same (All-contains_itself xs k d lt)

module _ (xs ys : List ℕ) (same : IsPermutation xs ys) where
  same_class : (s : ℕ) → class ys s ≡ class xs s
  same_class s = sum_by-IsPermutation (λ x. cond (leb x s) 1 0) xs ys same

  pub same_write : (w : ℕ) → new_write ys w ≡ new_write xs w
  same_write w = ap (λ k. cond (w == 0) 0 (3 * k + 1)) (same_class w)

  same_access : (a w : ℕ) → new_access ys a w ≡ new_access xs a w
  same_access a w = ap₂ (λ k j. renewed (record { own = a; own_class = k; write = w; write_class = j })) (same_class a) (same_class w)

  same_frames : (frames : List Frame) → renewed_frames ys frames ≡ renewed_frames xs frames
  same_frames [] = refl
  same_frames (f ∷ frames) = ap₂ (λ (k : ℕ) (fs : List Frame). record { start = 3 * k; sums = f.sums } ∷ fs) (same_class f.start) (same_frames frames)

  pub same_thread : (writes : List Page) (old new : Stamped) → IsThreadRenumbered ys writes old new → IsThreadRenumbered xs writes old new
  same_thread writes old new is = record {
    frames = is.frames ∙ same_frames old.frames;
    spare = is.spare;
    stamps = λ w. is.stamps w ∙ same_access (stamp_at old.pages w) (stamp_at writes w);
    covered = is.covered;
    calls = is.calls;
  }

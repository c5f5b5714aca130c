-- The threads where one of them changes.
use Rattle.std.proofs.Common.{◌≡◌, ℕ, suc, ◌+◌, ◌-◌, ◌<◌, ◌≤◌, Bool, true, false, cond, List, [], ◌∷◌, ◌++◌, length, Option, Some, None, refl, sym, ap, ap₂, ◌∙◌, subst, arith, All, not}
use Rattle.std.specs.Prelude.{◌==◌, is_some, OnErr, OnOk, Result, Ok, Err}
use Rattle.std.specs.Option.{option_map_or}
use Rattle.std.proofs.lemmas.Bool.{eq-eqb}
use Rattle.std.proofs.lemmas.Bool.Decides.{nat_tests}
use Rattle.std.proofs.lemmas.List.{length-append, length-map}
use Rattle.guest_words.specs.ByThread.{IsRising, numbers, value_of, with_value, without_thread}
use Rattle.guest_words.proofs.ThreadTables.{numbers-with, rising_pushed, rising_without, value_of-pushed, value_of-with, with_own}
use Rattle.shadow_stack.specs.declared.sums.Sums.{Sums}
use Rattle.shadow_stack.specs.Frames.{Frame, IsPopped, added_to_last, starts_of}
use Rattle.stamp_renumber.specs.Kept.{IsKept}
use Rattle.call_tracker.specs.ThreadCalls.{Calls, no_counts}
use Rattle.stamp_renumber.specs.Counted.{with_calls}
use Rattle.stamp_renumber.specs.Threads.{Live, Stamped, all_starts, calls_of, frames_of, own_of, pages_of, spare_of, stamped}

-- ---- how many frames there are
pub starts_long : (x : ℕ × Stamped) (xs : List (ℕ × Stamped)) → length (all_starts (x ∷ xs)) ≡ length x.1.frames + length (all_starts xs)
starts_long x xs = length-append (starts_of x.1.frames) (all_starts xs) ∙ ap (λ n. n + length (all_starts xs)) (length-map x.1.frames (λ (f : Frame). f.start))

pub starts-with : (xs : List (ℕ × Stamped)) (t : ℕ) (old new : Stamped) → value_of xs t ≡ Some old →
    length (all_starts (with_value xs t new)) + length old.frames ≡ length (all_starts xs) + length new.frames
starts-with [] t old new here = absurd (cc)
starts-with (x ∷ xs) t old new here = by (x.0 == t) here (λ later. starts-with xs t old new later)
  where
    by : (b : Bool) → cond b (Some x.1) (value_of xs t) ≡ Some old →
        (value_of xs t ≡ Some old → length (all_starts (with_value xs t new)) + length old.frames ≡ length (all_starts xs) + length new.frames) →
        length (all_starts (cond b ((x.0, new) ∷ xs) (x ∷ with_value xs t new))) + length old.frames ≡ length (all_starts (x ∷ xs)) + length new.frames
    by true here later =
        let same : x.1 ≡ old = cc in
        let long = ap (λ (s : Stamped). length s.frames) same in
        omega (arith, long, starts_long (x.0, new) xs, starts_long x xs)
    by false here later = let rest = later here in omega (arith, rest, starts_long x (with_value xs t new), starts_long x xs)

pub starts_of_one : (xs : List (ℕ × Stamped)) (t : ℕ) (old : Stamped) → value_of xs t ≡ Some old → length old.frames ≤ length (all_starts xs)
starts_of_one [] t old here = absurd (cc)
starts_of_one (x ∷ xs) t old here = by (x.0 == t) here (λ later. starts_of_one xs t old later)
  where
    by : (b : Bool) → cond b (Some x.1) (value_of xs t) ≡ Some old → (value_of xs t ≡ Some old → length old.frames ≤ length (all_starts xs)) → length old.frames ≤ length (all_starts (x ∷ xs))
    by true here later =
        let same : x.1 ≡ old = cc in
        let long = ap (λ (s : Stamped). length s.frames) same in
        omega (arith, long, starts_long x xs)
    by false here later = let rest = later here in omega (arith, rest, starts_long x xs)

-- no thread after a greater number
absent : (n : ℕ) (xs : List (ℕ × Stamped)) (t : ℕ) → t ≤ n → IsRising (n ∷ numbers xs) → without_thread xs t ≡ xs
absent n [] t le rising = refl
absent n (x ∷ xs) t le rising =
    let up : n < x.0 = rising.0 in
    let other : (x.0 == t) ≡ false = grind (arith, nat_tests, up, le) in
    ap (λ b. cond (not b) (x ∷ without_thread xs t) (without_thread xs t)) other ∙ ap (λ ys. x ∷ ys) (absent x.0 xs t (omega arith) rising.1)

pub rising_tail : (n : ℕ) (ns : List ℕ) → IsRising (n ∷ ns) → IsRising ns
rising_tail n [] rising = tt
rising_tail n (m ∷ ns) rising = rising.1

pub starts-without : (xs : List (ℕ × Stamped)) (t : ℕ) → IsRising (numbers xs) → length (all_starts (without_thread xs t)) + length (frames_of xs t) ≡ length (all_starts xs)
starts-without [] t rising = refl
starts-without (x ∷ xs) t rising = by (x.0 == t) refl (starts-without xs t (rising_tail x.0 (numbers xs) rising))
  where
    by : (b : Bool) → (x.0 == t) ≡ b → length (all_starts (without_thread xs t)) + length (frames_of xs t) ≡ length (all_starts xs) →
        length (all_starts (cond (not b) (x ∷ without_thread xs t) (without_thread xs t))) + length (option_map_or (λ (s : Stamped). s.frames) (cond b (Some x.1) (value_of xs t)) []) ≡ length (all_starts (x ∷ xs))
    by true is later =
        let low : t ≤ x.0 = grind (arith, nat_tests, is) in
        let rest = ap (λ ys. length (all_starts ys)) (absent x.0 xs t low rising) in
        omega (arith, rest, starts_long x xs)
    by false is later = omega (arith, later, starts_long x (without_thread xs t), starts_long x xs)

pub starts_pushed : (xs : List (ℕ × Stamped)) (t : ℕ) (new : Stamped) → new.frames ≡ [] → length (all_starts (xs ++ (t, new) ∷ [])) ≡ length (all_starts xs)
starts_pushed [] t new none = starts_long (t, new) [] ∙ ap (λ (fs : List Frame). length fs + 0) none
starts_pushed (x ∷ xs) t new none = omega (arith, starts_pushed xs t new none, starts_long x xs, starts_long x (xs ++ (t, new) ∷ []))

-- ---- what is kept
pub kept_changed : (xs : List (ℕ × Stamped)) (t : ℕ) (old new : Stamped) (n m k j a b : ℕ) → IsKept xs n m a b → value_of xs t ≡ Some old →
    k + length old.frames ≡ n + length new.frames → k + j ≤ n + m → IsKept (with_value xs t new) k j a b
kept_changed xs t old new n m k j a b kept here long room = record {
  rising = subst IsRising (sym (numbers-with xs t new)) kept.rising;
  counted = let counted = kept.counted in omega (arith, counted, starts-with xs t old new here, long);
  starts_fit = let fit = kept.starts_fit in omega (arith, fit, room);
  renewed_fit = let fit = kept.renewed_fit in omega (arith, fit, room);
}

pub kept_pushed : (xs : List (ℕ × Stamped)) (t : ℕ) (new : Stamped) (n m a b : ℕ) → IsKept xs n m a b → All (λ k. k < t) (numbers xs) → new.frames ≡ [] → IsKept (xs ++ (t, new) ∷ []) n m a b
kept_pushed xs t new n m a b kept above none = record {
  rising = rising_pushed xs t new kept.rising above;
  counted = kept.counted ∙ sym (starts_pushed xs t new none);
  starts_fit = kept.starts_fit;
  renewed_fit = kept.renewed_fit;
}

pub kept_without : (xs : List (ℕ × Stamped)) (t n m a b : ℕ) → IsKept xs n m a b → IsKept (without_thread xs t) (n - length (frames_of xs t)) (m + length (frames_of xs t)) a b
kept_without xs t n m a b kept =
    let counted = kept.counted in
    let left = starts-without xs t kept.rising in
    let starts_fit = kept.starts_fit in
    let renewed_fit = kept.renewed_fit in
    record { rising = rising_without xs t kept.rising; counted = omega arith; starts_fit = omega arith; renewed_fit = omega arith }

-- ---- one thread, which has a value
abbrev calls_in : Option Stamped → Calls
calls_in o = option_map_or (λ (s : Stamped). s.calls) o (record { list = []; counts = no_counts })

module _ (xs threads : List (ℕ × Stamped)) (is : xs ≡ threads) (t : ℕ) (old : Stamped) (here : value_of xs t ≡ Some old) where
  there : value_of threads t ≡ Some old
  there = ap (λ ys. value_of ys t) (sym is) ∙ here

  pub frames_were : frames_of threads t ≡ old.frames
  frames_were = ap (λ (o : Option Stamped). option_map_or (λ (s : Stamped). s.frames) o []) there

  pub pages_were : pages_of threads t ≡ old.pages
  pages_were = ap (λ (o : Option Stamped). option_map_or (λ (s : Stamped). s.pages) o []) there

  pub spare_was : spare_of threads t ≡ old.spare
  spare_was = ap (λ (o : Option Stamped). option_map_or (λ (s : Stamped). s.spare) o 0) there

  pub calls_were : calls_of threads t ≡ old.calls
  calls_were = ap calls_in there

  pub now : (new : Stamped) → value_of (with_value xs t new) t ≡ Some new
  now new = value_of-with xs t new old here t ∙ ap (λ b. cond b (Some new) (value_of xs t)) (eq-eqb t t refl)

  -- the thread as it was, and as it is
  abbrev own_in : Option Stamped → Stamped
  own_in o = record {
    frames = option_map_or (λ (s : Stamped). s.frames) o [];
    spare = option_map_or (λ (s : Stamped). s.spare) o 0;
    pages = option_map_or (λ (s : Stamped). s.pages) o [];
    calls = calls_in o;
  }

  pub own_was : own_of threads t ≡ old
  own_was = ap own_in there

  pub own_is : (new : Stamped) → own_of (with_value xs t new) t ≡ new
  own_is new = ap own_in (now new)

  pub changed_own : (new : Stamped) → with_value xs t new ≡ with_value threads t (own_of (with_value xs t new) t)
  changed_own new = ap₂ (λ (ys : List (ℕ × Stamped)) (s : Stamped). with_value ys t s) is (sym (own_is new))

  pub frames_are : (new : Stamped) → frames_of (with_value xs t new) t ≡ new.frames
  frames_are new = ap (λ (o : Option Stamped). option_map_or (λ (s : Stamped). s.frames) o []) (now new)

  pub spare_is : (new : Stamped) → spare_of (with_value xs t new) t ≡ new.spare
  spare_is new = ap (λ (o : Option Stamped). option_map_or (λ (s : Stamped). s.spare) o 0) (now new)

  pub calls_are : (new : Stamped) → calls_of (with_value xs t new) t ≡ new.calls
  calls_are new = ap calls_in (now new)

  pub changed_to : (new : Stamped) (frames : List Frame) → new.frames ≡ frames → new.pages ≡ old.pages →
      with_value xs t new ≡ with_value threads t (stamped (with_value xs t new) t frames (pages_of threads t))
  changed_to new frames f p =
      ap (λ ys. with_value ys t new) is
      ∙ ap (λ (s : Stamped). with_value threads t s)
      ((λ i. record { frames = f i; spare = sym (spare_is new) i; pages = (p ∙ sym pages_were) i; calls = sym (calls_are new) i }))

-- its calls changed
pub changed_calls : (xs : List (ℕ × Stamped)) (marks : ℕ) (live : Live) (t : ℕ) (old new : Stamped) (change : Calls → Calls) → record { threads = xs; marks = marks } ≡ live →
    value_of xs t ≡ Some old → new ≡ record old { calls = change old.calls } →
    record { threads = with_value xs t new; marks = marks } ≡ with_calls live t (change (calls_of live.threads t))
changed_calls xs marks live t old new change is here made =
    let own : record old { calls = change old.calls } ≡ record (own_of xs t) { calls = change (calls_of xs t) } =
    ap (λ (s : Stamped). record s { calls = change s.calls }) (sym (own_was xs xs refl t old here)) in
    ap (λ (s : Stamped). record { threads = with_value xs t s; marks = marks }) (made ∙ own)
    ∙ ap (λ (l : Live). with_calls l t (change (calls_of l.threads t))) is

-- a thread as it was
pub unchanged : (threads : List (ℕ × Stamped)) (t : ℕ) → is_some (value_of threads t) ≡ true → threads ≡ with_value threads t (stamped threads t (frames_of threads t) (pages_of threads t))
unchanged threads t lives = by (value_of threads t) refl lives
  where
    by : (o : Option Stamped) → value_of threads t ≡ o → is_some o ≡ true →
        threads ≡ with_value threads t (record { frames = option_map_or (λ (s : Stamped). s.frames) o []; spare = option_map_or (λ (s : Stamped). s.spare) o 0; pages = option_map_or (λ (s : Stamped). s.pages) o []; calls = calls_in o })
    by None here lives = absurd (cc)
    by (Some s) here lives = sym (with_own threads t s here)

-- one thread more
pub added_calls : (xs : List (ℕ × Stamped)) (t : ℕ) (new : Stamped) → All (λ k. k < t) (numbers xs) → calls_of (xs ++ (t, new) ∷ []) t ≡ new.calls
added_calls xs t new above = ap calls_in (value_of-pushed xs t new above t ∙ ap (λ b. cond b (Some new) (value_of xs t)) (eq-eqb t t refl))

pub added_thread : (xs threads : List (ℕ × Stamped)) (is : xs ≡ threads) (t : ℕ) (new : Stamped) → All (λ k. k < t) (numbers xs) → new.frames ≡ [] → new.pages ≡ [] →
    xs ++ (t, new) ∷ [] ≡ threads ++ (t, stamped (xs ++ (t, new) ∷ []) t [] []) ∷ []
added_thread xs threads is t new above f p =
    let now : value_of (xs ++ (t, new) ∷ []) t ≡ Some new = value_of-pushed xs t new above t ∙ ap (λ b. cond b (Some new) (value_of xs t)) (eq-eqb t t refl) in
    let spare : new.spare ≡ spare_of (xs ++ (t, new) ∷ []) t = sym (ap (λ (o : Option Stamped). option_map_or (λ (s : Stamped). s.spare) o 0) now) in
    ap₂ (λ (ys : List (ℕ × Stamped)) (s : Stamped). ys ++ (t, s) ∷ []) is (λ i. record { frames = f i; spare = spare i; pages = p i; calls = sym (added_calls xs t new above) i })

-- ---- a frame taken
length_added : (by : Sums) (frames : List Frame) → length (added_to_last by frames) ≡ length frames
length_added by [] = refl
length_added by (f ∷ []) = refl
length_added by (f ∷ g ∷ frames) = ap suc (length_added by (g ∷ frames))

pub popped_one : (old new : List Frame) (sums : Sums) → IsPopped old (Some sums) new → length old ≡ length new + 1
popped_one old new sums p =
    let outer = p.0 in
    let top = p.1 in
    let long = ap length p.2 in
    let less = ap length p.4 in
    omega (arith, long, less, length-append outer (top ∷ []), length_added sums outer)

-- what holds after both answers
pub either : {T E X : Type 0} (r : Result T E) (P : X → Type 0) (x : X) → OnOk r (P x) → OnErr r (P x) → P x
either (Ok v) P x ok err = ok
either (Err e) P x ok err = err

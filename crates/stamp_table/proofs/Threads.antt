-- Lists of threads by rising number: one of them changed, one more, one less.
use Rattle.std.proofs.Common.{◌≡◌, ℕ, ◌+◌, ◌≤◌, Bool, true, false, not, cond, List, [], ◌∷◌, ◌++◌, length, Option, Some, None, refl, sym, ap, subst, ◌∙◌, arith}
use Rattle.std.specs.Prelude.{◌==◌, Contains}
use Rattle.std.specs.Option.{option_map_or}
use Rattle.std.proofs.lemmas.Bool.Decides.{nat_tests}
use Rattle.std.proofs.lemmas.List.{length-append, append-nil}
use Rattle.std.proofs.lemmas.List.Concat.{flat_map-append}
use Rattle.std.proofs.lemmas.List.Elements.{Contains-append_left, Contains-append_right}
use Rattle.guest_words.specs.ByThread.{IsRising, numbers, value_of, with_value, without_thread}
use Rattle.guest_words.proofs.ThreadTables.{numbers-with, value_of-with}
use Rattle.shadow_stack.specs.Frames.{starts_of}
use Rattle.stamp_table.specs.Table.{Thread, changed}
use Rattle.stamp_table.specs.Renewal.{all_starts}

pub value_of-changed : (xs : List (ℕ × Thread)) (t : ℕ) (change : Thread → Thread) (v : Thread) → value_of xs t ≡ Some v →
    (u : ℕ) → value_of (changed t change xs) u ≡ cond (t == u) (Some (change v)) (value_of xs u)
value_of-changed xs t change v found u =
    ap (λ o. value_of (option_map_or (λ thread. with_value xs t (change thread)) o xs) u) found ∙ value_of-with xs t (change v) v found u

pub numbers-changed : (xs : List (ℕ × Thread)) (t : ℕ) (change : Thread → Thread) → numbers (changed t change xs) ≡ numbers xs
numbers-changed xs t change = by (value_of xs t)
  where
    by : (o : Option Thread) → numbers (option_map_or (λ thread. with_value xs t (change thread)) o xs) ≡ numbers xs
    by None = refl
    by (Some v) = numbers-with xs t (change v)

-- a start of a thread is one of all starts
pub starts_among : (xs : List (ℕ × Thread)) (t s : ℕ) (thread : Thread) → value_of xs t ≡ Some thread → Contains (starts_of thread.frames) s →
    Contains (all_starts xs) s
starts_among [] t s thread found among = absurd (cc)
starts_among (x ∷ xs) t s thread found among = by (x.0 == t) found (λ later. starts_among xs t s thread later among)
  where
    by : (b : Bool) → cond b (Some x.1) (value_of xs t) ≡ Some thread → (value_of xs t ≡ Some thread → Contains (all_starts xs) s) →
        Contains (starts_of x.1.frames ++ all_starts xs) s
    by true found rest =
        let same : x.1 ≡ thread = cc in
        Contains-append_left (starts_of x.1.frames) (all_starts xs) s (subst (λ (v : Thread). Contains (starts_of v.frames) s) (sym same) among)
    by false found rest = Contains-append_right (starts_of x.1.frames) (all_starts xs) s (rest found)

-- ---- how many frames all threads have
abbrev pub frame_count : List (ℕ × Thread) → ℕ
frame_count xs = length (all_starts xs)

abbrev pub frames_of : Option Thread → ℕ
frames_of None = 0
frames_of (Some thread) = length (starts_of thread.frames)

pub count-cons : (x : ℕ × Thread) (xs : List (ℕ × Thread)) → frame_count (x ∷ xs) ≡ length (starts_of x.1.frames) + frame_count xs
count-cons x xs = length-append (starts_of x.1.frames) (all_starts xs)

count-with : (xs : List (ℕ × Thread)) (t : ℕ) (v w : Thread) → value_of xs t ≡ Some w →
    frame_count (with_value xs t v) + length (starts_of w.frames) ≡ frame_count xs + length (starts_of v.frames)
count-with [] t v w found = absurd (cc)
count-with (x ∷ xs) t v w found = by (x.0 == t) found (λ later. count-with xs t v w later)
  where
    by : (b : Bool) → cond b (Some x.1) (value_of xs t) ≡ Some w →
        (value_of xs t ≡ Some w → frame_count (with_value xs t v) + length (starts_of w.frames) ≡ frame_count xs + length (starts_of v.frames)) →
        frame_count (cond b ((x.0, v) ∷ xs) (x ∷ with_value xs t v)) + length (starts_of w.frames) ≡ frame_count (x ∷ xs) + length (starts_of v.frames)
    by true found rest =
        let same : x.1 ≡ w = cc in
        omega (arith, count-cons x xs, count-cons (x.0, v) xs, ap (λ (y : Thread). length (starts_of y.frames)) same)
    by false found rest = omega (arith, count-cons x xs, count-cons x (with_value xs t v), rest found)

pub count-changed : (xs : List (ℕ × Thread)) (t : ℕ) (change : Thread → Thread) (v : Thread) → value_of xs t ≡ Some v →
    frame_count (changed t change xs) + length (starts_of v.frames) ≡ frame_count xs + length (starts_of (change v).frames)
count-changed xs t change v found =
    ap (λ o. frame_count (option_map_or (λ thread. with_value xs t (change thread)) o xs) + length (starts_of v.frames)) found
    ∙ count-with xs t (change v) v found

pub count-pushed : (xs : List (ℕ × Thread)) (t : ℕ) (v : Thread) → frame_count (xs ++ (t, v) ∷ []) ≡ frame_count xs + length (starts_of v.frames)
count-pushed xs t v =
    ap length (flat_map-append (λ (x : ℕ × Thread). starts_of x.1.frames) xs ((t, v) ∷ []))
    ∙ length-append (all_starts xs) (starts_of v.frames ++ [])
    ∙ ap (λ (ss : List ℕ). frame_count xs + length ss) (append-nil (starts_of v.frames))

-- a number at or below one that the others rise from is none of them
none_without : (n : ℕ) (xs : List (ℕ × Thread)) (t : ℕ) → IsRising (n ∷ numbers xs) → t ≤ n → without_thread xs t ≡ xs
none_without n [] t rising low = refl
none_without n (x ∷ xs) t rising low =
    let apart : (x.0 == t) ≡ false = grind (arith, nat_tests, rising.0, low) in
    ap (λ b. cond (not b) (x ∷ without_thread xs t) (without_thread xs t)) apart
    ∙ ap (λ ys. x ∷ ys) (none_without x.0 xs t rising.1 (omega (arith, rising.0, low)))

pub count-without : (xs : List (ℕ × Thread)) (t : ℕ) (w : Thread) → IsRising (numbers xs) → value_of xs t ≡ Some w →
    frame_count (without_thread xs t) + length (starts_of w.frames) ≡ frame_count xs
count-without [] t w rising found = absurd (cc)
count-without (x ∷ xs) t w rising found = by (x.0 == t) refl found (λ later. count-without xs t w (tail xs rising) later)
  where
    tail : (ys : List (ℕ × Thread)) → IsRising (x.0 ∷ numbers ys) → IsRising (numbers ys)
    tail [] rising = tt
    tail (y ∷ ys) rising = rising.1

    by : (b : Bool) → (x.0 == t) ≡ b → cond b (Some x.1) (value_of xs t) ≡ Some w →
        (value_of xs t ≡ Some w → frame_count (without_thread xs t) + length (starts_of w.frames) ≡ frame_count xs) →
        frame_count (cond (not b) (x ∷ without_thread xs t) (without_thread xs t)) + length (starts_of w.frames) ≡ frame_count (x ∷ xs)
    by true is found rest =
        let same : x.1 ≡ w = cc in
        let number : t ≤ x.0 = grind (arith, nat_tests, is) in
        omega (arith, count-cons x xs, ap frame_count (none_without x.0 xs t rising number), ap (λ (y : Thread). length (starts_of y.frames)) same)
    by false is found rest = omega (arith, count-cons x xs, count-cons x (without_thread xs t), rest found)

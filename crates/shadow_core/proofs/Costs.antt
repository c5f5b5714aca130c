-- How many steps reads of words count.
use Rattle.std.proofs.Common.{◌≡◌, ℕ, zero, suc, ◌+◌, ◌*◌, ◌^◌, ◌<◌, ◌≤◌, Bool, true, false, cond, List, [], ◌∷◌, length, refl, sym, ap, subst, ◌∙◌, arith, is_some}
use Rattle.std.specs.List.{count_by, range_with_len, sum_by}
use Rattle.std.specs.Option.{option_map_or}
use Rattle.std.specs.Prelude.{◌==◌, Some}
use Rattle.std.proofs.Math.Nat.{add-mul}
use Rattle.std.proofs.lemmas.List.Sums.{sum_by-append}
use Rattle.guest_words.specs.ByThread.{value_of, with_value}
use Rattle.shadow_pages.specs.Pages.{stamp_at}
use Rattle.shadow_stack.specs.Costs.{is_old, most_compared}
use Rattle.shadow_stack.specs.Frames.{Frame, starts_of}
use Rattle.stamp_renumber.specs.Costs.{stamps_of}
use Rattle.stamp_renumber.specs.Threads.{Live, Stamped, frames_of, pages_of}
use Rattle.shadow_core.specs.Costs.{old_words}
use Rattle.shadow_core.specs.Private.Reading.{IsRead, IsReadWithin}
use Rattle.shadow_core.proofs.Reading.{length_read, not_before, range_append, starts_read}

-- ---- more steps
-- some were counted before
pub within_before : (k p q : ℕ) (old : Live) (t first n a m b : ℕ) → m ≡ a + k → k + p ≤ q → IsReadWithin p old t first n m b → IsReadWithin q old t first n a b
within_before k p q old t first n a m b is le h = λ digits low. let most = h digits low in omega (arith, most, is, le)

-- no word is read one by one
pub within_alone : (p : ℕ) (old : Live) (t first n a b : ℕ) → b ≤ a + p → IsReadWithin p old t first n a b
within_alone p old t first n a b le = λ digits low. omega (arith, le)

-- ---- one word
times_one : (b : Bool) (digits : ℕ) → cond b digits 0 ≡ (0 + cond b 1 0) * digits
times_one true digits = omega arith
times_one false digits = omega arith

pub word_within : (old : Live) (t w own a m b : ℕ) → own ≡ stamp_at (pages_of old.threads t) w → m ≡ a + 2 →
    ((digits : ℕ) → length (frames_of old.threads t) < 2 ^ digits → b ≤ m + most_compared digits (starts_of (frames_of old.threads t)) own) → IsReadWithin 4 old t w 1 a b
word_within old t w own a m b is at cost = λ digits low.
    let starts = starts_of (frames_of old.threads t) in
    let most = cost digits low in
    let one : cond (is_old starts own) digits 0 ≡ old_words old t w 1 * digits = ap (λ s. cond (is_old starts s) digits 0) is ∙ times_one (is_old starts (stamp_at (pages_of old.threads t) w)) digits in
    omega (arith, most, one, at)

-- ---- the same stamps
same_from : (starts : List ℕ) (own own' : ℕ → ℕ) (at m : ℕ) → ((w : ℕ) → at ≤ w → own w ≡ own' w) →
    count_by (λ w. is_old starts (own w)) (range_with_len at m) ≡ count_by (λ w. is_old starts (own' w)) (range_with_len at m)
same_from starts own own' at zero same = refl
same_from starts own own' at (suc m) same =
    let here = same at (omega arith) in
    let rest = same_from starts own own' (at + 1) m (λ w le. same w (omega (arith, le))) in
    sum_by-append (λ w. cond (is_old starts (own w)) 1 0) (at ∷ []) (range_with_len (at + 1) m)
    ∙ (λ i. 0 + cond (is_old starts (here i)) 1 0 + rest i)
    ∙ sym (sum_by-append (λ w. cond (is_old starts (own' w)) 1 0) (at ∷ []) (range_with_len (at + 1) m))

-- a thread with the same frames, whose words have the same stamps
pub within_same : (p : ℕ) (old mid : Live) (t first n a b : ℕ) → frames_of mid.threads t ≡ frames_of old.threads t → ((w : ℕ) → stamp_at (pages_of mid.threads t) w ≡ stamp_at (pages_of old.threads t) w) →
    IsReadWithin p mid t first n a b → IsReadWithin p old t first n a b
within_same p old mid t first n a b frames stamps h = λ digits low.
    let most = h digits (subst (λ (fs : List Frame). length fs < 2 ^ digits) (sym frames) low) in
    let words : old_words mid t first n ≡ old_words old t first n =
    ap (λ (fs : List Frame). count_by (λ w. is_old (starts_of fs) (stamp_at (pages_of mid.threads t) w)) (range_with_len first n)) frames
    ∙ same_from (starts_of (frames_of old.threads t)) (stamp_at (pages_of mid.threads t)) (stamp_at (pages_of old.threads t)) first n (λ w le. stamps w) in
    let all : old_words mid t first n * digits ≡ old_words old t first n * digits = ap (λ k. k * digits) words in
    omega (arith, most, all)

-- ---- reads, one after the other
module _ (old mid : Live) (t : ℕ) (write marks : ℕ → ℕ) (first n stamp : ℕ) (lives : is_some (value_of old.threads t) ≡ true) (one : IsRead old mid t write marks first n stamp) where
  old_on : (at m : ℕ) → at ≡ first + n → old_words old t first (n + m) ≡ old_words old t first n + old_words mid t at m
  old_on at m is =
      let was = stamp_at (pages_of old.threads t) in
      let now = stamp_at (pages_of mid.threads t) in
      let starts = starts_of (frames_of old.threads t) in
      let same : (w : ℕ) → at ≤ w → was w ≡ now w = λ w le. sym (one.stamps w ∙ ap (λ b. cond b stamp (was w)) (not_before first n w (omega (arith, le, is)))) in
      ap (λ (ws : List ℕ). count_by (λ w. is_old starts (was w)) ws) (range_append first n m at is)
      ∙ sum_by-append (λ w. cond (is_old starts (was w)) 1 0) (range_with_len first n) (range_with_len at m)
      ∙ ap (λ k. old_words old t first n + k)
      (same_from starts was now at m same
      ∙ ap (λ (ss : List ℕ). count_by (λ w. is_old ss (now w)) (range_with_len at m)) (sym (starts_read old mid t write marks first n stamp lives one)))

  pub within_on : (p q r at m a b c : ℕ) → at ≡ first + n → p + q ≤ r → IsReadWithin p old t first n a b → IsReadWithin q mid t at m b c → IsReadWithin r old t first (n + m) a c
  within_on p q r at m a b c is le front back = λ digits low.
      let before = front digits low in
      let after = back digits (subst (λ k. k < 2 ^ digits) (sym (length_read old mid t write marks first n stamp lives one)) low) in
      let all : old_words old t first (n + m) * digits ≡ old_words old t first n * digits + old_words mid t at m * digits =
      ap (λ k. k * digits) (old_on at m is) ∙ add-mul (old_words old t first n) (old_words mid t at m) digits in
      omega (arith, before, after, all, le)

-- ---- all stamps
abbrev own_stamps : ℕ × Stamped → ℕ
own_stamps x = stamps_of x.1

-- a thread that has as many frames and pages as before
pub stamps_with : (xs : List (ℕ × Stamped)) (t : ℕ) (v : Stamped) → stamps_of v ≡ length (frames_of xs t) + 1024 * length (pages_of xs t) → sum_by own_stamps (with_value xs t v) ≡ sum_by own_stamps xs
stamps_with [] t v is = refl
stamps_with (x ∷ xs) t v is = by (x.0 == t) is (λ later. stamps_with xs t v later)
  where
    by : (b : Bool) →
        stamps_of v ≡ length (option_map_or (λ (s : Stamped). s.frames) (cond b (Some x.1) (value_of xs t)) []) + 1024 * length (option_map_or (λ (s : Stamped). s.pages) (cond b (Some x.1) (value_of xs t)) []) →
        (stamps_of v ≡ length (frames_of xs t) + 1024 * length (pages_of xs t) → sum_by own_stamps (with_value xs t v) ≡ sum_by own_stamps xs) →
        sum_by own_stamps (cond b ((x.0, v) ∷ xs) (x ∷ with_value xs t v)) ≡ sum_by own_stamps (x ∷ xs)
    by true is later = sum_by-append own_stamps ((x.0, v) ∷ []) xs ∙ ap (λ n. 0 + n + sum_by own_stamps xs) is ∙ sym (sum_by-append own_stamps (x ∷ []) xs)
    by false is later = sum_by-append own_stamps (x ∷ []) (with_value xs t v) ∙ ap (λ n. 0 + own_stamps x + n) (later is) ∙ sym (sum_by-append own_stamps (x ∷ []) xs)

-- some more pages
pub ticked_more : (b : Bool) (threads was now count : ℕ) → now ≤ was + count → cond b 0 (threads + 1024 * now) ≤ cond b 0 (threads + 1024 * was + 1024 * count)
ticked_more true threads was now count few = omega arith
ticked_more false threads was now count few = omega (arith, few)

-- Frames that are popped one after the other, and what is recorded of them.
use Rattle.std.proofs.Common.{◌≡◌, ℕ, ◌+◌, ◌<◌, ◌≤◌, List, [], ◌∷◌, ◌++◌, length, drop, drop-drop, append_assoc, append-nil, true, ◌-◌, ◌^◌, refl, sym, ap, ◌∙◌, Some, arith, subst}
use Rattle.shadow_stack.specs.declared.sums.Sums.{Sums}
use Rattle.std.proofs.lemmas.List.{length-drop, length_push, reverse-reverse}
use Rattle.trace_model.specs.declared.slow_profile.Done.{Done}
use Rattle.stamp_renumber.specs.Threads.{Live, Stamped, calls_of, frames_of, pages_of, stamped}
use Rattle.stamp_renumber.proofs.Changed.{unchanged}
use Rattle.guest_words.specs.ByThread.{value_of, with_value}
use Rattle.std.proofs.lemmas.Int.{ints}
use Rattle.std.proofs.lemmas.List.Elements.{All-head, All-tail}
use Rattle.stamp_table.specs.Allows.{AreWithin, IsWithin}
use Rattle.std.specs.Prelude.{Option, None, is_some, reverse}
use Rattle.shadow_core.proofs.Accessed.{its_pages}
use Rattle.stamp_table.specs.Frames.{frames_after_pops}
use Rattle.shadow_core.proofs.Reading.{All-reverse}
use Rattle.shadow_core.proofs.Reversed.{pops_in_order}
use Rattle.shadow_core.proofs.StateEvents.{last_change_counts, stamped_value}
use Rattle.shadow_stack.specs.Frames.{FitsPop, Frame, IsPopped, added_to_last}
use Rattle.shadow_core.specs.Private.Ending.{IsEnded}
use Rattle.shadow_core.specs.Private.Parts.{ArePopped}
use Rattle.stamp_table.specs.Records.{record_of, records}
use Rattle.call_tracker.specs.ThreadCalls.{CountedCall, Counts}

-- one frame more
pub popped_more : (fs gs hs : List Frame) (sums : List Sums) (s : Sums) → ArePopped fs sums gs → IsPopped gs (Some s) hs → ArePopped fs (sums ++ s ∷ []) hs
popped_more fs gs hs [] s same last = (hs, subst (λ (xs : List Frame). IsPopped xs (Some s) hs) same last, refl)
popped_more fs gs hs (x ∷ sums) s some last = (some.0, some.1, popped_more some.0 gs hs sums s some.2 last)

-- and the records of more
pub records_split : (t : ℕ) (counts : Counts) (sums more : List Sums) (calls : List CountedCall) →
    records t counts (sums ++ more) calls ≡ records t counts sums calls ++ records t counts more (drop (length sums) calls)
records_split t counts [] more calls = refl
records_split t counts (x ∷ sums) [] [] = refl
records_split t counts (x ∷ sums) (s ∷ more) [] = refl
records_split t counts (x ∷ sums) more (c ∷ calls) = ap (λ (ds : List Done). record_of t counts x c ∷ ds) (records_split t counts sums more calls)

pub popped_length : (fs gs : List Frame) (sums : List Sums) → ArePopped fs sums gs → length fs ≡ length gs + length sums
popped_length fs gs [] same = omega (arith, ap (λ (xs : List Frame). length xs) same)
popped_length fs gs (x ∷ sums) some =
    let p = some.1 in
    let later = popped_length some.0 gs sums some.2 in
    omega (
      arith,
      later,
      ap (λ (xs : List Frame). length xs) p.2,
      length_push p.0 p.1,
      ap (λ (xs : List Frame). length xs) p.4,
      length-to_last x p.0,
    )
  where
    length-to_last : (by : Sums) (xs : List Frame) → length (added_to_last by xs) ≡ length xs
    length-to_last by [] = refl
    length-to_last by (f ∷ []) = refl
    length-to_last by (f ∷ g ∷ xs) = omega (arith, length-to_last by (g ∷ xs))

-- no frame's sums are so great that a pop does not fit
pub fits_pop : (frames : List Frame) → AreWithin (2 ^ 62 - 1) frames → FitsPop frames
fits_pop [] within = tt
fits_pop (f ∷ []) within = tt
fits_pop (f ∷ g ∷ []) within =
    let first = All-head (λ (k : Frame). IsWithin (2 ^ 62 - 1) k.sums.plain × IsWithin (2 ^ 62 - 1) k.sums.bare) f (g ∷ []) within in
    let second = All-head (λ (k : Frame). IsWithin (2 ^ 62 - 1) k.sums.plain × IsWithin (2 ^ 62 - 1) k.sums.bare) g []
    (All-tail (λ (k : Frame). IsWithin (2 ^ 62 - 1) k.sums.plain × IsWithin (2 ^ 62 - 1) k.sums.bare) f (g ∷ []) within) in
    ((omega (arith, ints, first.0, second.0), omega (arith, ints, first.0, second.0)), (omega (arith, ints, first.1, second.1), omega (arith, ints, first.1, second.1)))
fits_pop (f ∷ g ∷ h ∷ frames) within =
    fits_pop (g ∷ h ∷ frames) (All-tail (λ (k : Frame). IsWithin (2 ^ 62 - 1) k.sums.plain × IsWithin (2 ^ 62 - 1) k.sums.bare) f (g ∷ h ∷ frames) within)

-- calls ended, and one more
pub ended_more : (t n : ℕ) (a b c : Live) (done more most : List Done) (was : Stamped) → value_of a.threads t ≡ Some was →
    IsEnded t n a b done more → IsEnded t 1 b c more most → IsEnded t (n + 1) a c done most
ended_more t n a b c done more most was here first one = by one.sums one.count one.frames one.recorded
  where
    by : (sums : List Sums) → length sums ≡ 1 → ArePopped (frames_of b.threads t) sums (frames_of c.threads t) →
        most ≡ more ++ records t (calls_of b.threads t).counts sums (calls_of b.threads t).list → IsEnded t (n + 1) a c done most
    by [] none popped recorded = absurd (omega (arith, none))
    by (s ∷ r ∷ sums) many popped recorded = absurd (omega (arith, many))
    by (s ∷ []) count popped recorded =
        let last = subst (λ (xs : List Frame). IsPopped (frames_of b.threads t) (Some s) xs) (sym popped.2) popped.1 in
        let middle = stamped b.threads t (frames_of b.threads t) (pages_of a.threads t) in
        let there : value_of b.threads t ≡ Some middle =
        ap (λ (xs : List (ℕ × Stamped)). value_of xs t) first.threads ∙ stamped_value a.threads t was middle here in
        let begun = calls_of a.threads t in
        let ds = records t begun.counts first.sums begun.list in
        record {
          sums = first.sums ++ s ∷ [];
          count = omega (arith, length_push first.sums s, first.count);
          frames = popped_more (frames_of a.threads t) (frames_of b.threads t) (frames_of c.threads t) first.sums s first.frames last;
          threads =
              one.threads
              ∙ (λ i. with_value (first.threads i) t (stamped c.threads t (frames_of c.threads t) (its_pages b.threads t middle there i)))
              ∙ last_change_counts a.threads t middle (stamped c.threads t (frames_of c.threads t) (pages_of a.threads t));
          list = one.list ∙ ap (λ (os : List CountedCall). drop 1 os) first.list ∙ drop-drop 1 n begun.list;
          counts = one.counts ∙ first.counts;
          recorded =
              recorded
              ∙ (λ i. first.recorded i ++ records t (first.counts i) (s ∷ []) (first.list i))
              ∙ append_assoc done ds (records t begun.counts (s ∷ []) (drop n begun.list))
              ∙ ap (λ (ds : List Done). done ++ ds)
              (ap (λ k. ds ++ records t begun.counts (s ∷ []) (drop k begun.list)) (sym first.count) ∙ sym (records_split t begun.counts first.sums (s ∷ []) begun.list));
        }

pub one_ended : (t : ℕ) (a b : Live) (done more : List Done) (s : Sums) (call : CountedCall) → IsPopped (frames_of a.threads t) (Some s) (frames_of b.threads t) →
    b.threads ≡ with_value a.threads t (stamped b.threads t (frames_of b.threads t) (pages_of a.threads t)) →
    (calls_of a.threads t).list ≡ call ∷ (calls_of b.threads t).list → (calls_of b.threads t).counts ≡ (calls_of a.threads t).counts →
    more ≡ done ++ record_of t (calls_of a.threads t).counts s call ∷ [] → IsEnded t 1 a b done more
one_ended t a b done more s call popped threads same counted recorded =
    record {
      sums = s ∷ [];
      count = refl;
      frames = (frames_of b.threads t, popped, refl);
      threads = threads;
      list = sym (ap (λ (os : List CountedCall). drop 1 os) same);
      counts = counted;
      recorded = recorded ∙ ap (λ (os : List CountedCall). done ++ records t (calls_of a.threads t).counts (s ∷ []) os) (sym same);
    }

pub none_ended : (t : ℕ) (a : Live) (done : List Done) → is_some (value_of a.threads t) ≡ true → IsEnded t 0 a a done done
none_ended t a done lives = record {
  sums = [];
  count = refl;
  frames = refl;
  threads = unchanged a.threads t lives;
  list = refl;
  counts = refl;
  recorded = sym (append-nil done);
}

-- ---- What one more end asks, after so many.
module _ (t n m : ℕ) (a b : Live) (done more : List Done) (lives : is_some (value_of a.threads t) ≡ true) (ended : IsEnded t n a b done more) where
  pub frames_left : m ≤ length (frames_of a.threads t) → n < m → 1 ≤ length (frames_of b.threads t)
  frames_left most few = omega (arith, popped_length (frames_of a.threads t) (frames_of b.threads t) ended.sums ended.frames, ended.count, most, few)

  pub calls_left : m ≤ length (calls_of a.threads t).list → n < m → 1 ≤ length (calls_of b.threads t).list
  calls_left most few = omega (arith, ap (λ (os : List CountedCall). length os) ended.list, length-drop n (calls_of a.threads t).list, most, few)

  pub sums_left : ((k : ℕ) → AreWithin (2 ^ 62 - 1) (frames_after_pops k (reverse (frames_of a.threads t)))) → AreWithin (2 ^ 62 - 1) (frames_of b.threads t)
  sums_left all =
      let fs = frames_of b.threads t in
      let order = pops_in_order (frames_of a.threads t) fs ended.sums ended.frames in
      let turned : AreWithin (2 ^ 62 - 1) (reverse fs) = subst (λ (gs : List Frame). AreWithin (2 ^ 62 - 1) gs) order.1 (all (length ended.sums)) in
      subst (λ (gs : List Frame). AreWithin (2 ^ 62 - 1) gs) (reverse-reverse fs)
      (All-reverse (λ (k : Frame). IsWithin (2 ^ 62 - 1) k.sums.plain × IsWithin (2 ^ 62 - 1) k.sums.bare) (reverse fs) turned)

pub lives_on : (t n : ℕ) (a b : Live) (done more : List Done) → is_some (value_of a.threads t) ≡ true → IsEnded t n a b done more →
    is_some (value_of b.threads t) ≡ true
lives_on t n a b done more lives ended = by (value_of a.threads t) refl lives
  where
    by : (o : Option Stamped) → value_of a.threads t ≡ o → is_some o ≡ true → is_some (value_of b.threads t) ≡ true
    by None none some = absurd (cc)
    by (Some was) here some =
        ap is_some (ap (λ (xs : List (ℕ × Stamped)). value_of xs t) ended.threads ∙ stamped_value a.threads t was (stamped b.threads t (frames_of b.threads t) (pages_of a.threads t)) here)

pub ended_on : (t n : ℕ) (a b c : Live) (done more most : List Done) → is_some (value_of a.threads t) ≡ true →
    IsEnded t n a b done more → IsEnded t 1 b c more most → IsEnded t (n + 1) a c done most
ended_on t n a b c done more most lives first one = by (value_of a.threads t) refl lives
  where
    by : (o : Option Stamped) → value_of a.threads t ≡ o → is_some o ≡ true → IsEnded t (n + 1) a c done most
    by None none some = absurd (cc)
    by (Some was) here some = ended_more t n a b c done more most was here first one

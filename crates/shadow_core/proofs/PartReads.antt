-- A read of words of one page, at once or one by one.
use Rattle.std.proofs.Common.{◌≡◌, ◌≢◌, ℕ, zero, suc, ◌+◌, ◌<◌, ◌≤◌, ◌^◌, Bool, true, false, cond, ◌&&◌, List, [], ◌∷◌, ◌++◌, length, map, reverse, count_by, refl, sym, ap, subst, ◌∙◌, arith, pos}
use Rattle.std.specs.Prelude.{All, IfSome, ◌==◌, is_some, slice_get, slice_index}
use Rattle.std.specs.List.{range_with_len}
use Rattle.std.proofs.lemmas.Bool.{eq-eqb}
use Rattle.std.proofs.lemmas.Bool.Decides.{nat_tests}
use Rattle.std.proofs.lemmas.Int.{ints}
use Rattle.std.proofs.lemmas.List.FromFn.{length-map-range_with_len}
use Rattle.std.proofs.lemmas.List.Sums.{count_by-le-length}
use Rattle.std.proofs.lemmas.List.{get_or_default, map-id, reverse-append}
use Rattle.std.proofs.lemmas.List.Elements.{All-head, All-tail}
use Rattle.guest_words.specs.ByThread.{value_of}
use Rattle.stamp_lanes.specs.declared.bulk.Bulk.{Bulk}
use Rattle.stamp_lanes.specs.Plain.{IsBulk, Place, places}
use Rattle.shadow_stack.specs.declared.sums.Sums.{Sums}
use Rattle.shadow_stack.specs.Frames.{Frame, FitsSums, IsRising, added, plus, starts_of}
use Rattle.shadow_pages.specs.Pages.{Page, covers, in_range, stamp_at}
use Rattle.stamp_renumber.specs.LentThread.{with_pages}
use Rattle.stamp_renumber.specs.Threads.{Live, frames_of, pages_of}
use Rattle.stamp_table.specs.Allows.{AreWithin, IsWithin}
use Rattle.shadow_core.specs.Private.Reading.{IsChanged, IsRead, places_at}
use Rattle.stamp_table.specs.Stands.{IsFalling}
use Rattle.stamp_table.proofs.Kept.{falling-weaker}
use Rattle.shadow_core.proofs.StateThreads.{differ}
use Rattle.shadow_core.proofs.StateWords.{reads_all_words}
use Rattle.shadow_core.proofs.Reading.{All-reverse, changed_own, changed_twice, frames_changed, lent_changed, lives_changed, pages_changed, places_on, read_on, starts_reverse}
use Rattle.shadow_core.proofs.Reversed.{counts_go_on}

-- ---- sums that grow by more than one
abbrev SumsWithin : ℕ → Frame → Type 0
SumsWithin most f = IsWithin most f.sums.plain × IsWithin most f.sums.bare

more_fits : (most more : ℕ) (s by : Sums) → most + more < 2 ^ 63 → IsWithin most s.plain × IsWithin most s.bare → IsWithin more by.plain × IsWithin more by.bare → FitsSums (plus s by)
more_fits most more s by room within small = (
  (omega (arith, ints, room, within.0, small.0), omega (arith, ints, room, within.0, small.0)),
  (omega (arith, ints, room, within.1, small.1), omega (arith, ints, room, within.1, small.1)),
)

pub some_fits : (most more i : ℕ) (by : Sums) (fs : List Frame) → most + more < 2 ^ 63 → AreWithin most fs → IsWithin more by.plain × IsWithin more by.bare → IfSome (slice_get fs i) (λ f. FitsSums (plus f.sums by))
some_fits most more i by [] room within small = tt
some_fits most more zero by (f ∷ fs) room within small = more_fits most more f.sums by room (All-head (SumsWithin most) f fs within) small
some_fits most more (suc i) by (f ∷ fs) room within small = some_fits most more i by fs room (All-tail (SumsWithin most) f fs within) small

pub number_within : (n more : ℕ) → n ≤ more → IsWithin more (pos n)
number_within n more le = (omega (arith, ints), omega (arith, ints, le))

-- ---- starts that rise, from the innermost outwards
falls_append : (limit s : ℕ) (ss : List ℕ) → IsFalling limit ss → All (λ r. s < r) ss → 0 < s → s < limit → IsFalling limit (ss ++ s ∷ [])
falls_append limit s [] falling above some low = (some, low, tt)
falls_append limit s (r ∷ ss) falling above some low =
    (falling.0, falling.1, falls_append r s ss falling.2 (All-tail (λ r. s < r) r ss above) some (All-head (λ r. s < r) r ss above))

falls : (ss : List ℕ) → IsRising ss → All (λ s. 0 < s) ss → (limit : ℕ) × IsFalling limit (reverse ss)
falls [] rising some = (0, tt)
falls (s ∷ ss) rising some =
    let rest = falls ss (λ i j lt in'. rising (suc i) (suc j) (omega (arith, lt)) (omega (arith, in'))) (All-tail (λ s. 0 < s) s ss some) in
    let above : All (λ r. s < r) ss = λ k d lt. subst (λ (r : ℕ). s < r) (sym (get_or_default ss k d 0 lt)) (rising 0 (suc k) (omega arith) (omega (arith, lt))) in
    let limit = rest.0 + s + 1 in (
      limit,
      subst (IsFalling limit) (sym (reverse-append (s ∷ []) ss))
          (falls_append limit s (reverse ss) (falling-weaker rest.0 limit (reverse ss) (omega arith) rest.1) (All-reverse (λ r. s < r) ss above) (All-head (λ s. 0 < s) s ss some) (omega arith)),
    )

-- ---- the places
columns : (own write marks : ℕ → ℕ) (words : List ℕ) → places (map own words) (map write words) (map marks words) ≡ places_at own write marks words
columns own write marks [] = refl
columns own write marks (l ∷ words) = ap (λ (ps : List Place). record { own = own l; write = write l; mark = marks l } ∷ ps) (columns own write marks words)

pub places_are : (pages was : List Page) (write marks : ℕ → ℕ) (first n m : ℕ) (ws ms : List ℕ) → pages ≡ was → m ≡ n → ws ≡ map write (range_with_len first n) → map (λ x. x) ms ≡ map marks (range_with_len first n) →
    places (map (stamp_at pages) (range_with_len first m)) ws ms ≡ places_at (stamp_at was) write marks (range_with_len first n)
places_are pages was write marks first n m ws ms same size written marked =
    let mark : ms ≡ map marks (range_with_len first n) = sym (map-id ms) ∙ marked in
    (λ i. places (map (stamp_at (same i)) (range_with_len first (size i))) (written i) (mark i)) ∙ columns (stamp_at was) write marks (range_with_len first n)

-- ---- the thread
module _ (old : Live) (t : ℕ) (pages : List Page) (write marks : ℕ → ℕ) (first n stamp : ℕ) (bulk : Bulk) (lives : is_some (value_of old.threads t) ≡ true)
    (stamps : (w : ℕ) → stamp_at pages w ≡ cond ((bulk.old == 0) && in_range first n w) stamp (stamp_at (pages_of old.threads t) w)) (covered : (w : ℕ) → covers pages w ≡ covers (pages_of old.threads t) w) where
  abbrev mid : Live
  mid = with_pages old t pages

  abbrev lent : IsChanged old mid t (frames_of old.threads t) pages
  lent = lent_changed old t pages lives

  pub lives_lent : is_some (value_of mid.threads t) ≡ true
  lives_lent = lives_changed old mid t (frames_of old.threads t) pages lives lent

  pub frames_lent : frames_of mid.threads t ≡ frames_of old.threads t
  frames_lent = frames_changed old mid t (frames_of old.threads t) pages lives lent

  pub pages_lent : pages_of mid.threads t ≡ pages
  pages_lent = pages_changed old mid t (frames_of old.threads t) pages lives lent

  -- one by one
  pub read_singly : (new : Live) → bulk.old ≢ 0 → IsRead mid new t write marks first n stamp → IsRead old new t write marks first n stamp
  read_singly new some later =
      let none : IsRead old mid t write marks first 0 stamp = record {
        changed = changed_own old mid t (frames_of old.threads t) pages lives lent;
        frames = ap (reverse {A = Frame}) frames_lent;
        stamps = λ w. ap (λ ps. stamp_at ps w) pages_lent ∙ stamps w ∙ ap (λ b. cond (b && in_range first n w) stamp (stamp_at (pages_of old.threads t) w)) (differ bulk.old 0 some) ∙ sym (ap (λ b. cond b stamp (stamp_at (pages_of old.threads t) w)) (in_none first w));
        covered = λ w. ap (λ ps. covers ps w) pages_lent ∙ covered w;
      } in
      subst (λ (k : ℕ). IsRead old new t write marks first k stamp) (omega arith) (read_on old mid t write marks first 0 stamp lives none new first n (omega arith) later)
    where
      in_none : (first w : ℕ) → in_range first 0 w ≡ false
      in_none first w = grind (arith, nat_tests)

  -- all at once
  pub read_at_once : (new : Live) (top start : ℕ) (by : Sums) (list : List Frame) → bulk.old ≡ 0 → by ≡ record { plain = pos bulk.plain; bare = pos bulk.untouched } →
      IsChanged mid new t (added top by (frames_of mid.threads t)) (pages_of mid.threads t) → IsBulk start (places_at (stamp_at (pages_of old.threads t)) write marks (range_with_len first n)) bulk →
      list ≡ frames_of old.threads t → start ≡ slice_index (starts_of list) top → IsRising (starts_of list) → All (λ s. 0 < s) (starts_of (frames_of old.threads t)) → length (frames_of old.threads t) ≡ top + 1 →
      IsRead old new t write marks first n stamp
  read_at_once new top start by list none counted second counts is begins rising some long =
      let was = stamp_at (pages_of old.threads t) in
      let fs = frames_of old.threads t in
      let ps = places_at was write marks (range_with_len first n) in
      let both = changed_twice old mid t fs pages lives lent new (added top by (frames_of mid.threads t)) (pages_of mid.threads t) second in
      let same = pages_changed mid new t (added top by (frames_of mid.threads t)) (pages_of mid.threads t) lives_lent second ∙ pages_lent in
      let falling = falls (starts_of fs) (subst (λ (gs : List Frame). IsRising (starts_of gs)) is rising) some in
      let innermost : start ≡ slice_index (starts_of fs) top = begins ∙ ap (λ (gs : List Frame). slice_index (starts_of gs) top) is in
      record {
        changed = changed_own old new t (added top by (frames_of mid.threads t)) (pages_of mid.threads t) lives both;
        frames =
            ap (reverse {A = Frame}) (frames_changed mid new t (added top by (frames_of mid.threads t)) (pages_of mid.threads t) lives_lent second ∙ ap (added top by) frames_lent ∙ ap (λ s. added top s fs) counted)
            ∙ reads_all_words ps bulk falling.0 top fs long (subst (IsFalling falling.0) (sym (starts_reverse fs)) falling.1) (subst (λ s. IsBulk s ps bulk) innermost counts) none;
        stamps = λ w. ap (λ qs. stamp_at qs w) same ∙ stamps w ∙ ap (λ b. cond (b && in_range first n w) stamp (was w)) (eq-eqb bulk.old 0 none);
        covered = λ w. ap (λ qs. covers qs w) same ∙ covered w;
      }

-- the stamps after the lent pages were written
pub stamps_from : (pages was now : List Page) (first m n stamp : ℕ) (b : Bool) → pages ≡ was → m ≡ n → ((w : ℕ) → stamp_at now w ≡ cond (b && in_range first m w) stamp (stamp_at pages w)) →
    (w : ℕ) → stamp_at now w ≡ cond (b && in_range first n w) stamp (stamp_at was w)
stamps_from pages was now first m n stamp b same size each w = each w ∙ (λ i. cond (b && in_range first (size i) w) stamp (stamp_at (same i) w))

-- ---- how many places
pub count_few : (test : Place → Bool) (own write marks : ℕ → ℕ) (first n : ℕ) → count_by test (places_at own write marks (range_with_len first n)) ≤ n
count_few test own write marks first n =
    let most = count_by-le-length test (places_at own write marks (range_with_len first n)) in
    let long : length (places_at own write marks (range_with_len first n)) ≡ n = length-map-range_with_len (λ (l : ℕ). record { own = own l; write = write l; mark = marks l }) first n in
    omega (arith, most, long)

pub counts_on : (test : Place → Bool) (old new : Live) (t : ℕ) (write marks : ℕ → ℕ) (first n stamp : ℕ) → is_some (value_of old.threads t) ≡ true → IsRead old new t write marks first n stamp → (at m a b : ℕ) → at ≡ first + n →
    a ≡ count_by test (places_at (stamp_at (pages_of old.threads t)) write marks (range_with_len first n)) → b ≡ count_by test (places_at (stamp_at (pages_of new.threads t)) write marks (range_with_len at m)) →
    a + b ≡ count_by test (places_at (stamp_at (pages_of old.threads t)) write marks (range_with_len first (n + m)))
counts_on test old new t write marks first n stamp lives one at m a b is front back =
    (λ i. front i + back i)
    ∙ sym (counts_go_on test (places_at (stamp_at (pages_of old.threads t)) write marks (range_with_len first n)) (places_at (stamp_at (pages_of new.threads t)) write marks (range_with_len at m)))
    ∙ ap (λ (ps : List Place). count_by test ps) (sym (places_on old new t write marks first n stamp lives one at m is))

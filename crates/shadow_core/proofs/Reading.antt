-- What reads of words make of frames and stamps, as the code makes them.
use Rattle.std.proofs.Common.{inl, inr, ◌≡◌, ℕ, zero, suc, ◌+◌, ◌<◌, ◌≤◌, ◌^◌, Bool, true, false, cond, leb, List, [], ◌∷◌, ◌++◌, length, reverse, Option, Some, None, refl, sym, ap, subst, ◌∙◌, arith, pos}
use Rattle.std.specs.Prelude.{All, IfSome, is_some, slice_get, slice_index}
use Rattle.std.specs.Prelude.{◌==◌}
use Rattle.std.specs.List.{range_with_len}
use Rattle.std.specs.Option.{option_map_or}
use Rattle.std.proofs.lemmas.Bool.{cases_eq, cases_lt, eq-eqb}
use Rattle.guest_words.proofs.ThreadTables.{value_of-with}
use Rattle.std.proofs.lemmas.Int.{ints}
use Rattle.std.proofs.lemmas.List.FromFn.{length-map-range_with_len}
use Rattle.std.proofs.lemmas.List.{length-map, map-append, reverse-append, reverse-reverse}
use Rattle.std.proofs.lemmas.Bool.Decides.{nat_tests}
use Rattle.std.proofs.lemmas.List.Elements.{All-nil, All-cons, All-append, All-head, All-tail}
use Rattle.guest_words.specs.ByThread.{value_of, with_value}
use Rattle.shadow_stack.specs.declared.sums.Sums.{Sums}
use Rattle.stamp_lanes.specs.Plain.{Place, is_foreign}
use Rattle.shadow_stack.specs.Frames.{Frame, FitsSums, IsMoved, added, plus, starts_of}
use Rattle.shadow_pages.specs.Pages.{Page, in_range, stamp_at}
use Rattle.stamp_renumber.specs.Threads.{Live, Stamped, calls_of, frames_of, own_of, pages_of, spare_of, stamped}
use Rattle.stamp_renumber.specs.WordRead.{IsWordRead}
use Rattle.call_tracker.specs.ThreadCalls.{no_counts}
use Rattle.stamp_renumber.specs.LentThread.{with_pages}
use Rattle.stamp_renumber.proofs.Changed.{unchanged}
use Rattle.stamp_table.specs.Frames.{added_to_top, negated, taken_at, gain, frames_after_read, frames_after_reads}
use Rattle.stamp_table.proofs.Frames.{same_sums, starts-reads}
use Rattle.shadow_core.proofs.StateThreads.{differ}
use Rattle.shadow_core.proofs.Reversed.{reads_where_found, reads_go_on}
use Rattle.stamp_table.specs.Allows.{AreWithin, IsWithin}
use Rattle.shadow_core.specs.Private.Reading.{AreSmall, IsChanged, IsRead, places_at}

-- ---- sums that are within some bound
abbrev SumsWithin : ℕ → Frame → Type 0
SumsWithin most f = IsWithin most f.sums.plain × IsWithin most f.sums.bare

sum_fits : (most : ℕ) (s : Sums) (by : Sums) → most + 1 < 2 ^ 63 → IsWithin most s.plain × IsWithin most s.bare → AreSmall by → FitsSums (plus s by)
sum_fits most s by room within small = (
  (omega (arith, ints, room, within.0, small.0), omega (arith, ints, room, within.0, small.0)),
  (omega (arith, ints, room, within.1, small.1), omega (arith, ints, room, within.1, small.1)),
)

pub one_fits : (most i : ℕ) (by : Sums) (fs : List Frame) → most + 1 < 2 ^ 63 → AreWithin most fs → AreSmall by → IfSome (slice_get fs i) (λ f. FitsSums (plus f.sums by))
one_fits most i by [] room within small = tt
one_fits most zero by (f ∷ fs) room within small = sum_fits most f.sums by room (All-head (SumsWithin most) f fs within) small
one_fits most (suc i) by (f ∷ fs) room within small = one_fits most i by fs room (All-tail (SumsWithin most) f fs within) small

-- ---- a change of the thread
pub not_changed : (live : Live) (t : ℕ) → is_some (value_of live.threads t) ≡ true → IsChanged live live t (frames_of live.threads t) (pages_of live.threads t)
not_changed live t lives = record { threads = unchanged live.threads t lives; calls = refl; kept = omega arith; marks = refl }

with_twice : (xs : List (ℕ × Stamped)) (t : ℕ) (a b : Stamped) → with_value (with_value xs t a) t b ≡ with_value xs t b
with_twice [] t a b = refl
with_twice (x ∷ xs) t a b = by (x.0 == t) refl (with_twice xs t a b)
  where
    by : (d : Bool) → (x.0 == t) ≡ d → with_value (with_value xs t a) t b ≡ with_value xs t b →
        with_value (cond d ((x.0, a) ∷ xs) (x ∷ with_value xs t a)) t b ≡ cond d ((x.0, b) ∷ xs) (x ∷ with_value xs t b)
    by true is later = ap (λ c. cond c ((x.0, b) ∷ xs) ((x.0, a) ∷ with_value xs t b)) is
    by false is later = ap (λ c. cond c ((x.0, b) ∷ with_value xs t a) (x ∷ with_value (with_value xs t a) t b)) is ∙ ap (λ (ys : List (ℕ × Stamped)). x ∷ ys) later

pub with_found : (xs : List (ℕ × Stamped)) (t : ℕ) (new : Stamped) → is_some (value_of xs t) ≡ true → value_of (with_value xs t new) t ≡ Some new
with_found xs t new lives = by (value_of xs t) refl lives
  where
    by : (o : Option Stamped) → value_of xs t ≡ o → is_some o ≡ true → value_of (with_value xs t new) t ≡ Some new
    by None here some = absurd (cc)
    by (Some s) here some = value_of-with xs t new s here t ∙ ap (λ b. cond b (Some new) (value_of xs t)) (eq-eqb t t refl)

module _ (old new : Live) (t : ℕ) (frames : List Frame) (pages : List Page) (lives : is_some (value_of old.threads t) ≡ true) (h : IsChanged old new t frames pages) where
  pub found_changed : value_of new.threads t ≡ Some (stamped new.threads t frames pages)
  found_changed = ap (λ xs. value_of xs t) h.threads ∙ with_found old.threads t (stamped new.threads t frames pages) lives

  pub lives_changed : is_some (value_of new.threads t) ≡ true
  lives_changed = ap (λ (o : Option Stamped). is_some o) found_changed

  pub frames_changed : frames_of new.threads t ≡ frames
  frames_changed = ap (λ (o : Option Stamped). option_map_or (λ (s : Stamped). s.frames) o []) found_changed

  pub pages_changed : pages_of new.threads t ≡ pages
  pages_changed = ap (λ (o : Option Stamped). option_map_or (λ (s : Stamped). s.pages) o []) found_changed

  -- a change after the other
  pub changed_twice : (last : Live) (frames' : List Frame) (pages' : List Page) → IsChanged new last t frames' pages' → IsChanged old last t frames' pages'
  changed_twice last frames' pages' next = record {
    threads = next.threads ∙ ap (λ xs. with_value xs t (stamped last.threads t frames' pages')) h.threads ∙ with_twice old.threads t (stamped new.threads t frames pages) (stamped last.threads t frames' pages');
    calls = next.calls ∙ h.calls;
    kept = omega (arith, h.kept, next.kept);
    marks = next.marks ∙ h.marks;
  }

  -- the same with the thread's own frames and pages
  pub changed_own : IsChanged old new t (frames_of new.threads t) (pages_of new.threads t)
  changed_own = record {
    threads = h.threads ∙ (λ i. with_value old.threads t (stamped new.threads t (sym frames_changed i) (sym pages_changed i)));
    calls = h.calls;
    kept = h.kept;
    marks = h.marks;
  }

-- ---- frames
-- what was taken and given back changes nothing
given_back : (k : ℕ) (by : Sums) (fs : List Frame) → added k by (added k (negated by) fs) ≡ fs
given_back k by [] = refl
given_back zero by (f ∷ fs) =
    let same : plus (plus f.sums (negated by)) by ≡ f.sums = same_sums _ _ (omega (arith, ints)) (omega (arith, ints)) in
    λ i. record f { sums = same i } ∷ fs
given_back (suc k) by (f ∷ fs) = ap (λ (gs : List Frame). f ∷ gs) (given_back k by fs)

-- a word that was accessed in the innermost activation
pub unmoved : (p : Place) (top : ℕ) (fs list : List Frame) → list ≡ fs → length fs ≡ top + 1 → slice_index (starts_of list) top ≤ p.own → reverse fs ≡ frames_after_read p (reverse fs)
unmoved p top fs list is long low =
    let size : length (starts_of fs) ≡ top + 1 = length-map fs (λ (f : Frame). f.start) ∙ long in
    let here : slice_index (starts_of fs) top ≤ p.own = subst (λ (gs : List Frame). slice_index (starts_of gs) top ≤ p.own) is low in
    sym (ap (reverse {A = Frame}) (given_back top (gain p) fs))
    ∙ reads_where_found p (Some top) top fs (omega (arith, size), here, λ i up lt. absurd (omega (arith, up, lt, size))) long

-- what a read of one word moves
frames_moved : (p : Place) (by back : Sums) (fs gs : List Frame) → by ≡ gain p → back ≡ negated by → IsMoved p.own by back fs gs → reverse gs ≡ frames_after_read p (reverse fs)
frames_moved p by back fs gs counted returned h =
    let long : length fs ≡ h.top + 1 = omega (arith, h.depth) in
    let given : back ≡ negated (gain p) = returned ∙ ap negated counted in
    elim (cases_lt p.own (slice_index (starts_of fs) h.top)) [
      | inl above ↦
          let m = h.moved above in
          ap (reverse {A = Frame}) (m.2 ∙ (λ i. added h.top (counted i) (option_map_or (λ k. added k (given i) fs) m.0 fs)))
          ∙ reads_where_found p m.0 h.top fs m.1 long
      | inr low ↦ ap (reverse {A = Frame}) (h.still low) ∙ unmoved p h.top fs fs refl long low
    ]

-- ---- stamps
pub in_one : (w v : ℕ) → in_range w 1 v ≡ (v == w)
in_one w v = grind (arith, nat_tests)

-- the thread's pages are lent and written
pub lent_changed : (live : Live) (t : ℕ) (pages : List Page) → is_some (value_of live.threads t) ≡ true → IsChanged live (with_pages live t pages) t (frames_of live.threads t) pages
lent_changed live t pages lives =
    let new : Stamped = record { frames = frames_of live.threads t; spare = spare_of live.threads t; pages = pages; calls = calls_of live.threads t } in
    let room : spare_of (with_value live.threads t new) t ≡ spare_of live.threads t = ap (λ (o : Option Stamped). option_map_or (λ (s : Stamped). s.spare) o 0) (with_found live.threads t new lives) in
    let calls : calls_of (with_value live.threads t new) t ≡ calls_of live.threads t =
    ap (λ (o : Option Stamped). option_map_or (λ (s : Stamped). s.calls) o (record { list = []; counts = no_counts })) (with_found live.threads t new lives) in record {
      threads = λ i. with_value live.threads t (record { frames = frames_of live.threads t; spare = sym room i; pages = pages; calls = sym calls i });
      calls = calls;
      kept = omega (arith, room);
      marks = refl;
    }

-- one word is read
module _ (old new : Live) (t : ℕ) (write marks : ℕ → ℕ) (w stamp : ℕ) (p : Place) (by back : Sums)
    (threads : new.threads ≡ with_value old.threads t (own_of new.threads t)) (room : new.marks ≡ old.marks)
    (read : IsWordRead w p.own by back stamp (own_of old.threads t) (own_of new.threads t))
    (counted : by ≡ gain p) (returned : back ≡ negated by) (own : p.own ≡ stamp_at (pages_of old.threads t) w) (written : p.write ≡ write w) where
  stamp_of : (v : ℕ) → stamp_at (pages_of new.threads t) v ≡ cond (v == w) stamp (stamp_at (pages_of old.threads t) v)
  stamp_of v = elim (cases_eq v w) [
    | inl is ↦ ap (λ m. stamp_at (pages_of new.threads t) m) is ∙ read.this ∙ sym (ap (λ b. cond b stamp (stamp_at (pages_of old.threads t) v)) (eq-eqb v w is))
    | inr differs ↦ read.others v differs ∙ sym (ap (λ b. cond b stamp (stamp_at (pages_of old.threads t) v)) (differ v w differs))
  ]

  pub word_read : IsRead old new t write marks w 1 stamp
  word_read = record {
    changed = record { threads = threads; calls = read.calls; kept = read.kept; marks = room };
    frames =
        frames_moved p by back (frames_of old.threads t) (frames_of new.threads t) counted returned read.frames
        ∙ (λ i. frames_after_read (record { own = own i; write = written i; mark = p.mark }) (reverse (frames_of old.threads t)));
    stamps = λ v. stamp_of v ∙ sym (ap (λ b. cond b stamp (stamp_at (pages_of old.threads t) v)) (in_one w v));
    covered = read.covered;
  }

-- ---- reads, one after the other
pub nothing_read : (live : Live) (t : ℕ) (write marks : ℕ → ℕ) (first stamp : ℕ) → is_some (value_of live.threads t) ≡ true → IsRead live live t write marks first 0 stamp
nothing_read live t write marks first stamp lives = record {
  changed = not_changed live t lives;
  frames = refl;
  stamps = λ w. sym (ap (λ b. cond b stamp (stamp_at (pages_of live.threads t) w)) (in_none first w));
  covered = λ w. refl;
}
  where
    in_none : (first w : ℕ) → in_range first 0 w ≡ false
    in_none first w = grind (arith, nat_tests)

pub range_append : (first n m at : ℕ) → at ≡ first + n → range_with_len first (n + m) ≡ range_with_len first n ++ range_with_len at m
range_append first zero m at is =
    let none : 0 + m ≡ m = omega arith in
    let same : first ≡ at = omega (arith, is) in
    ap (λ k. range_with_len first k) none ∙ ap (λ a. range_with_len a m) same
range_append first (suc n) m at is =
    let size : suc n + m ≡ suc (n + m) = omega arith in
    ap (λ k. range_with_len first k) size ∙ ap (λ (ls : List ℕ). first ∷ ls) (range_append (first + 1) n m at (omega (arith, is)))

-- stamps that are the same from some word on give the same places
places_same : (own own' write marks : ℕ → ℕ) (at m : ℕ) → ((w : ℕ) → at ≤ w → own w ≡ own' w) → places_at own write marks (range_with_len at m) ≡ places_at own' write marks (range_with_len at m)
places_same own own' write marks at zero same = refl
places_same own own' write marks at (suc m) same =
    let here = same at (omega arith) in
    let rest = places_same own own' write marks (at + 1) m (λ w le. same w (omega (arith, le))) in
    λ i. record { own = here i; write = write at; mark = marks at } ∷ rest i

in_both : (first n m at w a b : ℕ) → at ≡ first + n → cond (in_range at m w) a (cond (in_range first n w) a b) ≡ cond (in_range first (n + m) w) a b
in_both first n m at w a b is = grind (arith, nat_tests)

pub not_before : (first n w : ℕ) → first + n ≤ w → in_range first n w ≡ false
not_before first n w high = grind (arith, nat_tests)

-- ---- how great the sums are after reads
small_gain : (p : Place) → AreSmall (gain p)
small_gain p = by (is_foreign p)
  where
    by : (b : Bool) → AreSmall (record { plain = cond b (pos 0) (pos 1); bare = pos 1 })
    by true = ((omega (arith, ints), omega (arith, ints)), (omega (arith, ints), omega (arith, ints)))
    by false = ((omega (arith, ints), omega (arith, ints)), (omega (arith, ints), omega (arith, ints)))

pub All-reverse : {X : Type 0} (P : X → Type 0) (xs : List X) → All P xs → All P (reverse xs)
All-reverse P [] all = All-nil P
All-reverse P (x ∷ xs) all =
    subst (All P) (sym (reverse-append (x ∷ []) xs))
    (All-append P (reverse xs) (x ∷ []) (All-reverse P xs (All-tail P x xs all)) (All-cons P x [] (All-head P x xs all) (All-nil P)))

wider : (most : ℕ) (fs : List Frame) → AreWithin most fs → AreWithin (most + 1) fs
wider most fs within = λ k d lt. let h = within k d lt in ((omega (arith, ints, h.0), omega (arith, ints, h.0)), (omega (arith, ints, h.1), omega (arith, ints, h.1)))

taken_at_within : (most : ℕ) (by : Sums) (s : ℕ) (fs : List Frame) → AreSmall by → AreWithin most fs → AreWithin (most + 1) (taken_at by s fs)
taken_at_within most by s [] small within = All-nil (SumsWithin (most + 1))
taken_at_within most by s (f ∷ fs) small within = at (leb f.start s) (All-head (SumsWithin most) f fs within) (All-tail (SumsWithin most) f fs within) (taken_at_within most by s fs small (All-tail (SumsWithin most) f fs within))
  where
    at : (b : Bool) → SumsWithin most f → AreWithin most fs → AreWithin (most + 1) (taken_at by s fs) → AreWithin (most + 1) (cond b (record f { sums = plus f.sums (negated by) } ∷ fs) (f ∷ taken_at by s fs))
    at true here rest later = All-cons (SumsWithin (most + 1)) (record f { sums = plus f.sums (negated by) }) fs
        ((omega (arith, ints, here.0, small.0), omega (arith, ints, here.0, small.0)), (omega (arith, ints, here.1, small.1), omega (arith, ints, here.1, small.1))) (wider most fs rest)
    at false here rest later = All-cons (SumsWithin (most + 1)) f (taken_at by s fs)
        ((omega (arith, ints, here.0), omega (arith, ints, here.0)), (omega (arith, ints, here.1), omega (arith, ints, here.1))) later

read_one_within : (most : ℕ) (p : Place) (fs : List Frame) → AreWithin most fs → AreWithin (most + 1) (frames_after_read p fs)
read_one_within most p [] within = All-nil (SumsWithin (most + 1))
read_one_within most p (f ∷ fs) within = at (leb f.start p.own) (All-head (SumsWithin most) f fs within) (All-tail (SumsWithin most) f fs within) (small_gain p)
  where
    at : (b : Bool) → SumsWithin most f → AreWithin most fs → AreSmall (gain p) → AreWithin (most + 1) (added_to_top (gain p) (cond b (record f { sums = plus f.sums (negated (gain p)) } ∷ fs) (f ∷ taken_at (gain p) p.own fs)))
    at true here rest s = All-cons (SumsWithin (most + 1)) (record f { sums = plus (plus f.sums (negated (gain p))) (gain p) }) fs
        ((omega (arith, ints, here.0), omega (arith, ints, here.0)), (omega (arith, ints, here.1), omega (arith, ints, here.1))) (wider most fs rest)
    at false here rest s = All-cons (SumsWithin (most + 1)) (record f { sums = plus f.sums (gain p) }) (taken_at (gain p) p.own fs)
        ((omega (arith, ints, here.0, s.0), omega (arith, ints, here.0, s.0)), (omega (arith, ints, here.1, s.1), omega (arith, ints, here.1, s.1))) (taken_at_within most (gain p) p.own fs s rest)

reads_within : (most : ℕ) (ps : List Place) (fs : List Frame) → AreWithin most fs → AreWithin (most + length ps) (frames_after_reads ps fs)
reads_within most [] fs within = subst (λ (k : ℕ). AreWithin k fs) (omega arith) within
reads_within most (p ∷ ps) fs within =
    subst (λ (k : ℕ). AreWithin k (frames_after_reads (p ∷ ps) fs)) (omega arith) (reads_within (most + 1) ps (frames_after_read p fs) (read_one_within most p fs within))

-- ---- starts
pub starts_reverse : (fs : List Frame) → starts_of (reverse fs) ≡ reverse (starts_of fs)
starts_reverse [] = refl
starts_reverse (f ∷ fs) =
    ap starts_of (reverse-append (f ∷ []) fs)
    ∙ map-append (λ (f : Frame). f.start) (reverse fs) (f ∷ [])
    ∙ ap (λ (ss : List ℕ). ss ++ f.start ∷ []) (starts_reverse fs)
    ∙ sym (reverse-append (f.start ∷ []) (starts_of fs))

starts_back : (fs gs : List Frame) → starts_of (reverse fs) ≡ starts_of (reverse gs) → starts_of fs ≡ starts_of gs
starts_back fs gs same =
    sym (reverse-reverse (starts_of fs))
    ∙ ap (reverse {A = ℕ}) (sym (starts_reverse fs) ∙ same ∙ starts_reverse gs)
    ∙ reverse-reverse (starts_of gs)

module _ (old new : Live) (t : ℕ) (write marks : ℕ → ℕ) (first n stamp : ℕ) (lives : is_some (value_of old.threads t) ≡ true) (one : IsRead old new t write marks first n stamp) where
  pub lives_read : is_some (value_of new.threads t) ≡ true
  lives_read = lives_changed old new t (frames_of new.threads t) (pages_of new.threads t) lives one.changed

  pub starts_read : starts_of (frames_of new.threads t) ≡ starts_of (frames_of old.threads t)
  starts_read =
      let same = ap starts_of one.frames ∙ starts-reads (places_at (stamp_at (pages_of old.threads t)) write marks (range_with_len first n)) (reverse (frames_of old.threads t)) in
      starts_back (frames_of new.threads t) (frames_of old.threads t) same

  pub length_read : length (frames_of new.threads t) ≡ length (frames_of old.threads t)
  length_read =
      sym (length-map (frames_of new.threads t) (λ (f : Frame). f.start)) ∙ ap (λ (ss : List ℕ). length ss) starts_read ∙ length-map (frames_of old.threads t) (λ (f : Frame). f.start)

  pub places_on : (at m : ℕ) → at ≡ first + n →
      places_at (stamp_at (pages_of old.threads t)) write marks (range_with_len first (n + m))
      ≡ places_at (stamp_at (pages_of old.threads t)) write marks (range_with_len first n) ++ places_at (stamp_at (pages_of new.threads t)) write marks (range_with_len at m)
  places_on at m is =
      let was = stamp_at (pages_of old.threads t) in
      let mid = stamp_at (pages_of new.threads t) in
      let front = places_at was write marks (range_with_len first n) in
      let same : (w : ℕ) → at ≤ w → was w ≡ mid w = λ w le. sym (one.stamps w ∙ ap (λ b. cond b stamp (was w)) (not_before first n w (omega (arith, le, is)))) in
      ap (places_at was write marks) (range_append first n m at is)
      ∙ map-append (λ (l : ℕ). record { own = was l; write = write l; mark = marks l }) (range_with_len first n) (range_with_len at m)
      ∙ ap (λ (ps : List Place). front ++ ps) (places_same was mid write marks at m same)

  pub read_on : (last : Live) (at m : ℕ) → at ≡ first + n → IsRead new last t write marks at m stamp → IsRead old last t write marks first (n + m) stamp
  read_on last at m is two =
      let was = stamp_at (pages_of old.threads t) in
      let front = places_at was write marks (range_with_len first n) in
      let back = places_at (stamp_at (pages_of new.threads t)) write marks (range_with_len at m) in
      record {
        changed = changed_twice old new t (frames_of new.threads t) (pages_of new.threads t) lives one.changed last (frames_of last.threads t) (pages_of last.threads t) two.changed;
        frames =
            two.frames
            ∙ ap (frames_after_reads back) one.frames
            ∙ sym (reads_go_on front back (reverse (frames_of old.threads t)))
            ∙ ap (λ (ps : List Place). frames_after_reads ps (reverse (frames_of old.threads t))) (sym (places_on at m is));
        stamps = λ w. two.stamps w ∙ ap (λ s. cond (in_range at m w) stamp s) (one.stamps w) ∙ in_both first n m at w stamp (was w) is;
        covered = λ w. two.covered w ∙ one.covered w;
      }

  pub read_within : (most : ℕ) → AreWithin most (frames_of old.threads t) → AreWithin (most + n) (frames_of new.threads t)
  read_within most within =
      let places = places_at (stamp_at (pages_of old.threads t)) write marks (range_with_len first n) in
      let size : length places ≡ n = length-map-range_with_len (λ (l : ℕ). record { own = stamp_at (pages_of old.threads t) l; write = write l; mark = marks l }) first n in
      let after = reads_within most places (reverse (frames_of old.threads t)) (All-reverse (SumsWithin most) (frames_of old.threads t) within) in
      let turned = subst (λ (k : ℕ). AreWithin (most + k) (frames_after_reads places (reverse (frames_of old.threads t)))) size after in
      let back = All-reverse (SumsWithin (most + n)) (reverse (frames_of new.threads t)) (subst (λ (fs : List Frame). AreWithin (most + n) fs) (sym one.frames) turned) in
      subst (λ (fs : List Frame). AreWithin (most + n) fs) (reverse-reverse (frames_of new.threads t)) back

pub within_more : (most more : ℕ) (fs : List Frame) → most ≤ more → AreWithin most fs → AreWithin more fs
within_more most more fs le within = λ k d lt. let h = within k d lt in ((omega (arith, ints, h.0, le), omega (arith, ints, h.0, le)), (omega (arith, ints, h.1, le), omega (arith, ints, h.1, le)))

-- A read of words as the code makes it: what becomes of the frames and the stamps of the thread that reads.
use Rattle.std.specs.Prelude.{◌≡◌, ℕ, ◌+◌, ◌*◌, ◌≤◌, if◌then◌else◌, List, map, reverse}
use Rattle.std.specs.List.{range_with_len}
use Rattle.guest_words.specs.ByThread.{with_value}
use Rattle.stamp_lanes.specs.Plain.{Place}
use Rattle.shadow_stack.specs.declared.sums.Sums.{Sums}
use Rattle.shadow_stack.specs.Frames.{Frame}
use Rattle.shadow_pages.specs.Pages.{Page, covers, in_range, stamp_at}
use Rattle.stamp_renumber.specs.Threads.{Live, calls_of, frames_of, pages_of, spare_of, stamped}
use Rattle.stamp_table.specs.Frames.{frames_after_reads}
use Rattle.stamp_table.specs.Allows.{IsWithin}
use Rattle.shadow_core.specs.Costs.{HasDigits, old_words}

-- each of the two is 1, 0 or minus 1
abbrev pub AreSmall : Sums → Type 0
AreSmall by = IsWithin 1 by.plain × IsWithin 1 by.bare

-- The thread has these frames and pages, and the calls that it had. No other thread changes, and no room is lost.
pub record IsChanged (old new : Live) (t : ℕ) (frames : List Frame) (pages : List Page) : Type 0 where
  pub threads : new.threads ≡ with_value old.threads t (stamped new.threads t frames pages)
  pub calls : calls_of new.threads t ≡ calls_of old.threads t
  pub kept : spare_of old.threads t ≤ spare_of new.threads t
  pub marks : new.marks ≡ old.marks

-- words with the stamps and the marks that they have
abbrev pub places_at : (ℕ → ℕ) → (ℕ → ℕ) → (ℕ → ℕ) → List ℕ → List Place
places_at own write marks words = map (λ l. record { own = own l; write = write l; mark = marks l }) words

-- The thread read a range of words: its frames are those after the reads in order, and each of the words has the stamp.
pub record IsRead (old new : Live) (t : ℕ) (write marks : ℕ → ℕ) (first count stamp : ℕ) : Type 0 where
  pub changed : IsChanged old new t (frames_of new.threads t) (pages_of new.threads t)
  pub frames : reverse (frames_of new.threads t)
      ≡ frames_after_reads (places_at (stamp_at (pages_of old.threads t)) write marks (range_with_len first count)) (reverse (frames_of old.threads t))
  pub stamps : (w : ℕ) → stamp_at (pages_of new.threads t) w ≡ (if in_range first count w then stamp else stamp_at (pages_of old.threads t) w)
  pub covered : (w : ℕ) → covers (pages_of new.threads t) w ≡ covers (pages_of old.threads t) w

-- A read of the range counts at most `most` steps, and `digits` for each old word, where the depth has so many digits.
abbrev pub IsReadWithin : ℕ → Live → ℕ → ℕ → ℕ → ℕ → ℕ → Type 0
IsReadWithin most old t first count before after =
    (digits : ℕ) → HasDigits digits old t → after ≤ before + most + old_words old t first count * digits

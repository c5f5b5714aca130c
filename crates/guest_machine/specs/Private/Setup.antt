-- What the parts of the setup hand to one another.
use Rattle.std.specs.Prelude.{◌≡◌, ℕ, ◌<◌, nat_lt, nat_le, if◌then◌else◌, List, length, slice_index_or, Option, Some, None}
use Rattle.guest_words.specs.declared.rights.Rights.{Rights}
use Rattle.guest_memory.specs.Memory.{Memory}
use Rattle.elf_image.specs.Image.{Segment}
use Rattle.guest_machine.specs.declared.image_pages.TheConstants.{IMAGE_PAGES}
use Rattle.guest_machine.specs.Start.{segment_rights, strings, strings_limit}

-- a table has the rights of each page below `IMAGE_PAGES`, by the segments
pub record AreRights (segments : List Segment) (table : List (Option Rights)) : Type 0 where
  pub whole : length table ≡ IMAGE_PAGES
  pub each : (page : ℕ) → page < IMAGE_PAGES → slice_index_or table page None ≡ segment_rights segments page

-- the first pages of a table are mapped, and hold zeros
abbrev pub mapped_below : List (Option Rights) → ℕ → Memory
mapped_below table count = record { rights = λ q. if nat_lt q count then slice_index_or table q None else None; byte = λ _. 0 }

-- the pages of segments, which hold zeros
abbrev pub pages_of : List Segment → Memory
pages_of segments = record { rights = segment_rights segments; byte = λ _. 0 }

-- how many bytes the argument strings have with their zero bytes, where they are no more than the limit
abbrev pub limited_length : List (List ℕ) → Option ℕ
limited_length arguments = let n = length (strings arguments) in if nat_le n strings_limit then Some n else None

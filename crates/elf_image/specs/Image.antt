-- What is known of an executable that can be run: its segments in memory, where it begins, and the names of its routines.
use Rattle.std.specs.Prelude.{◌≡◌, ℕ, ◌+◌, ◌-◌, ◌/◌, ◌%◌, ◌^◌, ◌<◌, ◌≤◌, Bool, true, false, ◌&&◌, ◌==◌, nat_le, nat_lt, List, length, Option, option_map, All, AllPairs}
use Rattle.std.specs.List.{count_by, find, list_any, range_with_len}
use Rattle.guest_words.specs.declared.limits.TheConstants.{PAGES}
use Rattle.guest_words.specs.declared.rights.Rights.{Rights}

-- A segment in memory: `size` bytes from `place` on, of which the first are `bytes` and the others 0.
pub record Segment : Type 0 where
  pub place : ℕ
  pub size : ℕ
  pub rights : Rights
  pub bytes : List ℕ

-- An executable, as its file gives it.
pub record Executable : Type 0 where
  -- the address where it begins to run
  pub entry : ℕ
  -- where its program headers stand in memory, or 0, and how many there are
  pub header_place : ℕ
  pub header_count : ℕ
  -- in the order of their program headers
  pub segments : List Segment
  -- the addresses that have a name, rising, each with its name
  pub names : List (ℕ × List ℕ)

-- whether the address is one of the segment's bytes
abbrev pub holds : Segment → ℕ → Bool
holds s at = nat_le s.place at && nat_lt at (s.place + s.size)

-- whether two segments share a byte: each begins before the other ends
abbrev pub share_byte : Segment → Segment → Bool
share_byte s t = nat_lt s.place (t.place + t.size) && nat_lt t.place (s.place + s.size)

-- whether a segment that is not empty touches the page of this number: the pages, of 4096 bytes each, are those from its
-- first byte's to its last byte's
abbrev pub touches : Segment → ℕ → Bool
touches s page = nat_le (s.place / 4096) page && nat_le page ((s.place + s.size - 1) / 4096)

-- whether a segment touches the page
abbrev pub is_touched : List Segment → ℕ → Bool
is_touched segments page = list_any (λ s. touches s page) segments

-- how many of the 2^20 pages are touched
unfoldable pub page_count : List Segment → ℕ
page_count segments = count_by (is_touched segments) (range_with_len 0 1048576)

-- whether the address is one of a segment's bytes that may be run
abbrev pub is_code : List Segment → ℕ → Bool
is_code segments at = list_any (λ s. holds s at && s.rights.exec) segments

-- the name beside an address, in a list of addresses with their names
abbrev pub name_beside : List (ℕ × List ℕ) → ℕ → Option (List ℕ)
name_beside names at = option_map (λ n. n.1) (find (λ n. n.0 == at) names)

-- the name of an address, where it has one
abbrev pub name_of : Executable → ℕ → Option (List ℕ)
name_of e at = name_beside e.names at

-- A segment is not empty, lies in the guest's part of memory, and its bytes are not too many.
pub record IsPlaced (s : Segment) : Type 0 where
  pub some : 1 ≤ s.size
  pub low : 0x1000 ≤ s.place
  pub high : s.place + s.size ≤ 0x40000000
  pub within : length s.bytes ≤ s.size

-- the segments share no byte
abbrev pub AreApart : Segment → Segment → Type 0
AreApart s t = share_byte s t ≡ false

-- What every executable keeps.
pub record IsSoundImage (e : Executable) : Type 0 where
  pub placed : All IsPlaced e.segments
  pub apart : AllPairs AreApart e.segments
  pub pages : page_count e.segments ≤ PAGES
  pub aligned : e.entry % 4 ≡ 0
  pub runs : is_code e.segments e.entry ≡ true
  pub header_place : e.header_place < 2 ^ 32
  pub header_count : e.header_count < 65535

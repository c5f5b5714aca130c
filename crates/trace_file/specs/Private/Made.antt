-- Records that are made of numbers, and numbers of bytes.
use Rattle.std.specs.Prelude.{◌≡◌, ℕ, ◌+◌, ◌^◌, ◌<◌, ◌≤◌, min, Bool, true, false, List, [], length}
use Rattle.byteorder.specs.Endian.{little_number}
use Rattle.trace_file.specs.declared.records.Form.{Form}
use Rattle.trace_file.specs.declared.records.Form.TheVariants.{Step, Read, Write, Fill, Call, Ret, Start, End}
use Rattle.trace_file.specs.declared.records.Range.{Range}
use Rattle.trace_file.specs.declared.records.Record.{Record}
use Rattle.trace_file.specs.Records.{Fits, form, name_bytes, numbers}

-- the range has a number, and begins at 0 or 1
pub record IsSoundRange (r : Range) : Type 0 where
  pub least : r.least ≤ 1
  pub some : r.least ≤ r.most

-- the record has this form and these numbers, and no name
pub record IsMade (f : Form) (ns : List ℕ) (r : Record) : Type 0 where
  pub fits : Fits r
  pub form : form r ≡ f
  pub numbers : numbers r ≡ ns
  pub plain : name_bytes r ≡ []

-- a form of events
abbrev pub is_event : Form → Bool
is_event Step = true
is_event Read = true
is_event Write = true
is_event Fill = true
is_event Call = true
is_event Ret = true
is_event Start = true
is_event End = true
is_event f = false

-- It is the least number, in the range or above it, whose bytes begin with the first four of these, or with all where they are
-- fewer.
pub record IsLeastNumber (bytes : List ℕ) (r : Range) (n : ℕ) : Type 0 where
  pub known : r.least ≤ little_number 4 bytes → n ≡ little_number 4 bytes
  pub beyond : little_number 4 bytes < r.least → n ≡ little_number 4 bytes + 256 ^ min (length bytes) 4

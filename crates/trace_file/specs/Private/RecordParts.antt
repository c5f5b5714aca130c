-- The parts of a record, which are read one after the other: its head, its numbers and its name.
use Rattle.std.specs.Prelude.{◌≡◌, ℕ, true, List, ◌++◌, length}
use Rattle.guest_words.specs.Names.{is_name}
use Rattle.std.specs.List.{flat_map}
use Rattle.trace_file.specs.declared.records.Form.{Form}
use Rattle.trace_file.specs.declared.records.Range.{Range}
use Rattle.trace_file.specs.declared.records.Record.{Record}
use Rattle.trace_file.specs.declared.records.Record.TheVariants.{OfName}
use Rattle.trace_file.specs.declared.record_reader.Stop.{Stop}
use Rattle.trace_file.specs.declared.record_reader.Stop.TheVariants.{Begun, NoForm, Memory}
use Rattle.trace_file.specs.Records.{AreInRanges, Fits, form, head, name_bytes, number_bytes, numbers, record_bytes}
use Rattle.trace_file.specs.Pieces.{IsBegun, IsNone}

-- why the bytes are not read as one of the texts
abbrev pub Stops : (List ℕ → Type 0) → List ℕ → Stop → Type 0
Stops L bytes Begun = IsBegun L bytes
Stops L bytes NoForm = IsNone L bytes
Stops L bytes (Memory entry) = Unit {0}

-- The bytes begin with the record of a name, of the routine with this entry.
abbrev pub HasName : ℕ → List ℕ → Type 0
HasName entry bytes = (name : List ℕ) × Fits (OfName entry name) × ((rest : List ℕ) × (bytes ≡ record_bytes (OfName entry name) ++ rest))

-- the heads of forms
abbrev pub IsHead : List ℕ → Type 0
IsHead x = (f : Form) × (x ≡ head f)

-- the bytes of numbers in ranges
abbrev pub AreNumbers : List Range → List ℕ → Type 0
AreNumbers rs x = (ns : List ℕ) × AreInRanges ns rs × (x ≡ flat_map number_bytes ns)

-- what stands behind the head of a record
abbrev pub body : Record → List ℕ
body r = flat_map number_bytes (numbers r) ++ name_bytes r

-- The bytes begin with what stands behind the head of such a record, and its form is this.
abbrev pub HasNameBody : Form → ℕ → List ℕ → Type 0
HasNameBody f entry bytes =
    (name : List ℕ) × Fits (OfName entry name) × (form (OfName entry name) ≡ f) × ((rest : List ℕ) × (bytes ≡ body (OfName entry name) ++ rest))

-- what can stand behind the head of a form
abbrev pub IsBody : Form → List ℕ → Type 0
IsBody f x = (r : Record) × Fits r × (form r ≡ f) × (x ≡ body r)

-- the names of `len` bytes
abbrev pub IsNameOf : ℕ → List ℕ → Type 0
IsNameOf len x = (is_name x ≡ true) × (length x ≡ len)

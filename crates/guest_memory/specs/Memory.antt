-- The memory of a guest, and what loads, stores and changes of its pages do.
use Rattle.std.specs.Prelude.{◌≡◌, ℕ, zero, suc, ◌+◌, ◌-◌, ◌<◌, ◌≤◌, ◌/◌, Bool, true, ◌&&◌, nat_le, nat_lt, if◌then◌else◌, List, [], ◌∷◌, length, slice_index, Option, Some, None, Result, Ok, Err}
use Rattle.std.specs.Option.{option_or, is_some}
use Rattle.byteorder.specs.Endian.{little_number}
use Rattle.guest_words.specs.declared.limits.TheConstants.{PAGES}
use Rattle.guest_words.specs.declared.rights.Rights.{Rights}
use Rattle.guest_memory.specs.declared.refusal.MemError.{MemError}
use Rattle.guest_memory.specs.declared.refusal.MemError.TheVariants as error
use Rattle.guest_memory.specs.declared.refusal.Permission.{Permission}
use Rattle.guest_memory.specs.declared.refusal.Permission.TheVariants.{Read, Write, Execute}
use Rattle.guest_memory.specs.declared.size.Size.{Size}
use Rattle.guest_memory.specs.declared.size.Size.TheVariants.{One, Two, Four}

-- A memory of pages of 4096 bytes: the page of a byte is its address over 4096.
pub record Memory : Type 0 where
  -- the rights of each page, by its number, and `None` where it is not mapped
  pub rights : ℕ → Option Rights
  -- the value of each byte, by its address, and 0 where its page is not mapped
  pub byte : ℕ → ℕ

-- whether a number is one of `count`, from the first on
abbrev pub is_among : ℕ → ℕ → ℕ → Bool
is_among first count n = nat_le first n && nat_lt n (first + count)

-- whether rights allow what is done with a byte
abbrev pub allows : Permission → Rights → Bool
allows Read r = r.read
allows Write r = r.write
allows Execute r = r.exec

-- how it is refused where they don't
abbrev pub denial : Permission → MemError
denial Read = error.NotReadable
denial Write = error.NotWritable
denial Execute = error.NotExecutable

-- why it is refused on a page, if it is
abbrev pub page_refusal : Permission → Option Rights → Option MemError
page_refusal permission None = Some error.Unmapped
page_refusal permission (Some r) = if allows permission r then None else Some (denial permission)

-- the rights of a page: the last of the 2 ^ 20 pages ends at 2 ^ 32, so none behind it is mapped
abbrev pub page_rights : Memory → ℕ → Option Rights
page_rights m page = if nat_lt page 1048576 then m.rights page else None

-- why it is refused on a byte, if it is
abbrev pub byte_refusal : Memory → Permission → ℕ → Option MemError
byte_refusal m permission at = page_refusal permission (page_rights m (at / 4096))

-- why an access is refused: on the first of its `n` bytes, in rising order, on which it is refused
abbrev pub first_refusal : Memory → Permission → ℕ → ℕ → Option MemError
first_refusal m permission at zero = None
first_refusal m permission at (suc n) = option_or (byte_refusal m permission at) (first_refusal m permission (at + 1) n)

-- `n` bytes, from an address on
abbrev pub bytes_at : Memory → ℕ → ℕ → List ℕ
bytes_at m at zero = []
bytes_at m at (suc n) = m.byte at ∷ bytes_at m (at + 1) n

-- the number that they give, the lowest byte first
abbrev pub number_at : Memory → ℕ → ℕ → ℕ
number_at m at n = little_number n (bytes_at m at n)

-- how many bytes a size is
abbrev pub byte_count : Size → ℕ
byte_count One = 1
byte_count Two = 2
byte_count Four = 4

-- a value, unless there is a refusal
abbrev pub unless_refused : {T : Type 0} → Option MemError → T → Result T MemError
unless_refused None value = Ok value
unless_refused (Some refusal) value = Err refusal

-- what a load of `n` bytes answers
abbrev pub loaded : Memory → Permission → ℕ → ℕ → Result ℕ MemError
loaded m permission at n = unless_refused (first_refusal m permission at n) (number_at m at n)

-- each of `n` bytes is mapped
abbrev pub AreMapped : Memory → ℕ → ℕ → Type 0
AreMapped m at n = (q : ℕ) → at ≤ q → q < at + n → is_some (m.rights (q / 4096)) ≡ true

-- the memory with these bytes, from an address on
abbrev pub with_bytes : Memory → ℕ → List ℕ → Memory
with_bytes m at bytes = record m { byte = λ q. if is_among at (length bytes) q then slice_index bytes (q - at) else m.byte q }

-- how many pages of a range are mapped
unfoldable pub count_mapped : (ℕ → Option Rights) → ℕ → ℕ → ℕ
count_mapped rights first zero = 0
count_mapped rights first (suc n) = (if is_some (rights first) then 1 else 0) + count_mapped rights (first + 1) n

-- how many of the 2^20 pages are mapped
abbrev pub mapped_pages : Memory → ℕ
mapped_pages m = count_mapped m.rights 0 1048576

-- the memory where these pages hold zeros, with these rights, or are not mapped
abbrev pub with_pages : Memory → ℕ → ℕ → Option Rights → Memory
with_pages m page count rights = record {
  rights = λ q. if is_among page count q then rights else m.rights q;
  byte = λ q. if is_among page count (q / 4096) then 0 else m.byte q;
}

-- the memory where these pages have these rights
abbrev pub with_rights : Memory → ℕ → ℕ → Rights → Memory
with_rights m page count rights = record m { rights = λ q. if is_among page count q then Some rights else m.rights q }

-- no page of the range is mapped
abbrev pub AreFree : Memory → ℕ → ℕ → Type 0
AreFree m page count = (q : ℕ) → page ≤ q → q < page + count → m.rights q ≡ None

-- a free range of `count` pages, from the address 0x40000000 up to 0x7F000000
pub record IsFreeRange (m : Memory) (count page : ℕ) : Type 0 where
  pub first : 0x40000 ≤ page
  pub last : page + count ≤ 0x7F000
  pub free : AreFree m page count

-- each page of the range is mapped
abbrev pub ArePagesMapped : Memory → ℕ → ℕ → Type 0
ArePagesMapped m page count = (q : ℕ) → page ≤ q → q < page + count → is_some (m.rights q) ≡ true

-- how a call that maps pages ends
abbrev pub MapEnds : Memory → ℕ → ℕ → Rights → Memory → Result Unit MemError → Type 0
MapEnds old page count rights new (Ok done) = (mapped_pages old + count ≤ PAGES) × (new ≡ with_pages old page count (Some rights))
MapEnds old page count rights new (Err error.NoRoom) = (PAGES < mapped_pages old + count) × (new ≡ old)
MapEnds old page count rights new (Err error.Memory) = (mapped_pages old + count ≤ PAGES) × (new ≡ old)
MapEnds old page count rights new (Err other) = ⊥

-- nothing is mapped
abbrev pub no_memory : Memory
no_memory = record { rights = λ q. None; byte = λ q. 0 }

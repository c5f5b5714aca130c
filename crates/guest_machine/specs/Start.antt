-- How a guest begins: its segments in memory by the ELF gABI, and its stack by the initial process stack of the System V
-- ABI, with the auxiliary vector of getauxval(3).
use Rattle.std.specs.Prelude.{ℕ, ◌+◌, ◌-◌, ◌*◌, ◌/◌, true, false, ◌||◌, max, List, [], ◌∷◌, ◌++◌, length, fold, flat_map, replicate, slice_set, Option, Some, None, if◌then◌else◌}
use Rattle.std.specs.List.{range_with_len}
use Rattle.std.specs.Int.{w32, to_le_bytes}
use Rattle.guest_words.specs.declared.limits.TheConstants.{STACK_PAGES}
use Rattle.guest_words.specs.declared.rights.Rights.{Rights}
use Rattle.guest_memory.specs.Memory.{Memory, with_bytes, with_pages}
use Rattle.guest_memory.specs.Reserved.{nothing_reserved}
use Rattle.elf_image.specs.Image.{Executable, Segment, touches}
use Rattle.guest_kernel.specs.Inputs.{Input}
use Rattle.guest_kernel.specs.Kernel.{started}
use Rattle.guest_machine.specs.Machine.{MachineState}

-- ---- the segments
abbrev pub no_rights : Rights
no_rights = record { read = false; write = false; exec = false }

-- what a page allows, with one segment more; what can be written can be read
abbrev pub joined : Rights → Rights → Rights
joined page segment = record {
  read = page.read || segment.read || segment.write;
  write = page.write || segment.write;
  exec = page.exec || segment.exec;
}

-- the rights of a page, which has them once a segment touches it
abbrev pub rights_or_none : Option Rights → Rights
rights_or_none None = no_rights
rights_or_none (Some rights) = rights

abbrev pub with_segment : ℕ → Option Rights → Segment → Option Rights
with_segment page rights s = if touches s page then Some (joined (rights_or_none rights) s.rights) else rights

-- the rights of a page: the union over the segments that touch it, and none where no segment does
abbrev pub segment_rights : List Segment → ℕ → Option Rights
segment_rights segments page = fold (with_segment page) None segments

-- the pages that the segments touch, of zeros, and in them the bytes of each segment
abbrev pub image_memory : List Segment → Memory
image_memory segments =
    fold (λ m s. with_bytes m s.place s.bytes) (record { rights = segment_rights segments; byte = λ _. 0 }) segments

-- the greatest end of a segment
abbrev pub greatest_end : List Segment → ℕ
greatest_end segments = fold (λ end s. max end (s.place + s.size)) 0 segments

-- the first multiple of 4096 at or above it
abbrev pub first_break : List Segment → ℕ
first_break segments = (greatest_end segments + 4095) / 4096 * 4096

-- ---- the stack, from 0x7F800000 up to 0x80000000
abbrev pub stack_page : ℕ
stack_page = 0x7F800

abbrev pub stack_rights : Rights
stack_rights = record { read = true; write = true; exec = false }

-- sixteen bytes stand for random ones
abbrev pub random_address : ℕ
random_address = 0x7FFFFFF0

abbrev pub random_bytes : List ℕ
random_bytes = range_with_len 0 16

-- the argument strings, each with its zero byte
abbrev pub strings : List (List ℕ) → List ℕ
strings arguments = flat_map (λ s. s ++ 0 ∷ []) arguments

-- they have no more bytes than this
abbrev pub strings_limit : ℕ
strings_limit = 65536

-- where they stand: one after another, up to the random bytes
abbrev pub strings_address : List (List ℕ) → ℕ
strings_address arguments = random_address - length (strings arguments)

-- the address of each, from the first on
abbrev pub string_addresses : ℕ → List (List ℕ) → List ℕ
string_addresses at [] = []
string_addresses at (s ∷ ss) = at ∷ string_addresses (at + length s + 1) ss

-- AT_PHDR 3, AT_PHENT 4, AT_PHNUM 5, AT_PAGESZ 6, AT_ENTRY 9, AT_RANDOM 25, AT_NULL 0
abbrev pub auxiliary_vector : Executable → List ℕ
auxiliary_vector image =
    3 ∷ image.header_place ∷ 4 ∷ 32 ∷ 5 ∷ image.header_count ∷ 6 ∷ 4096 ∷ 9 ∷ image.entry ∷ 25 ∷ random_address ∷ 0 ∷ 0 ∷ []

-- the number of arguments, their addresses and a zero, the end of the empty environment, and the auxiliary vector
abbrev pub stack_words : Executable → List (List ℕ) → List ℕ
stack_words image arguments =
    length arguments ∷ string_addresses (strings_address arguments) arguments ++ 0 ∷ 0 ∷ auxiliary_vector image

-- these words stand below the strings, at a multiple of 16
abbrev pub stack_pointer : List (List ℕ) → ℕ
stack_pointer arguments = (strings_address arguments - 4 * (length arguments + 17)) / 16 * 16

abbrev pub start_memory : Executable → List (List ℕ) → Memory
start_memory image arguments =
    let stack = with_pages (image_memory image.segments) stack_page STACK_PAGES (Some stack_rights) in
    let words = with_bytes stack (stack_pointer arguments) (flat_map (λ n. to_le_bytes w32 n) (stack_words image arguments)) in
    with_bytes words (strings_address arguments) (strings arguments ++ random_bytes)

-- ---- the start
-- thread 1 lives, at the entry, with the stack pointer in x2
unfoldable pub start : Executable → List (List ℕ) → List Input → List ℕ → MachineState
start image arguments inputs stdin = record {
  harts = (1, record { pc = image.entry; regs = slice_set (replicate 32 0) 2 (stack_pointer arguments) }) ∷ [];
  kernel = started inputs stdin (first_break image.segments);
  memory = start_memory image arguments;
  held = nothing_reserved;
}

-- The tests that a file has to pass, each over the whole file, in their order. Sums don't wrap.
use Rattle.std.specs.Prelude.{ℕ, ◌+◌, ◌*◌, ◌%◌, Bool, false, not, ◌&&◌, ◌||◌, ◌==◌, nat_lt, if◌then◌else◌, List, [], ◌∷◌, ◌++◌, length, slice_index, Option, Some, None}
use Rattle.std.specs.List.{list_any}
use Rattle.guest_words.specs.declared.limits.TheConstants.{PAGES}
use Rattle.elf_image.specs.declared.error.ElfError.{ElfError}
use Rattle.elf_image.specs.declared.error.ElfError.TheVariants as error
use Rattle.elf_image.specs.Headers.{file_header, program_headers}
use Rattle.elf_image.specs.Image.{is_code, page_count, share_byte}
use Rattle.elf_image.specs.Segments.{load_headers, occupied_headers, segments_of}

-- the size of Elf32_Ehdr
abbrev pub fails_short : List ℕ → Bool
fails_short file = nat_lt (length file) 52

-- EI_MAG0 to EI_MAG3
abbrev pub fails_magic : List ℕ → Bool
fails_magic file = not ((slice_index file 0 == 0x7f) && (slice_index file 1 == 0x45) && (slice_index file 2 == 0x4c) && (slice_index file 3 == 0x46))

-- EI_CLASS is ELFCLASS32
abbrev pub fails_class : List ℕ → Bool
fails_class file = not (slice_index file 4 == 1)

-- EI_DATA is ELFDATA2LSB
abbrev pub fails_byte_order : List ℕ → Bool
fails_byte_order file = not (slice_index file 5 == 1)

-- EI_VERSION and e_version are EV_CURRENT
abbrev pub fails_version : List ℕ → Bool
fails_version file = not ((slice_index file 6 == 1) && ((file_header file).e_version == 1))

-- ET_EXEC
abbrev pub fails_file_kind : List ℕ → Bool
fails_file_kind file = not ((file_header file).e_type == 2)

-- EM_RISCV
abbrev pub fails_machine : List ℕ → Bool
fails_machine file = not ((file_header file).e_machine == 243)

-- EF_RISCV_RVC, EF_RISCV_FLOAT_ABI and EF_RISCV_RVE are the low four bits of e_flags
abbrev pub fails_flags : List ℕ → Bool
fails_flags file = not ((file_header file).e_flags % 16 == 0)

-- the sizes of Elf32_Ehdr and, where there is one, of Elf32_Phdr
abbrev pub fails_header_size : List ℕ → Bool
fails_header_size file =
    let header = file_header file in
    not (header.e_ehsize == 52) || (not (header.e_phnum == 0) && not (header.e_phentsize == 32))

-- PN_XNUM, or program headers that end past the file's end
abbrev pub fails_header_table : List ℕ → Bool
fails_header_table file =
    let header = file_header file in
    (header.e_phnum == 0xffff) || nat_lt (length file) (header.e_phoff + 32 * header.e_phnum)

-- PT_INTERP
abbrev pub fails_interpreter : List ℕ → Bool
fails_interpreter file = list_any (λ h. h.p_type == 3) (program_headers file)

-- the file part of a load segment ends past the file's end
abbrev pub fails_segment_file : List ℕ → Bool
fails_segment_file file = list_any (λ h. nat_lt (length file) (h.p_offset + h.p_filesz)) (load_headers file)

-- the file part of a load segment is larger than the segment
abbrev pub fails_segment_size : List ℕ → Bool
fails_segment_size file = list_any (λ h. nat_lt h.p_memsz h.p_filesz) (load_headers file)

-- a load segment that takes memory lies too low or too high
abbrev pub fails_segment_place : List ℕ → Bool
fails_segment_place file = list_any (λ h. nat_lt h.p_vaddr 0x1000 || nat_lt 0x40000000 (h.p_vaddr + h.p_memsz)) (occupied_headers file)

-- whether two elements of a list, one before the other, are so related
abbrev pub any_two : {X : Type 0} → (X → X → Bool) → List X → Bool
any_two related [] = false
any_two related (x ∷ xs) = list_any (related x) xs || any_two related xs

-- two segments share a byte
abbrev pub fails_overlap : List ℕ → Bool
fails_overlap file = any_two share_byte (segments_of file)

-- no segment is left
abbrev pub fails_no_load : List ℕ → Bool
fails_no_load file = length (segments_of file) == 0

-- the entry is no multiple of 4 in a segment that may be run
abbrev pub fails_entry : List ℕ → Bool
fails_entry file =
    let entry = (file_header file).e_entry in
    not ((entry % 4 == 0) && is_code (segments_of file) entry)

-- the segments touch more pages than a guest can have
abbrev pub fails_pages : List ℕ → Bool
fails_pages file = nat_lt PAGES (page_count (segments_of file))

-- tests, each with the error of a file that fails it
abbrev pub Tests : Type 0
Tests = List (Bool × ElfError)

-- the error of the first test that fails
abbrev pub first_of : Tests → Option ElfError
first_of [] = None
first_of (test ∷ rest) = if test.0 then Some test.1 else first_of rest

-- the tests of the file header: of its first 16 bytes and its version, of what the file is for, and of the table of program
-- headers, and before them that there is one
abbrev pub format_tests : List ℕ → Tests
format_tests file =
    (fails_magic file, error.Magic) ∷ (fails_class file, error.Class) ∷ (fails_byte_order file, error.ByteOrder)
    ∷ (fails_version file, error.Version) ∷ []

abbrev pub kind_tests : List ℕ → Tests
kind_tests file = (fails_file_kind file, error.FileKind) ∷ (fails_machine file, error.Machine) ∷ (fails_flags file, error.Flags) ∷ []

abbrev pub table_tests : List ℕ → Tests
table_tests file = (fails_header_size file, error.HeaderSize) ∷ (fails_header_table file, error.HeaderTable) ∷ []

abbrev pub header_tests : List ℕ → Tests
header_tests file = (fails_short file, error.Short) ∷ (format_tests file ++ (kind_tests file ++ table_tests file))

-- the tests of each program header: of its type, of its file part, and of its place in memory
abbrev pub type_tests : List ℕ → Tests
type_tests file = (fails_interpreter file, error.Interpreter) ∷ []

abbrev pub file_part_tests : List ℕ → Tests
file_part_tests file = (fails_segment_file file, error.SegmentFile) ∷ (fails_segment_size file, error.SegmentSize) ∷ []

abbrev pub place_tests : List ℕ → Tests
place_tests file = (fails_segment_place file, error.SegmentPlace) ∷ []

abbrev pub segment_tests : List ℕ → Tests
segment_tests file = type_tests file ++ (file_part_tests file ++ place_tests file)

-- the tests of the segments together
abbrev pub layout_tests : List ℕ → Tests
layout_tests file =
    (fails_overlap file, error.Overlap) ∷ (fails_no_load file, error.NoLoad) ∷ (fails_entry file, error.Entry)
    ∷ (fails_pages file, error.Pages) ∷ []

-- the error of the first test that the file fails
unfoldable pub first_refusal : List ℕ → Option ElfError
first_refusal file = first_of (header_tests file ++ (segment_tests file ++ layout_tests file))

-- the number of the test that fails, and 0 for out of memory
abbrev pub number_of : ElfError → ℕ
number_of error.Memory = 0
number_of error.Short = 1
number_of error.Magic = 2
number_of error.Class = 3
number_of error.ByteOrder = 4
number_of error.Version = 5
number_of error.FileKind = 6
number_of error.Machine = 7
number_of error.Flags = 8
number_of error.HeaderSize = 9
number_of error.HeaderTable = 10
number_of error.Interpreter = 11
number_of error.SegmentFile = 12
number_of error.SegmentSize = 13
number_of error.SegmentPlace = 14
number_of error.Overlap = 15
number_of error.NoLoad = 16
number_of error.Entry = 17
number_of error.Pages = 18

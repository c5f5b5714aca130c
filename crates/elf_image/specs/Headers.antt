-- The fields of an ELF file for 32 bits, lowest byte first, by their names in the ELF gABI.
use Rattle.std.specs.Prelude.{ℕ, ◌+◌, ◌*◌, List, drop, map}
use Rattle.std.specs.List.{range_with_len}
use Rattle.byteorder.specs.Endian.{little_number}
use Rattle.elf_image.specs.declared.headers.FileHeader.{FileHeader}
use Rattle.elf_image.specs.declared.headers.ProgramHeader.{ProgramHeader}
use Rattle.elf_image.specs.declared.headers.SectionHeader.{SectionHeader}

-- the 16-bit and the 32-bit field at a place
unfoldable pub half_at : List ℕ → ℕ → ℕ
half_at file at = little_number 2 (drop at file)

unfoldable pub word_at : List ℕ → ℕ → ℕ
word_at file at = little_number 4 (drop at file)

-- Elf32_Ehdr, but for its first 16 bytes
abbrev pub file_header : List ℕ → FileHeader
file_header file = record {
  e_type = half_at file 16;
  e_machine = half_at file 18;
  e_version = word_at file 20;
  e_entry = word_at file 24;
  e_phoff = word_at file 28;
  e_shoff = word_at file 32;
  e_flags = word_at file 36;
  e_ehsize = half_at file 40;
  e_phentsize = half_at file 42;
  e_phnum = half_at file 44;
  e_shentsize = half_at file 46;
  e_shnum = half_at file 48;
}

-- Elf32_Phdr at a place, but for p_paddr and p_align
abbrev pub program_header_at : List ℕ → ℕ → ProgramHeader
program_header_at file at = record {
  p_type = word_at file at;
  p_offset = word_at file (at + 4);
  p_vaddr = word_at file (at + 8);
  p_filesz = word_at file (at + 16);
  p_memsz = word_at file (at + 20);
  p_flags = word_at file (at + 24);
}

-- the program headers: e_phnum of them, 32 bytes each, from e_phoff on
unfoldable pub program_headers : List ℕ → List ProgramHeader
program_headers file = map (λ i. program_header_at file ((file_header file).e_phoff + 32 * i)) (range_with_len 0 (file_header file).e_phnum)

-- Elf32_Shdr at a place, as far as names need it
abbrev pub section_header_at : List ℕ → ℕ → SectionHeader
section_header_at file at = record {
  sh_type = word_at file (at + 4);
  sh_offset = word_at file (at + 16);
  sh_size = word_at file (at + 20);
  sh_link = word_at file (at + 24);
  sh_entsize = word_at file (at + 36);
}

-- the section header with this index: 40 bytes each, from e_shoff on
abbrev pub section_header : List ℕ → ℕ → SectionHeader
section_header file i = section_header_at file ((file_header file).e_shoff + 40 * i)

-- all of them: e_shnum
unfoldable pub section_headers : List ℕ → List SectionHeader
section_headers file = map (section_header file) (range_with_len 0 (file_header file).e_shnum)

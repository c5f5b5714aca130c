-- The executable of a program and its symbols: an ELF file of one segment, which holds the headers and the code. Where there
-- are symbols, a symbol table, its strings and the section headers stand behind it.
use Rattle.std.specs.Prelude.{ℕ, ◌+◌, ◌-◌, ◌*◌, ◌/◌, ◌==◌, if◌then◌else◌, List, [], ◌∷◌, ◌++◌, length, replicate}
use Rattle.std.specs.List.{flat_map}
use Rattle.std.specs.Int.{to_le_bytes, w32}
use Rattle.rv_asm.specs.declared.executable.Symbol.{Symbol}
use Rattle.rv_asm.specs.declared.headers.FileHeader.{FileHeader}
use Rattle.rv_asm.specs.declared.headers.ProgramHeader.{ProgramHeader}
use Rattle.rv_asm.specs.declared.headers.SectionHeader.{SectionHeader}
use Rattle.rv_asm.specs.declared.headers.SymbolEntry.{SymbolEntry}
use Rattle.rv_asm.specs.Fields.{bytes_of, file_fields, program_fields, section_fields, symbol_fields}

-- the words as bytes
abbrev pub code_bytes : List ℕ → List ℕ
code_bytes words = flat_map (to_le_bytes w32) words

-- where the code ends, behind the file header of 52 bytes and the program header of 32, and the symbol table begins
abbrev pub code_end : ℕ → ℕ
code_end words = 84 + 4 * words

-- e_ident: the magic number, ELFCLASS32, ELFDATA2LSB, EV_CURRENT, ELFOSABI_NONE and zeros
abbrev pub e_ident : List ℕ
e_ident = 0x7f ∷ 0x45 ∷ 0x4c ∷ 0x46 ∷ 1 ∷ 1 ∷ 1 ∷ 0 ∷ 0 ∷ 0 ∷ 0 ∷ 0 ∷ 0 ∷ 0 ∷ 0 ∷ 0 ∷ []

-- an executable (ET_EXEC) for RISC-V (EM_RISCV), with one program header and with its section headers at a place
abbrev pub file_header : ℕ → ℕ → FileHeader
file_header e_shoff e_shnum = record {
  e_type = 2;
  e_machine = 243;
  e_version = 1;
  e_entry = 0x10054;
  e_phoff = 52;
  e_shoff = e_shoff;
  e_flags = 0;
  e_ehsize = 52;
  e_phentsize = 32;
  e_phnum = 1;
  e_shentsize = 40;
  e_shnum = e_shnum;
  e_shstrndx = 0;
}

-- a segment (PT_LOAD) of this many bytes from the file's begin on, at 0x10000, which may be read, written and run
abbrev pub program_header : ℕ → ProgramHeader
program_header size = record {
  p_type = 1;
  p_offset = 0;
  p_vaddr = 0x10000;
  p_paddr = 0x10000;
  p_filesz = size;
  p_memsz = size;
  p_flags = 7;
  p_align = 4096;
}

-- the headers and the code
unfoldable pub image_bytes : List ℕ → ℕ → ℕ → List ℕ
image_bytes words e_shoff e_shnum =
    e_ident ++ bytes_of (file_fields (file_header e_shoff e_shnum))
    ++ bytes_of (program_fields (program_header (code_end (length words)))) ++ code_bytes words

-- a name as it stands in a string table
abbrev pub string_of : Symbol → List ℕ
string_of symbol = symbol.name ++ 0 ∷ []

-- the string table: the empty name, and then the names in order
unfoldable pub string_table : List Symbol → List ℕ
string_table symbols = 0 ∷ flat_map string_of symbols

-- a global symbol of a routine (STB_GLOBAL, STT_FUNC) with an absolute value (SHN_ABS)
abbrev pub symbol_entry : ℕ → Symbol → SymbolEntry
symbol_entry st_name symbol = record {
  st_name = st_name;
  st_value = symbol.at;
  st_size = 0;
  st_info = 0x12;
  st_other = 0;
  st_shndx = 0xfff1;
}

-- the symbols' entries, where the first of their names stands at a place of the string table
abbrev pub symbol_entries : ℕ → List Symbol → List ℕ
symbol_entries st_name [] = []
symbol_entries st_name (symbol ∷ rest) =
    bytes_of (symbol_fields (symbol_entry st_name symbol)) ++ symbol_entries (st_name + length (string_of symbol)) rest

-- the symbol table, whose first entry is empty
unfoldable pub symbol_table : List Symbol → List ℕ
symbol_table symbols = replicate 16 0 ++ symbol_entries 1 symbols

-- the next multiple of 4
abbrev pub aligned : ℕ → ℕ
aligned n = (n + 3) / 4 * 4

-- zeros up to the next multiple of 4
abbrev pub padding : ℕ → List ℕ
padding n = replicate (aligned n - n) 0

-- a section of type SHT_SYMTAB, of which only the empty entry is local, with the section 2 for its strings
abbrev pub symbol_section : ℕ → ℕ → SectionHeader
symbol_section sh_offset sh_size = record {
  sh_name = 0;
  sh_type = 2;
  sh_flags = 0;
  sh_addr = 0;
  sh_offset = sh_offset;
  sh_size = sh_size;
  sh_link = 2;
  sh_info = 1;
  sh_addralign = 4;
  sh_entsize = 16;
}

-- a section of type SHT_STRTAB
abbrev pub string_section : ℕ → ℕ → SectionHeader
string_section sh_offset sh_size = record {
  sh_name = 0;
  sh_type = 3;
  sh_flags = 0;
  sh_addr = 0;
  sh_offset = sh_offset;
  sh_size = sh_size;
  sh_link = 0;
  sh_info = 0;
  sh_addralign = 1;
  sh_entsize = 0;
}

-- the section headers: the empty one (SHT_NULL), that of the symbol table, which ends where its strings begin, and that
-- of the strings
abbrev pub section_headers : ℕ → ℕ → ℕ → List ℕ
section_headers symbols_begin strings_begin strings_size =
    replicate 40 0 ++ bytes_of (section_fields (symbol_section symbols_begin (strings_begin - symbols_begin)))
    ++ bytes_of (section_fields (string_section strings_begin strings_size))

-- where the strings begin: behind the code and the symbol table, whose entries have 16 bytes each
abbrev pub strings_begin : List ℕ → List Symbol → ℕ
strings_begin words symbols = code_end (length words) + 16 * (length symbols + 1)

-- where the strings end
abbrev pub strings_end : List ℕ → List Symbol → ℕ
strings_end words symbols = strings_begin words symbols + length (string_table symbols)

-- a file without symbols: the headers and the code
unfoldable pub plain_file : List ℕ → List ℕ
plain_file words = image_bytes words 0 0

-- a file with symbols: behind the code stand their table, its strings, zeros and the section headers
unfoldable pub named_file : List ℕ → List Symbol → List ℕ
named_file words symbols =
    image_bytes words (aligned (strings_end words symbols)) 3
    ++ symbol_table symbols ++ string_table symbols ++ padding (strings_end words symbols)
    ++ section_headers (code_end (length words)) (strings_begin words symbols) (length (string_table symbols))

-- the whole file
abbrev pub executable : List ℕ → List Symbol → List ℕ
executable words symbols = if length symbols == 0 then plain_file words else named_file words symbols

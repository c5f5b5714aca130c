-- The names of a file's routines, by its first symbol table.
use Rattle.std.specs.Prelude.{ℕ, ◌+◌, ◌*◌, ◌/◌, ◌%◌, Bool, not, ◌&&◌, ◌||◌, ◌==◌, nat_le, nat_lt, if◌then◌else◌, List, [], length, slice_index, take, drop, filter, fold, Option, Some, None, option_map}
use Rattle.std.specs.List.{before_first, filter_map, find, list_any, range_with_len}
use Rattle.std.specs.Option.{option_map_or}
use Rattle.std.specs.Ordering.{is_lt, nat_cmp}
use Rattle.std.specs.Cmp.Lexicographic.{slice_cmp}
use Rattle.guest_words.specs.Names.{is_name}
use Rattle.elf_image.specs.declared.headers.SectionHeader.{SectionHeader}
use Rattle.elf_image.specs.Headers.{file_header, half_at, section_header, section_headers, word_at}

-- A symbol that counts: its value, the rank of its binding (the lowest goes first), and its name.
pub record Symbol : Type 0 where
  pub value : ℕ
  pub rank : ℕ
  pub name : List ℕ

-- whether section headers are of the size of Elf32_Shdr, and all in the file
abbrev pub has_sections : List ℕ → Bool
has_sections file =
    let header = file_header file in
    (header.e_shentsize == 40) && nat_le (header.e_shoff + 40 * header.e_shnum) (length file)

-- whether a section is all in the file
abbrev pub is_in_file : List ℕ → SectionHeader → Bool
is_in_file file s = nat_le (s.sh_offset + s.sh_size) (length file)

-- whether a symbol table can be read: its entries have the size of Elf32_Sym, and its link names a string table (SHT_STRTAB)
abbrev pub is_readable : List ℕ → SectionHeader → Bool
is_readable file table =
    let strings = section_header file table.sh_link in
    (table.sh_entsize == 16) && nat_lt table.sh_link (file_header file).e_shnum && (strings.sh_type == 3) && is_in_file file table && is_in_file file strings

-- the first symbol table (SHT_SYMTAB)
abbrev pub symbol_table : List ℕ → Option SectionHeader
symbol_table file = if has_sections file then find (λ s. s.sh_type == 2) (section_headers file) else None

abbrev pub is_zero : ℕ → Bool
is_zero b = b == 0

-- the name that begins at an offset of a string table and ends before the next zero byte
unfoldable pub name_in : List ℕ → ℕ → Option (List ℕ)
name_in strings offset =
    let rest = drop offset strings in
    let name = before_first is_zero rest in
    if list_any is_zero rest && is_name name then Some name else None

-- STB_GLOBAL goes before STB_WEAK, that before STB_LOCAL, and that before all others
abbrev pub rank_of : ℕ → ℕ
rank_of binding = if binding == 1 then 0 else (if binding == 2 then 1 else (if binding == 0 then 2 else 3))

-- the symbol (Elf32_Sym) at a place, where it counts: STT_FUNC, not SHN_UNDEF, and with a name
unfoldable pub symbol_at : List ℕ → List ℕ → ℕ → Option Symbol
symbol_at file strings at =
    let info = slice_index file (at + 12) in
    if (info % 16 == 2) && not (half_at file (at + 14) == 0)
    then option_map (λ name. record { value = word_at file (at + 4); rank = rank_of (info / 16); name = name }) (name_in strings (word_at file at))
    else None

-- the bytes of a section
abbrev pub section_bytes : List ℕ → SectionHeader → List ℕ
section_bytes file s = take s.sh_size (drop s.sh_offset file)

-- the symbols of a table that count; a rest of fewer than 16 bytes is passed over
unfoldable pub symbols_in : List ℕ → SectionHeader → List Symbol
symbols_in file table =
    let strings = section_bytes file (section_header file table.sh_link) in
    filter_map (λ i. symbol_at file strings (table.sh_offset + 16 * i)) (range_with_len 0 (table.sh_size / 16))

-- the symbols of a file that count: none where its first symbol table can't be read
unfoldable pub symbols : List ℕ → List Symbol
symbols file = option_map_or (λ table. if is_readable file table then symbols_in file table else []) (symbol_table file) []

-- whether a symbol goes before another at the same value: by rank, and then by the lesser name, byte by byte
abbrev pub goes_before : Symbol → Symbol → Bool
goes_before s t = nat_lt s.rank t.rank || ((s.rank == t.rank) && is_lt (slice_cmp nat_cmp s.name t.name))

-- the one of two symbols that goes before the other
abbrev pub first_symbol : Option Symbol → Symbol → Option Symbol
first_symbol None s = Some s
first_symbol (Some best) s = if goes_before s best then Some s else Some best

-- the symbol at an address before which no other goes
unfoldable pub symbol_of : List Symbol → ℕ → Option Symbol
symbol_of all at = fold first_symbol None (filter (λ s. s.value == at) all)

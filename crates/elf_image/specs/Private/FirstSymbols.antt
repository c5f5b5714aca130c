-- The symbols that go first at their values, among those seen so far.
use Rattle.std.specs.Prelude.{◌≡◌, ℕ, ◌+◌, ◌*◌, ◌/◌, ◌<◌, ◌≤◌, ◌==◌, List, All, AllPairs}
use Rattle.std.specs.List.{filter_map, find}
use Rattle.elf_image.specs.declared.headers.SectionHeader.{SectionHeader}
use Rattle.elf_image.specs.declared.names.Entry.{Entry}
use Rattle.elf_image.specs.Symbols.{Symbol}
use Rattle.elf_image.specs.Headers.{word_at}
use Rattle.elf_image.specs.Symbols.{symbol_at, symbol_of}

-- By rising value, the symbol that goes first at each value that was seen.
pub record AreFirst (seen first : List Symbol) : Type 0 where
  pub rising : AllPairs (λ s t. s.value < t.value) first
  pub found : (at : ℕ) → find (λ s. s.value == at) first ≡ symbol_of seen at
  pub bounded : (top : ℕ) → All (λ s. s.value ≤ top) seen → All (λ s. s.value ≤ top) first

-- the entry of a symbol table with this number
abbrev pub entry_at : List ℕ → SectionHeader → ℕ → Entry
entry_at file table i = record { value = word_at file (table.sh_offset + 16 * i + 4); index = i }

-- The table has this entry.
pub record IsEntry (file : List ℕ) (table : SectionHeader) (e : Entry) : Type 0 where
  pub value : e.value ≡ word_at file (table.sh_offset + 16 * e.index + 4)
  pub inside : e.index < table.sh_size / 16

-- the symbols of entries, those that count
abbrev pub symbols_of_entries : List ℕ → List ℕ → SectionHeader → List Entry → List Symbol
symbols_of_entries file strings table entries = filter_map (λ e. symbol_at file strings (table.sh_offset + 16 * e.index)) entries

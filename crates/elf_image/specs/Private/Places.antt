-- Symbols by the places of their names among strings.
use Rattle.std.specs.Prelude.{◌≡◌, ◌+◌, ◌≤◌, ℕ, true, List, length, take, drop}
use Rattle.guest_words.specs.Names.{is_name}
use Rattle.elf_image.specs.Symbols.{Symbol}
use Rattle.elf_image.specs.declared.symbols.SymbolPlace.{SymbolPlace}

-- the symbol whose name is at the place
abbrev pub placed : List ℕ → SymbolPlace → Symbol
placed strings p = record { value = p.value; rank = p.rank; name = take p.len (drop p.start strings) }

-- The strings have a name at the place.
pub record IsNamed (strings : List ℕ) (p : SymbolPlace) : Type 0 where
  pub within : p.start + p.len ≤ length strings
  pub named : is_name (take p.len (drop p.start strings)) ≡ true

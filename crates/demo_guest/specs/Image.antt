-- The executable of the demo.
use Rattle.std.specs.Prelude.{◌≡◌, ℕ, ◌+◌, ◌*◌, ◌<◌, ◌^◌, List, ◌∷◌, map, codes, decimal, Some}
use Rattle.std.specs.List.{AllByRecursion, range_with_len}
use Rattle.rv_isa.specs.Table.{decoded}
use Rattle.rv_asm.specs.declared.executable.Symbol.{Symbol}
use Rattle.rv_asm.specs.Executable.{executable}
use Rattle.demo_guest.specs.Guest.{instructions, routine_start}

-- the address of a word of the code
abbrev pub address : ℕ → ℕ
address word = 0x10054 + 4 * word

-- the routine is named by r and its number, counted from 1 on
abbrev pub routine_symbol : ℕ → ℕ → Symbol
routine_symbol routines routine = record { name = 114 ∷ decimal (routine + 1); at = address (routine_start routines routine) }

-- the first word, where a thread runs on, and the routines
unfoldable pub symbols : ℕ → List Symbol
symbols routines =
    record { name = codes "_start"; at = address 0 } ∷ record { name = codes "thread"; at = address 5 }
    ∷ map (routine_symbol routines) (range_with_len 0 routines)

-- A file is the executable of words that stand for the instructions, one for each, with the symbols.
pub record IsDemoFile (routines : ℕ) (file : List ℕ) : Type 0 where
  pub words : List ℕ
  pub fit : AllByRecursion (λ word. word < 2 ^ 32) words
  pub instructions : map decoded words ≡ map Some (instructions routines)
  pub written : file ≡ executable words (symbols routines)

-- there is one such file
abbrev pub OneDemoFile : Type 0
OneDemoFile = (routines : ℕ) (file other : List ℕ) → IsDemoFile routines file → IsDemoFile routines other → file ≡ other

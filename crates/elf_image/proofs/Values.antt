-- The values of symbols are numbers of 32 bits.
use Rattle.std.proofs.Common.{ℕ, ◌+◌, ◌*◌, ◌/◌, ◌^◌, ◌<◌, Bool, true, false, List, [], ◌∷◌, get_or, drop, Option, Some, None, if◌then◌else◌, arith}
use Rattle.std.specs.List.{All, cons_option, filter_map, range_with_len}
use Rattle.std.specs.Option.{IfSome, option_map, option_map_or}
use Rattle.std.proofs.lemmas.List.{get_or-drop}
use Rattle.std.proofs.lemmas.List.Elements.{All-cons, All-nil}
use Rattle.elf_image.specs.declared.headers.SectionHeader.{SectionHeader}
use Rattle.elf_image.specs.Symbols.{Symbol}
use Rattle.elf_image.specs.Headers.{section_header, word_at}
use Rattle.elf_image.specs.Symbols.{is_readable, name_in, section_bytes, symbol_at, symbol_table, symbols, symbols_in}

-- what holds of each value that a function gives holds of all that it gives of a list
pub one_given : {Y : Type 0} (P : Y → Type 0) (o : Option Y) (ys : List Y) → IfSome o P → All P ys → All P (cons_option o ys)
one_given P None ys h all = all
one_given P (Some y) ys h all = All-cons P y ys h all

all_given : {X Y : Type 0} (P : Y → Type 0) (h : X → Option Y) → ((x : X) → IfSome (h x) P) → (xs : List X) → All P (filter_map h xs)
all_given P h each [] = All-nil P
all_given P h each (x ∷ xs) = one_given P (h x) (filter_map h xs) (each x) (all_given P h each xs)

-- a symbol with a given value, where there is one
with_value : (test : Bool) (value rank : ℕ) (name : Option (List ℕ)) → value < 2 ^ 32
    → IfSome (if test then option_map (λ n. record { value = value; rank = rank; name = n }) name else None) (λ (s : Symbol). s.value < 2 ^ 32)
with_value false value rank name fits = tt
with_value true value rank None fits = tt
with_value true value rank (Some n) fits = fits

module _ (file : List ℕ) (bytes : (i : ℕ) → get_or file i 0 < 2 ^ 8) where
  byte : (at i : ℕ) → get_or (drop at file) i 0 < 2 ^ 8
  byte at i = rw (get_or-drop at file i 0) (bytes (at + i))

  word_fits : (at : ℕ) → word_at file at < 2 ^ 32
  unfolding word_at
  word_fits at = four _ _ _ _ (byte at 0) (byte at 1) (byte at 2) (byte at 3)
    where
      four : (a b d e : ℕ) → a < 2 ^ 8 → b < 2 ^ 8 → d < 2 ^ 8 → e < 2 ^ 8 → a + 256 * (b + 256 * (d + 256 * (e + 256 * 0))) < 2 ^ 32
      four a b d e h k l m = omega arith

  symbol_fits : (strings : List ℕ) (at : ℕ) → IfSome (symbol_at file strings at) (λ (s : Symbol). s.value < 2 ^ 32)
  unfolding symbol_at
  symbol_fits strings at = with_value _ (word_at file (at + 4)) _ (name_in strings (word_at file at)) (word_fits (at + 4))

  table_fits : (table : SectionHeader) → All (λ (s : Symbol). s.value < 2 ^ 32) (symbols_in file table)
  unfolding symbols_in
  table_fits table = all_given (λ (s : Symbol). s.value < 2 ^ 32) (λ i. symbol_at file (section_bytes file (section_header file table.sh_link)) (table.sh_offset + 16 * i))
      (λ i. symbol_fits _ _) (range_with_len 0 (table.sh_size / 16))

  readable_fits : (readable : Bool) (table : SectionHeader) → All (λ (s : Symbol). s.value < 2 ^ 32) (if readable then symbols_in file table else [])
  readable_fits true table = table_fits table
  readable_fits false table = All-nil (λ (s : Symbol). s.value < 2 ^ 32)

  pub values_fit : All (λ (s : Symbol). s.value < 2 ^ 32) (symbols file)
  unfolding symbols
  values_fit = some_fit (symbol_table file)
    where
      some_fit : (o : Option SectionHeader) → All (λ (s : Symbol). s.value < 2 ^ 32) (option_map_or (λ table. if is_readable file table then symbols_in file table else []) o [])
      some_fit None = All-nil (λ (s : Symbol). s.value < 2 ^ 32)
      some_fit (Some table) = readable_fits (is_readable file table) table

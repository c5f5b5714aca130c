-- The section headers at a file's end, and the symbol table that they name.
use Rattle.std.proofs.Common.{◌≡◌, ℕ, ◌+◌, ◌-◌, ◌*◌, ◌^◌, ◌<◌, ◌≤◌, true, eqb, leb, ltb, ◌&&◌, List, [], ◌∷◌, length, map, take, drop, Some, None, if◌then◌else◌, sym, ap, ap₂, ◌∙◌, arith, add_assoc}
use Rattle.std.specs.List.{find, range_with_len}
use Rattle.std.specs.Option.{option_map_or}
use Rattle.std.proofs.lemmas.Bool.{le-leb}
use Rattle.std.proofs.lemmas.List.{drop-drop}
use Rattle.byteorder.specs.Endian.{little_number}
use Rattle.elf_image.specs.Headers.{file_header, section_header, section_header_at, section_headers, word_at}
use Rattle.elf_image.specs.Symbols.{has_sections, is_in_file, is_readable, section_bytes, symbol_table, symbols, symbols_in}
use Rattle.rv_asm.specs.Executable as written
use Rattle.written_images.proofs.Entries.{TypeOf}
use Rattle.written_images.proofs.Headers.{word_back}

-- a section header as it is read
abbrev Section : Type 0
Section = TypeOf (symbol_table [])

abbrev pub section : ℕ → ℕ → ℕ → ℕ → ℕ → Section
section kind place size link entry = record { sh_type = kind; sh_offset = place; sh_size = size; sh_link = link; sh_entsize = entry }

-- the section header at a place, by the bytes from an earlier place on
later : (file : List ℕ) (a k : ℕ) → section_header_at file (a + k) ≡ section_header_at (drop a file) k
unfolding word_at
later file a k = λ i. section (little_number 4 (from 4 i)) (little_number 4 (from 16 i)) (little_number 4 (from 20 i)) (little_number 4 (from 24 i)) (little_number 4 (from 36 i))
  where
    from : (j : ℕ) → drop (a + k + j) file ≡ drop (k + j) (drop a file)
    from j = ap (λ n. drop n file) (add_assoc a k j) ∙ sym (drop-drop (k + j) a file)

module _ (file : List ℕ) (place begin middle size : ℕ)
    (place_is : (file_header file).e_shoff ≡ place) (count_is : (file_header file).e_shnum ≡ 3) (size_is : (file_header file).e_shentsize ≡ 40)
    (ended : drop place file ≡ written.section_headers begin middle size) (long : length file ≡ place + 120)
    (rises : begin ≤ middle) (within : middle + size ≤ place) (fits : place < 2 ^ 32) where
  -- the three headers
  at : (k : ℕ) → section_header_at file ((file_header file).e_shoff + k) ≡ section_header_at (written.section_headers begin middle size) k
  at k = ap (λ n. section_header_at file (n + k)) place_is ∙ later file place k ∙ ap (λ bytes. section_header_at bytes k) ended

  first : section_header file 0 ≡ section 0 0 0 0 0
  unfolding word_at
  first = at 0

  second : section_header file 1 ≡ section 2 begin (middle - begin) 2 16
  unfolding word_at
  second = at 40 ∙ ap₂ (λ n m. section 2 n m 2 16) (word_back begin (omega arith)) (word_back (middle - begin) (omega arith))

  third : section_header file 2 ≡ section 3 middle size 0 0
  unfolding word_at
  third = at 80 ∙ ap₂ (λ n m. section 3 n m 0 0) (word_back middle (omega arith)) (word_back size (omega arith))

  has : has_sections file ≡ true
  has = (λ i. eqb (size_is i) 40 && leb (place_is i + 40 * count_is i) (length file)) ∙ le-leb (place + 120) (length file) (omega (arith, long))

  table_is : symbol_table file ≡ Some (section 2 begin (middle - begin) 2 16)
  unfolding section_headers
  table_is = ap₂ (λ b o. if b then o else None) has
      (ap (λ n. find (λ s. eqb s.sh_type 2) (map (section_header file) (range_with_len 0 n))) count_is
      ∙ (λ i. find (λ s. eqb s.sh_type 2) (first i ∷ second i ∷ third i ∷ [])))

  readable : is_readable file (section 2 begin (middle - begin) 2 16) ≡ true
  readable = (λ i. eqb 16 16 && ltb 2 (count_is i) && eqb (third i).sh_type 3 && is_in_file file (section 2 begin (middle - begin) 2 16) && is_in_file file (third i))
      ∙ ap₂ (λ b c. b && c) (le-leb (begin + (middle - begin)) (length file) (omega (arith, long))) (le-leb (middle + size) (length file) (omega (arith, long)))

  pub symbols_are : symbols file ≡ symbols_in file (section 2 begin (middle - begin) 2 16)
  unfolding symbols
  symbols_are = ap (λ o. option_map_or (λ table. if is_readable file table then symbols_in file table else []) o []) table_is
      ∙ ap (λ b. if b then symbols_in file (section 2 begin (middle - begin) 2 16) else []) readable

  pub strings_are : section_bytes file (section_header file 2) ≡ take size (drop middle file)
  strings_are = ap (section_bytes file) third

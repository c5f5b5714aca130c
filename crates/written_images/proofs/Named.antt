-- The symbols of a file with symbols.
use Rattle.std.proofs.Common.{◌≡◌, ℕ, suc, ◌+◌, ◌-◌, ◌*◌, ◌/◌, ◌≤◌, List, [], ◌∷◌, ◌++◌, length, map, replicate, take, drop, None, refl, sym, ap, ap₂, subst, ◌∙◌, arith, length-append}
use Rattle.std.specs.List.{All, cons_option, filter_map, range_with_len}
use Rattle.std.proofs.Math.Seq.{drop-append_seam, take-append_seam}
use Rattle.std.proofs.lemmas.List.{drop-drop}
use Rattle.guest_words.specs.declared.limits.TheConstants.{FILE_BYTES}
use Rattle.elf_image.specs.Headers.{file_header, half_at, section_header, word_at}
use Rattle.elf_image.specs.Symbols as seen
use Rattle.rv_asm.specs.declared.executable.Symbol.{Symbol}
use Rattle.rv_asm.specs.Executable.{aligned, code_end, image_bytes, named_file, padding, section_headers, string_table, strings_begin, strings_end, symbol_entries, symbol_table}
use Rattle.rv_asm.proofs.Sizes.{named_size, table_size}
use Rattle.written_images.specs.Written.{IsRoutine}
use Rattle.written_images.proofs.Entries.{entries_read, moved, read}
use Rattle.written_images.proofs.Files.{regrouped, tables}
use Rattle.written_images.proofs.Headers.{image_size, word_back}
use Rattle.written_images.proofs.Sections.{strings_are, symbols_are}

-- the empty entry names nothing
nothing : (strings bytes : List ℕ) → seen.symbol_at (replicate 16 0 ++ bytes) strings 0 ≡ None
unfolding seen.symbol_at
nothing strings bytes = refl

module _ (words : List ℕ) (symbols : List Symbol) where
  abbrev place : ℕ
  place = aligned (strings_end words symbols)

  abbrev begin : ℕ
  begin = code_end (length words)

  abbrev middle : ℕ
  middle = strings_begin words symbols

  abbrev size : ℕ
  size = length (string_table symbols)

  abbrev headers : List ℕ
  headers = section_headers begin middle size

  abbrev image : List ℕ
  image = image_bytes words place 3

  abbrev pub file : List ℕ
  file = image ++ tables words symbols

  -- what stands behind the code, behind the symbol table and behind the strings
  behind_code : drop begin file ≡ tables words symbols
  behind_code = subst (λ n. drop n file ≡ tables words symbols) (image_size words place 3) (drop-append_seam image (tables words symbols))

  behind_table : drop middle file ≡ string_table symbols ++ (padding (strings_end words symbols) ++ headers)
  behind_table = sym (drop-drop (16 * (length symbols + 1)) begin file) ∙ ap (drop (16 * (length symbols + 1))) behind_code
      ∙ subst (λ n. drop n (tables words symbols) ≡ string_table symbols ++ (padding (strings_end words symbols) ++ headers)) (table_size symbols)
      (drop-append_seam (symbol_table symbols) (string_table symbols ++ (padding (strings_end words symbols) ++ headers)))

  file_size : length file ≡ place + 120
  unfolding named_file
  file_size = ap length (regrouped image (symbol_table symbols) (string_table symbols) (padding (strings_end words symbols)) headers) ∙ named_size words symbols

  behind_strings : drop place file ≡ headers
  behind_strings =
      let front : List ℕ = image ++ symbol_table symbols ++ string_table symbols ++ padding (strings_end words symbols) in
      let same : file ≡ front ++ headers = regrouped image (symbol_table symbols) (string_table symbols) (padding (strings_end words symbols)) headers in
      let last : length headers ≡ 120 = refl in
      let long : length front ≡ place = omega (arith, file_size, ap length same, length-append front headers, last) in
      ap (drop place) same ∙ subst (λ n. drop n (front ++ headers) ≡ headers) long (drop-append_seam front headers)

  module _ (fits : length file ≤ FILE_BYTES) where
    place_is : (file_header file).e_shoff ≡ place
    unfolding image_bytes word_at
    place_is = word_back place (omega (arith, file_size))

    count_is : (file_header file).e_shnum ≡ 3
    unfolding image_bytes half_at
    count_is = refl

    size_is : (file_header file).e_shentsize ≡ 40
    unfolding image_bytes half_at
    size_is = refl

    in_order : strings_end words symbols ≤ place
    in_order = omega arith

    strings_end_here : seen.section_bytes file (section_header file 2) ≡ string_table symbols
    strings_end_here = strings_are file place begin middle size place_is count_is size_is behind_strings file_size (omega arith) in_order (omega (arith, file_size))
        ∙ ap (take size) behind_table ∙ take-append_seam (string_table symbols) (padding (strings_end words symbols) ++ headers)

    module _ (routines : All IsRoutine symbols) where
      -- the empty entry, and then those of the symbols
      all_entries : filter_map (λ i. seen.symbol_at file (string_table symbols) (begin + 16 * i)) (range_with_len 0 (suc (length symbols))) ≡ map read symbols
      unfolding symbol_table string_table
      all_entries =
          let more : List ℕ = string_table symbols ++ (padding (strings_end words symbols) ++ headers) in
          let first : drop (begin + 16 * 0) file ≡ symbol_table symbols ++ more = ap (λ n. drop n file) (omega arith) ∙ behind_code in
          let rest : drop (begin + 16 * 1) file ≡ symbol_entries 1 symbols ++ more = sym (drop-drop 16 begin file) ∙ ap (drop 16) behind_code in
          ap₂ (λ o ss. cons_option o ss)
          (moved file (string_table symbols) (begin + 16 * 0) ∙ ap (λ bytes. seen.symbol_at bytes (string_table symbols) 0) first
          ∙ nothing (string_table symbols) (symbol_entries 1 symbols ++ more))
          (entries_read file (string_table symbols) more begin (omega (arith, file_size)) symbols (0 ∷ []) 1 routines rest refl)

      pub read_back : seen.symbols file ≡ map read symbols
      unfolding seen.symbols_in
      read_back =
          let count : (middle - begin) / 16 ≡ suc (length symbols) = omega arith in
          symbols_are file place begin middle size place_is count_is size_is behind_strings file_size (omega arith) in_order (omega (arith, file_size))
          ∙ ap₂ (λ strings n. filter_map (λ i. seen.symbol_at file strings (begin + 16 * i)) (range_with_len 0 n)) strings_end_here count
          ∙ all_entries

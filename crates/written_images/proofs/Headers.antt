-- The headers of a file, whose first 84 bytes are known but for three sizes.
use Rattle.std.proofs.Common.{◌≡◌, ℕ, ◌+◌, ◌-◌, ◌*◌, ◌/◌, ◌%◌, ◌^◌, ◌<◌, ◌≤◌, Bool, true, false, not, eqb, leb, ltb, ◌||◌, List, [], ◌∷◌, ◌++◌, length, map, take, filter, Some, None, refl, ap, subst, ◌∙◌, arith, ne_eqb, length-append}
use Rattle.std.specs.List.{find, list_any}
use Rattle.std.specs.Option.{option_map_or}
use Rattle.std.proofs.lemmas.Bool.{le-leb, le-ltb, lt-ltb}
use Rattle.std.proofs.Math.Seq.{take-append_seam}
use Rattle.guest_words.specs.declared.limits.TheConstants.{FILE_BYTES, PAGES}
use Rattle.elf_image.specs.Headers.{half_at, word_at, program_header_at, program_headers}
use Rattle.elf_image.specs.Image.{Executable, Segment, is_code, page_count, share_byte}
use Rattle.elf_image.specs.Reading.{image_of, names_of}
use Rattle.elf_image.specs.Segments.{header_place, holds_headers, is_load, is_occupied, load_headers, occupied_headers, segment_of, segments_of}
use Rattle.elf_image.specs.Tests.{any_two, fails_entry, fails_header_table, fails_interpreter, fails_no_load, fails_overlap, fails_pages, fails_segment_file, fails_segment_place, fails_segment_size, fails_short, first_of, first_refusal, header_tests, layout_tests, segment_tests}
use Rattle.elf_image.proofs.FirstTests.{in_third, none_fails, of_file}
use Rattle.elf_image.proofs.PageCounts.{counted_more, counted_none}
use Rattle.rv_asm.specs.Executable.{code_bytes, code_end, image_bytes, plain_file}
use Rattle.rv_asm.proofs.Sizes.{plain_size}

-- a list of one element
filter-one : {X : Type 0} (p : X → Bool) (x : X) → p x ≡ true → filter p (x ∷ []) ≡ x ∷ []
filter-one p x h = rw h refl

list_any-one : {X : Type 0} (p : X → Bool) (x : X) → p x ≡ false → list_any p (x ∷ []) ≡ false
list_any-one p x h = rw h refl

find-one : {X : Type 0} (p : X → Bool) (x : X) → p x ≡ true → find p (x ∷ []) ≡ Some x
find-one p x h = rw h refl

-- a field of four bytes
pub word_back : (n : ℕ) → n < 2 ^ 32 → n % 256 + 256 * (n / 256 % 256 + 256 * (n / 65536 % 256 + 256 * (n / 16777216 % 256 + 0))) ≡ n
word_back n fits = omega arith

-- the segment of the headers and the code
abbrev pub the_segment : ℕ → List ℕ → Segment
the_segment size bytes = record { place = 0x10000; size = size; rights = record { read = true; write = true; exec = true }; bytes = bytes }

-- the executable of a file with this segment
abbrev pub the_image : Segment → List ℕ → Executable
the_image segment file = record { entry = 0x10054; header_place = 0x10034; header_count = 1; segments = segment ∷ []; names = names_of file }

module _ (size : ℕ) (bytes : List ℕ) (low : 84 < size) (high : size ≤ FILE_BYTES) where
  -- the entry is in the segment
  runs : is_code (the_segment size bytes ∷ []) 0x10054 ≡ true
  runs = rw (lt-ltb 0x10054 (0x10000 + size) (omega arith)) refl

  -- the segment touches few pages
  few : ltb PAGES (page_count (the_segment size bytes ∷ [])) ≡ false
  few =
      let counted = counted_more [] (the_segment size bytes) 0 0 0 (counted_none 0) (omega arith) (omega arith) (omega arith) in
      le-ltb PAGES (page_count (the_segment size bytes ∷ [])) (omega (arith, counted.count))

module _ (words : List ℕ) (shoff shnum : ℕ) where
  -- the bytes of the headers and the code
  pub image_size : length (image_bytes words shoff shnum) ≡ code_end (length words)
  unfolding image_bytes plain_file
  image_size = plain_size words

  module _ (rest : List ℕ) where
    abbrev file : List ℕ
    file = image_bytes words shoff shnum ++ rest

    -- the file is as long as its headers and its code, and longer
    file_size : length file ≡ code_end (length words) + length rest
    file_size = length-append (image_bytes words shoff shnum) rest ∙ ap (λ n. n + length rest) image_size

    -- its first bytes are the headers, and then the code
    loaded : take (code_end (length words)) file ≡ take 84 file ++ code_bytes words
    unfolding image_bytes
    loaded = subst (λ (n : ℕ). take n file ≡ image_bytes words shoff shnum) image_size (take-append_seam (image_bytes words shoff shnum) rest)

    module _ (some : 1 ≤ length words) (fits : code_end (length words) ≤ FILE_BYTES) where
      -- the tests of the file header
      header_passes : first_of (header_tests file) ≡ None
      unfolding image_bytes half_at word_at
      header_passes =
          let long : fails_short file ≡ false = le-ltb (length file) 52 (omega (arith, file_size)) in
          let whole : fails_header_table file ≡ false = le-ltb (length file) 84 (omega (arith, file_size)) in
          none_fails (header_tests file) (search (long, whole))

      -- the one program header, of a load segment that takes memory
      program_headers_are : program_headers file ≡ program_header_at file 52 ∷ []
      unfolding image_bytes half_at word_at program_headers
      program_headers_are = refl

      size_is : (program_header_at file 52).p_memsz ≡ code_end (length words)
      unfolding image_bytes word_at
      size_is = word_back (code_end (length words)) (omega arith)

      part_is : (program_header_at file 52).p_filesz ≡ code_end (length words)
      unfolding image_bytes word_at
      part_is = word_back (code_end (length words)) (omega arith)

      loads_are : load_headers file ≡ program_header_at file 52 ∷ []
      unfolding image_bytes word_at load_headers
      loads_are = ap (filter is_load) program_headers_are

      occupied_are : occupied_headers file ≡ program_header_at file 52 ∷ []
      unfolding occupied_headers
      occupied_are = ap (filter is_occupied) loads_are
          ∙ filter-one is_occupied (program_header_at file 52) (rw size_is (ap not (ne_eqb (code_end (length words)) 0 (omega arith))))

      segments_are : segments_of file ≡ the_segment (code_end (length words)) (take (code_end (length words)) file) ∷ []
      unfolding image_bytes word_at
      segments_are = ap (map (segment_of file)) occupied_are
          ∙ ap (λ n. the_segment n (take n file) ∷ []) size_is

      -- the tests of that header
      interpreter : fails_interpreter file ≡ false
      unfolding image_bytes word_at
      interpreter = ap (list_any (λ h. eqb h.p_type 3)) program_headers_are

      segment_file : fails_segment_file file ≡ false
      unfolding image_bytes word_at
      segment_file = ap (list_any (λ h. ltb (length file) (h.p_offset + h.p_filesz))) loads_are
          ∙ list_any-one (λ h. ltb (length file) (h.p_offset + h.p_filesz)) (program_header_at file 52)
          (ap (λ n. ltb (length file) (0 + n)) part_is ∙ le-ltb (length file) (0 + code_end (length words)) (omega (arith, file_size)))

      segment_size : fails_segment_size file ≡ false
      segment_size = ap (list_any (λ h. ltb h.p_memsz h.p_filesz)) loads_are
          ∙ list_any-one (λ h. ltb h.p_memsz h.p_filesz) (program_header_at file 52)
          (rw (part_is, size_is) (le-ltb (code_end (length words)) (code_end (length words)) (omega arith)))

      segment_place : fails_segment_place file ≡ false
      unfolding image_bytes word_at
      segment_place = ap (list_any (λ h. ltb h.p_vaddr 0x1000 || ltb 0x40000000 (h.p_vaddr + h.p_memsz))) occupied_are
          ∙ list_any-one (λ h. ltb h.p_vaddr 0x1000 || ltb 0x40000000 (h.p_vaddr + h.p_memsz)) (program_header_at file 52)
          (ap (λ n. ltb 0x40000000 (0x10000 + n)) size_is ∙ le-ltb 0x40000000 (0x10000 + code_end (length words)) (omega arith))

      segment_passes : first_of (segment_tests file) ≡ None
      segment_passes = none_fails (segment_tests file) (search (interpreter, segment_file, segment_size, segment_place))

      -- the tests of its segment
      enters : fails_entry file ≡ false
      unfolding image_bytes half_at word_at
      enters = ap (λ s. not (is_code s 0x10054)) segments_are
          ∙ ap not (runs (code_end (length words)) (take (code_end (length words)) file) (omega arith) fits)

      pages : fails_pages file ≡ false
      pages = ap (λ s. ltb PAGES (page_count s)) segments_are
          ∙ few (code_end (length words)) (take (code_end (length words)) file) (omega arith) fits

      overlap : fails_overlap file ≡ false
      overlap = ap (any_two share_byte) segments_are

      no_load : fails_no_load file ≡ false
      no_load = ap (λ s. eqb (length s) 0) segments_are

      layout_passes : first_of (layout_tests file) ≡ None
      layout_passes = none_fails (layout_tests file) (search (overlap, no_load, enters, pages))

      pub passes : first_refusal file ≡ None
      passes = of_file file ∙ in_third _ _ _ None header_passes segment_passes layout_passes

      -- the segment holds the program header
      holds : holds_headers file (program_header_at file 52) ≡ true
      unfolding image_bytes half_at word_at
      holds = ap (λ n. leb 84 (0 + n)) part_is ∙ le-leb 84 (0 + code_end (length words)) (omega arith)

      place_is : header_place file ≡ 0x10034
      unfolding image_bytes half_at word_at
      place_is = ap (λ o. option_map_or (λ h. h.p_vaddr + (52 - h.p_offset)) o 0)
          (ap (find (holds_headers file)) occupied_are ∙ find-one (holds_headers file) (program_header_at file 52) holds)

      pub image_is : image_of file ≡ the_image (the_segment (code_end (length words)) (take 84 file ++ code_bytes words)) file
      unfolding image_bytes half_at word_at
      image_is = rw (place_is, segments_are, loaded) refl

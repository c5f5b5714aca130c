-- The executable of a file, from its parts.
use Rattle.std.proofs.Common.{◌≡◌, ℕ, ◌^◌, ◌<◌, ◌≤◌, List, map, None, refl, ap, sym, ◌∙◌, arith}
use Rattle.std.specs.List.{All, AllPairs}
use Rattle.std.proofs.lemmas.List.Elements.{All-weaker}
use Rattle.elf_image.specs.declared.headers.FileHeader.{FileHeader}
use Rattle.elf_image.specs.Symbols.{Symbol}
use Rattle.elf_image.specs.Fields.{IsFilled}
use Rattle.elf_image.specs.Private.FirstSymbols.{AreFirst}
use Rattle.elf_image.specs.Headers.{file_header}
use Rattle.elf_image.specs.Image.{Segment, page_count}
use Rattle.elf_image.specs.Reading.{image_of, names_of}
use Rattle.elf_image.specs.Segments.{header_place, segments_of}
use Rattle.elf_image.specs.Symbols.{symbols}
use Rattle.elf_image.specs.Tests.{first_of, layout_tests, segment_tests}
use Rattle.elf_image.proofs.NameLists.{named, names_are}
use Rattle.elf_image.proofs.Sound.{sound_from}

-- what the fields of its image keep
pub filled_from : (file : List ℕ) (header : FileHeader) (place pages : ℕ) (segments : List Segment) (first : List Symbol)
    → header ≡ file_header file → segments ≡ segments_of file → pages ≡ page_count (segments_of file)
    → first_of (segment_tests file) ≡ None → first_of (layout_tests file) ≡ None → place < 2 ^ 32 → header.e_phnum < 65535
    → AllPairs (λ s t. s.value < t.value) first
    → IsFilled (record { entry = header.e_entry; header_place = place; header_count = header.e_phnum; segments = segments; names = map named first }) pages first
filled_from file header place pages segments first whole loaded counted passed laid low short rising =
    let few : (file_header file).e_phnum < 65535 = rw whole at short in
    record {
      sound = rw (whole, loaded) (sound_from file passed laid place (file_header file).e_phnum (map named first) low few);
      counted = counted ∙ ap page_count (sym loaded);
      rising = rising;
    }

-- its parts are those of the file
pub image_is : (file : List ℕ) (header : FileHeader) (place : ℕ) (segments : List Segment) (names : List (ℕ × List ℕ))
    → header ≡ file_header file → place ≡ header_place file → segments ≡ segments_of file → names ≡ names_of file
    → record { entry = header.e_entry; header_place = place; header_count = header.e_phnum; segments = segments; names = names } ≡ image_of file
image_is file header place segments names whole placed loaded listed = rw (whole, placed, loaded, listed) refl

-- its names are those of the file
pub names_from : (file : List ℕ) (first : List Symbol) → AreFirst (symbols file) first → All (λ s. s.value < 2 ^ 32) (symbols file) → map named first ≡ names_of file
names_from file first are fit =
    let low : All (λ (s : Symbol). s.value ≤ 0xffffffff) (symbols file) = All-weaker (λ (s : Symbol). s.value < 2 ^ 32) (λ (s : Symbol). s.value ≤ 0xffffffff) (λ s h. omega arith) (symbols file) fit in
    names_are file first are.rising are.found
    (All-weaker (λ (s : Symbol). s.value ≤ 0xffffffff) (λ (s : Symbol). s.value < 2 ^ 32) (λ s h. omega arith) first (are.bounded 0xffffffff low))

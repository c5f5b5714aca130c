-- The executable of a file.
use Rattle.std.specs.Prelude.{ℕ, ◌^◌, List, Option, option_map}
use Rattle.std.specs.List.{filter_map, range_with_len}
use Rattle.elf_image.specs.Headers.{file_header}
use Rattle.elf_image.specs.Image.{Executable}
use Rattle.elf_image.specs.Segments.{header_place, segments_of}
use Rattle.elf_image.specs.Symbols.{symbol_of, symbols}

-- the name that a file gives to an address, if it gives one
abbrev pub name_at : List ℕ → ℕ → Option (List ℕ)
name_at file at = option_map (λ s. s.name) (symbol_of (symbols file) at)

-- how many addresses there are
unfoldable pub addresses : ℕ
addresses = 2 ^ 32

-- the addresses that have a name, rising, each with its name
unfoldable pub names_of : List ℕ → List (ℕ × List ℕ)
names_of file = filter_map (λ at. option_map (λ name. (at, name)) (name_at file at)) (range_with_len 0 addresses)

-- the executable of a file that no test refuses
abbrev pub image_of : List ℕ → Executable
image_of file = record {
  entry = (file_header file).e_entry;
  header_place = header_place file;
  header_count = (file_header file).e_phnum;
  segments = segments_of file;
  names = names_of file;
}

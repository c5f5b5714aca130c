-- What is read of the files that the assembler writes.
use Rattle.std.specs.Prelude.{◌≡◌, ℕ, ◌^◌, ◌<◌, ◌≤◌, ◌==◌, true, false, List, [], ◌∷◌, ◌++◌, length, map, filter, take, All}
use Rattle.std.specs.List.{Contains}
use Rattle.std.specs.Ordering.{is_lt, nat_cmp}
use Rattle.std.specs.Cmp.Lexicographic.{slice_cmp}
use Rattle.guest_words.specs.declared.limits.TheConstants.{FILE_BYTES}
use Rattle.guest_words.specs.Names.{is_name}
use Rattle.elf_image.specs.Image.{Executable, Segment}
use Rattle.elf_image.specs.Reading.{names_of}
use Rattle.rv_asm.specs.declared.executable.Symbol.{Symbol}
use Rattle.rv_asm.specs.Executable.{code_bytes, code_end, executable}

-- A program and symbols of which a file is written: the program has a word, and the file is not too large.
pub record IsWritten (words : List ℕ) (symbols : List Symbol) : Type 0 where
  pub some : 1 ≤ length words
  pub size : length (executable words symbols) ≤ FILE_BYTES

-- the segment of a file: its headers, which are its first 84 bytes, and the code, at 0x10000, to be read, written and run
abbrev pub written_segment : List ℕ → List Symbol → Segment
written_segment words symbols = record {
  place = 0x10000;
  size = code_end (length words);
  rights = record { read = true; write = true; exec = true };
  bytes = take 84 (executable words symbols) ++ code_bytes words;
}

-- the executable of a file, which begins to run at the first word of the code
abbrev pub written_image : List ℕ → List Symbol → Executable
written_image words symbols = record {
  entry = 0x10054;
  header_place = 0x10034;
  header_count = 1;
  segments = written_segment words symbols ∷ [];
  names = names_of (executable words symbols);
}

-- A symbol of a routine has a name that a report can show, at an address of 32 bits.
pub record IsRoutine (s : Symbol) : Type 0 where
  pub name : is_name s.name ≡ true
  pub address : s.at < 2 ^ 32

-- the names of the symbols at an address
abbrev pub names_at : List Symbol → ℕ → List (List ℕ)
names_at symbols at = map (λ s. s.name) (filter (λ s. s.at == at) symbols)

-- The name is one of these, and none of them is less, byte by byte.
pub record IsLeast (names : List (List ℕ)) (name : List ℕ) : Type 0 where
  pub given : Contains names name
  pub least : All (λ other. is_lt (slice_cmp nat_cmp other name) ≡ false) names

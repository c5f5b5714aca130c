-- The names of each file.
use Rattle.std.proofs.Common.{◌≡◌, ℕ, ◌≤◌, Bool, true, false, eqb, List, [], ◌∷◌, length, map, None, if◌then◌else◌, refl, sym, ap, subst}
use Rattle.std.specs.List.{All, find}
use Rattle.std.specs.Option.{MatchOption, option_map_or}
use Rattle.guest_words.specs.declared.limits.TheConstants.{FILE_BYTES}
use Rattle.elf_image.specs.Headers as seen_headers
use Rattle.elf_image.specs.Reading.{name_at}
use Rattle.elf_image.specs.Symbols as seen
use Rattle.rv_asm.specs.declared.executable.Symbol.{Symbol}
use Rattle.rv_asm.specs.Executable.{executable, image_bytes, plain_file}
use Rattle.written_images.specs.Written.{IsLeast, IsRoutine, IsWritten, names_at}
use Rattle.written_images.proofs.Entries.{read}
use Rattle.written_images.proofs.Files.{with_tables}
use Rattle.written_images.proofs.Least.{name_of, names_read}
use Rattle.written_images.proofs.Named.{read_back}

-- a file without symbols has no section
none : (words : List ℕ) → seen.symbols (plain_file words) ≡ []
unfolding plain_file image_bytes seen_headers.half_at seen_headers.section_headers seen.symbols
none words = ap (λ o. option_map_or (λ table. if seen.is_readable (plain_file words) table then seen.symbols_in (plain_file words) table else []) o []) (either (seen.has_sections (plain_file words)))
  where
    either : (b : Bool) → (if b then find (λ s. eqb s.sh_type 2) (seen_headers.section_headers (plain_file words)) else None) ≡ None
    either true = refl
    either false = refl

all_symbols : (words : List ℕ) (symbols : List Symbol) → IsWritten words symbols → All IsRoutine symbols → seen.symbols (executable words symbols) ≡ map read symbols
all_symbols words [] w routines = none words
all_symbols words (s ∷ rest) w routines =
    let same = with_tables words s rest in
    subst (λ file. seen.symbols file ≡ map read (s ∷ rest)) same
    (read_back words (s ∷ rest) (subst (λ file. length file ≤ FILE_BYTES) (sym same) w.size) routines)

pub names : (words : List ℕ) (symbols : List Symbol) → IsWritten words symbols → All IsRoutine symbols → (at : ℕ)
    → MatchOption (name_at (executable words symbols) at) (names_at symbols at ≡ []) (IsLeast (names_at symbols at))
names words symbols w routines at =
    subst (λ ss. MatchOption (name_of (seen.symbol_of ss at)) (names_at symbols at ≡ []) (IsLeast (names_at symbols at)))
    (sym (all_symbols words symbols w routines)) (names_read symbols at)

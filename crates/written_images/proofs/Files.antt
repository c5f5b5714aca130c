-- A file with symbols and one without begin alike.
use Rattle.std.proofs.Common.{◌≡◌, ℕ, ◌+◌, ◌≤◌, List, [], ◌∷◌, ◌++◌, length, take, None, ap, subst, sym, ◌∙◌, arith, append-nil, append_assoc, length-append, ne_eqb, if◌then◌else◌}
use Rattle.guest_words.specs.declared.limits.TheConstants.{FILE_BYTES}
use Rattle.elf_image.specs.Reading.{image_of}
use Rattle.elf_image.specs.Tests.{first_refusal}
use Rattle.rv_asm.specs.declared.executable.Symbol.{Symbol}
use Rattle.rv_asm.specs.Executable.{aligned, code_end, executable, image_bytes, code_bytes, named_file, padding, plain_file, section_headers, string_table, strings_begin, strings_end, symbol_table}
use Rattle.written_images.specs.Written.{IsWritten, written_image}
use Rattle.written_images.proofs.Headers.{image_is, image_size, passes, the_image, the_segment}

-- what follows the code where there are symbols
abbrev pub tables : List ℕ → List Symbol → List ℕ
tables words symbols =
    symbol_table symbols ++ (string_table symbols ++ (padding (strings_end words symbols)
    ++ section_headers (code_end (length words)) (strings_begin words symbols) (length (string_table symbols))))

-- five parts, joined from the last or from the first
pub regrouped : (a b d e f : List ℕ) → a ++ (b ++ (d ++ (e ++ f))) ≡ a ++ b ++ d ++ e ++ f
regrouped a b d e f = simp append_assoc

-- the file where there is a symbol
named_is : (words : List ℕ) (s : Symbol) (rest : List Symbol) → named_file words (s ∷ rest) ≡ executable words (s ∷ rest)
named_is words s rest = sym (ap (λ b. if b then plain_file words else named_file words (s ∷ rest)) (ne_eqb (length (s ∷ rest)) 0 (omega arith)))

pub with_tables : (words : List ℕ) (s : Symbol) (rest : List Symbol)
    → image_bytes words (aligned (strings_end words (s ∷ rest))) 3 ++ tables words (s ∷ rest) ≡ executable words (s ∷ rest)
unfolding named_file
with_tables words s rest = regrouped (image_bytes words (aligned (strings_end words (s ∷ rest))) 3) (symbol_table (s ∷ rest)) (string_table (s ∷ rest))
    (padding (strings_end words (s ∷ rest))) (section_headers (code_end (length words)) (strings_begin words (s ∷ rest)) (length (string_table (s ∷ rest))))
    ∙ named_is words s rest

-- what holds of each headers and code with a rest holds of each file
pub of_file : (P : List ℕ → Type 0) (words : List ℕ) (symbols : List Symbol)
    → ((shoff shnum : ℕ) (rest : List ℕ) → image_bytes words shoff shnum ++ rest ≡ executable words symbols → P (image_bytes words shoff shnum ++ rest))
    → P (executable words symbols)
unfolding plain_file
of_file P words [] each = let same = append-nil (image_bytes words 0 0) in subst P same (each 0 0 [] same)
of_file P words (s ∷ rest) each =
    let same = with_tables words s rest in
    subst P same (each (aligned (strings_end words (s ∷ rest))) 3 (tables words (s ∷ rest)) same)

-- the headers and the code are not too large where the file is not
small : (words : List ℕ) (shoff shnum : ℕ) (rest file : List ℕ) → image_bytes words shoff shnum ++ rest ≡ file → length file ≤ FILE_BYTES
    → code_end (length words) ≤ FILE_BYTES
small words shoff shnum rest file same size =
    let long : length (image_bytes words shoff shnum) + length rest ≡ length file = sym (length-append (image_bytes words shoff shnum) rest) ∙ ap length same in
    omega (arith, long, image_size words shoff shnum)

pub accepted : (words : List ℕ) (symbols : List Symbol) → IsWritten words symbols → first_refusal (executable words symbols) ≡ None
accepted words symbols w = of_file (λ file. first_refusal file ≡ None) words symbols (λ shoff shnum rest same.
    passes words shoff shnum rest w.some (small words shoff shnum rest (executable words symbols) same w.size))

pub image : (words : List ℕ) (symbols : List Symbol) → IsWritten words symbols → image_of (executable words symbols) ≡ written_image words symbols
image words symbols w = of_file (λ file. image_of file ≡ the_image (the_segment (code_end (length words)) (take 84 file ++ code_bytes words)) file) words symbols
    (λ shoff shnum rest same. image_is words shoff shnum rest w.some (small words shoff shnum rest (executable words symbols) same w.size))

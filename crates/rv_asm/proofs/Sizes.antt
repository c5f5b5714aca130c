-- How many bytes an executable and its parts have.
use Rattle.std.proofs.Common.{◌≡◌, ℕ, ◌+◌, ◌-◌, ◌*◌, ◌≤◌, List, [], ◌∷◌, ◌++◌, length, refl, arith, sym, ◌∙◌, length-append}
use Rattle.std.specs.Prelude.{Bool, true, false, ◌==◌}
use Rattle.std.specs.Int.{to_le_bytes, w32}
use Rattle.std.specs.List.{flat_map}
use Rattle.std.proofs.lemmas.List.{length-replicate}
use Rattle.guest_words.specs.declared.limits.TheConstants.{FILE_BYTES}
use Rattle.rv_asm.specs.declared.executable.Symbol.{Symbol}
use Rattle.rv_asm.specs.Executable.{aligned, code_bytes, executable, image_bytes, named_file, padding, plain_file, string_of, string_table, strings_end, symbol_entries, symbol_entry, symbol_table}
use Rattle.rv_asm.specs.Fields.{bytes_of, symbol_fields}

-- four bytes a word
code_size : (words : List ℕ) → length (code_bytes words) ≡ 4 * length words
code_size [] = refl
code_size (w ∷ ws) =
    let one : length (to_le_bytes w32 w) ≡ 4 = refl in
    omega (arith, code_size ws, length-append (to_le_bytes w32 w) (code_bytes ws))

-- sixteen bytes an entry
entries_size : (st_name : ℕ) (symbols : List Symbol) → length (symbol_entries st_name symbols) ≡ 16 * length symbols
entries_size st_name [] = refl
entries_size st_name (x ∷ xs) =
    let one : length (bytes_of (symbol_fields (symbol_entry st_name x))) ≡ 16 = refl in
    let next : ℕ = st_name + (length (x.name ++ 0 ∷ [])) in
    omega (arith, entries_size next xs, length-append (bytes_of (symbol_fields (symbol_entry st_name x))) (symbol_entries next xs))

pub table_size : (symbols : List Symbol) → length (symbol_table symbols) ≡ 16 * (length symbols + 1)
unfolding symbol_table
table_size symbols = omega (arith, entries_size 1 symbols, length-append {A = ℕ})

image_size : (words : List ℕ) (e_shoff e_shnum : ℕ) → length (image_bytes words e_shoff e_shnum) ≡ 84 + 4 * length words
unfolding image_bytes
image_size words e_shoff e_shnum = omega (arith, code_size words, length-append {A = ℕ})

strings_size : (symbols : List Symbol) → length (string_table symbols) ≡ 1 + length (flat_map string_of symbols)
unfolding string_table
strings_size symbols = omega arith

padding_size : (n : ℕ) → n + length (padding n) ≡ aligned n
padding_size n = omega (arith, length-replicate {A = ℕ} (aligned n - n) 0)

-- the headers and the code
pub plain_size : (words : List ℕ) → length (plain_file words) ≡ 84 + 4 * length words
unfolding plain_file
plain_size words = image_size words 0 0

-- the section headers end the file
pub named_size : (words : List ℕ) (symbols : List Symbol) → length (named_file words symbols) ≡ aligned (strings_end words symbols) + 120
unfolding named_file
named_size words symbols =
    omega (arith, image_size words (aligned (strings_end words symbols)) 3, table_size symbols, padding_size (strings_end words symbols), length-append {A = ℕ})

-- an executable without symbols, and one with symbols
plain_is : (words : List ℕ) (symbols : List Symbol) (is_empty : Bool) → is_empty ≡ (length symbols == 0) → is_empty ≡ true
    → length (executable words symbols) ≡ length (plain_file words)
plain_is words symbols is_empty test is = rw (sym test ∙ is)

named_is : (words : List ℕ) (symbols : List Symbol) (is_empty : Bool) → is_empty ≡ (length symbols == 0) → is_empty ≡ false
    → length (executable words symbols) ≡ length (named_file words symbols)
named_is words symbols is_empty test is = rw (sym test ∙ is)

-- what an executable that is not too large says of its parts
pub plain_within : (words : List ℕ) (symbols : List Symbol) (is_empty : Bool) → is_empty ≡ (length symbols == 0) → is_empty ≡ true
    → length (executable words symbols) ≤ FILE_BYTES → 4 * length words ≤ FILE_BYTES
plain_within words symbols is_empty test is size = omega (arith, plain_is words symbols is_empty test is, plain_size words)

pub named_within : (words : List ℕ) (symbols : List Symbol) (is_empty : Bool) → is_empty ≡ (length symbols == 0) → is_empty ≡ false
    → length (executable words symbols) ≤ FILE_BYTES → strings_end words symbols ≤ FILE_BYTES
named_within words symbols is_empty test is size = omega (arith, named_is words symbols is_empty test is, named_size words symbols)

within : (words : List ℕ) (symbols : List Symbol) (is_empty : Bool) → is_empty ≡ (length symbols == 0)
    → length (executable words symbols) ≤ 224 + 4 * length words + 16 * length symbols + length (flat_map string_of symbols)
within words symbols true test = omega (arith, plain_is words symbols true test refl, plain_size words)
within words symbols false test = omega (arith, named_is words symbols false test refl, named_size words symbols, strings_size symbols)

-- an executable is not much larger than its code, its symbols and their names
pub executable_within : (words : List ℕ) (symbols : List Symbol)
    → length (executable words symbols) ≤ 224 + 4 * length words + 16 * length symbols + length (flat_map string_of symbols)
executable_within words symbols = within words symbols (length symbols == 0) refl

-- The demo's executable is not too large.
use Rattle.std.proofs.Common.{◌≡◌, ℕ, zero, suc, ◌+◌, ◌*◌, ◌≤◌, List, [], ◌∷◌, ◌++◌, length, map, Some, decimal, ap, sym, ◌∙◌, refl, arith, length-append}
use Rattle.std.specs.List.{flat_map, range_with_len}
use Rattle.std.proofs.lemmas.Fmt.{length-decimal-le}
use Rattle.std.proofs.lemmas.List.{length-map}
use Rattle.std.proofs.lemmas.List.FromFn.{length-map-range_with_len}
use Rattle.guest_words.specs.declared.limits.TheConstants.{DEMO_ROUTINES}
use Rattle.rv_isa.specs.declared.instruction.Instr.{Instr}
use Rattle.rv_isa.specs.Table.{decoded}
use Rattle.rv_asm.specs.Executable.{code_end, executable, string_of}
use Rattle.rv_asm.proofs.Sizes.{executable_within}
use Rattle.elf_image.specs.Image.{page_count}
use Rattle.elf_image.proofs.PageCounts.{counted_more, counted_none}
use Rattle.written_images.specs.Written.{written_segment, IsWritten}
use Rattle.demo_guest.specs.Guest.{call, ending, instructions, routine_code, start, words_before}
use Rattle.demo_guest.specs.Image.{routine_symbol, symbols}
use Rattle.demo_guest.proofs.Lines.{code_size}
use Rattle.demo_guest.proofs.Ranges.{flat_map_more, words_more, words_none, words_within}

calls_size : (n k m : ℕ) → length (flat_map (call n) (range_with_len k m)) ≡ 2 * m
calls_size n k zero = refl
calls_size n k (suc m) = omega (arith, calls_size n (k + 1) m)

routines_size : (n : ℕ) → length (flat_map routine_code (range_with_len 0 n)) ≡ words_before n
routines_size zero = omega (arith, words_none)
routines_size (suc n) =
    let same : suc n ≡ n + 1 = omega arith in
    let joined : length (flat_map routine_code (range_with_len 0 (n + 1))) ≡ length (flat_map routine_code (range_with_len 0 n)) + length (routine_code n)
    = ap length (flat_map_more routine_code n) ∙ length-append (flat_map routine_code (range_with_len 0 n)) (routine_code n) in
    omega (arith, ap (λ (m : ℕ). length (flat_map routine_code (range_with_len 0 m))) same, ap words_before same, joined, code_size n, words_more n, routines_size n)

code_length : (n : ℕ) → length (instructions n) ≡ 13 + 2 * n + words_before n
unfolding instructions
code_length n =
    let calls : List Instr = flat_map (call n) (range_with_len 0 n) in
    let routines : List Instr = flat_map routine_code (range_with_len 0 n) in
    omega (arith, length-append start (calls ++ (ending ++ routines)), length-append calls (ending ++ routines), length-append ending routines, calls_size n 0 n, routines_size n)

pub words_size : (n : ℕ) (words : List ℕ) → map decoded words ≡ map Some (instructions n) → length words ≡ 13 + 2 * n + words_before n
words_size n words each = sym (length-map words decoded) ∙ ap length each ∙ length-map (instructions n) Some ∙ code_length n

symbols_length : (n : ℕ) → length (symbols n) ≡ 2 + n
unfolding symbols
symbols_length n = omega (arith, length-map-range_with_len (routine_symbol n) 0 n)

-- each name has at most 22 bytes with its end
routine_names : (n k m : ℕ) → k + m ≤ DEMO_ROUTINES → length (flat_map string_of (map (routine_symbol n) (range_with_len k m))) ≤ 22 * m
routine_names n k zero few = omega arith
routine_names n k (suc m) few =
    let rest : List ℕ = flat_map string_of (map (routine_symbol n) (range_with_len (k + 1) m)) in
    omega (
      arith,
      routine_names n (k + 1) m (omega (arith, few)),
      length-decimal-le 20 (k + 1) (omega arith) (omega (arith, few)) (omega (arith, few)),
      length-append (string_of (routine_symbol n k)) rest,
      length-append (114 ∷ decimal (k + 1)) (0 ∷ []),
    )

names_length : (n : ℕ) → n ≤ DEMO_ROUTINES → length (flat_map string_of (symbols n)) ≤ 15 + 22 * n
unfolding symbols
names_length n few =
    let all : 0 + n ≤ DEMO_ROUTINES = omega (arith, few) in
    omega (arith, routine_names n 0 n all)

-- three of sixteen mebibytes
pub file_size : (n : ℕ) (words : List ℕ) → n ≤ DEMO_ROUTINES → map decoded words ≡ map Some (instructions n) → length (executable words (symbols n)) ≤ 3000000
file_size n words few each =
    omega (arith, executable_within words (symbols n), words_size n words each, words_within n, symbols_length n, names_length n few)

pub is_written : (n : ℕ) (words : List ℕ) → n ≤ DEMO_ROUTINES → map decoded words ≡ map Some (instructions n) → IsWritten words (symbols n)
is_written n words few each = record {
  some = omega (arith, words_size n words each);
  size = omega (arith, file_size n words few each);
}

-- the headers and the code are on few pages
pub few_pages : (n : ℕ) (words : List ℕ) → n ≤ DEMO_ROUTINES → map decoded words ≡ map Some (instructions n) → page_count (written_segment words (symbols n) ∷ []) ≤ 14336
few_pages n words few each =
    let size : code_end (length words) ≤ 2000000 = omega (arith, words_size n words each, words_within n) in
    let counted = counted_more [] (written_segment words (symbols n)) 0 0 0 (counted_none 0) (omega arith) (omega (arith, size)) (omega arith) in
    omega (arith, counted.count, size)

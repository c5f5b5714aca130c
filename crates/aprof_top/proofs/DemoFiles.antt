-- The demo has an executable: each of its instructions has a word.
use Rattle.std.proofs.Common.{◌≡◌, ℕ, zero, suc, ◌+◌, ◌-◌, ◌*◌, ◌/◌, ◌%◌, ◌^◌, ◌<◌, ◌≤◌, List, [], ◌∷◌, ◌++◌, map, Some, refl, sym, ap, ap₂, ◌∙◌, subst, arith}
use Rattle.std.specs.Prelude.{ℤ, pos}
use Rattle.std.specs.List.{AllByRecursion, flat_map, range_with_len}
use Rattle.std.proofs.lemmas.Bool.Decides.{nat_tests}
use Rattle.std.proofs.lemmas.List.{map-append}
use Rattle.std.proofs.lemmas.List.FromFn.{length-range_with_len}
use Rattle.std.proofs.lemmas.List.Sums.{sum_by-le}
use Rattle.guest_words.specs.declared.limits.TheConstants.{DEMO_ROUTINES}
use Rattle.rv_asm.specs.Assembled.{offset_between}
use Rattle.rv_asm.specs.Executable.{executable}
use Rattle.rv_isa.specs.Fields.{immediate_j, opcode, rd}
use Rattle.rv_isa.specs.Table.{decoded, table}
use Rattle.rv_isa.specs.declared.instruction.Instr.{Instr}
use Rattle.rv_isa.specs.declared.instruction.Instr.TheVariants.{Jal, Jalr, Ecall}
use Rattle.rv_isa.proofs.Rows.{jump_and_link}
use Rattle.demo_guest.specs.Guest.{call, ending, instructions, load, reads, routine_code, routine_start, start, words_before}
use Rattle.demo_guest.specs.Image.{IsDemoFile, symbols}

-- Words of 32 bits stand for the instructions.
record HaveWords (is : List Instr) : Type 0 where
  words : List ℕ
  fit : AllByRecursion (λ word. word < 2 ^ 32) words
  instructions : map decoded words ≡ map Some is

fit-append : (xs ys : List ℕ) → AllByRecursion (λ word. word < 2 ^ 32) xs → AllByRecursion (λ word. word < 2 ^ 32) ys → AllByRecursion (λ word. word < 2 ^ 32) (xs ++ ys)
fit-append [] ys front back = back
fit-append (x ∷ xs) ys front back = (front.0, fit-append xs ys front.1 back)

words-append : (is js : List Instr) → HaveWords is → HaveWords js → HaveWords (is ++ js)
words-append is js front back = record {
  words = front.words ++ back.words;
  fit = fit-append front.words back.words front.fit back.fit;
  instructions = map-append decoded front.words back.words ∙ ap₂ (λ xs ys. xs ++ ys) front.instructions back.instructions ∙ sym (map-append Some is js);
}

no_words : HaveWords []
no_words = record { words = []; fit = tt; instructions = refl }

start_words : HaveWords start
unfolding decoded table
start_words = record {
  words = 0xc001_0313 ∷ 0x0001_1537 ∷ 0x9005_0513 ∷ 0x0dc0_0893 ∷ 0x0000_0073 ∷ 0x07c0_0893 ∷ 0x0005_1863 ∷ 0x0003_2023 ∷ 0x0000_0073 ∷ 0xff9f_f06f ∷ [];
  fit = omega arith;
  instructions = refl;
}

ending_words : HaveWords ending
unfolding decoded table
ending_words = record { words = 0x0000_0513 ∷ 0x05e0_0893 ∷ 0x0000_0073 ∷ []; fit = omega arith; instructions = refl }

back_word : HaveWords (Jalr 0 1 (pos 0) ∷ [])
unfolding decoded table
back_word = record { words = 0x0000_8067 ∷ []; fit = omega arith; instructions = refl }

turn_word : HaveWords (Ecall ∷ [])
unfolding decoded table
turn_word = record { words = 0x0000_0073 ∷ []; fit = omega arith; instructions = refl }

load_word : (k : ℕ) → k < 4 → HaveWords (load k ∷ [])
unfolding decoded table
load_word zero small = record { words = 0x0003_2383 ∷ []; fit = omega arith; instructions = refl }
load_word (suc zero) small = record { words = 0x0043_2383 ∷ []; fit = omega arith; instructions = refl }
load_word (suc (suc zero)) small = record { words = 0x0083_2383 ∷ []; fit = omega arith; instructions = refl }
load_word (suc (suc (suc zero))) small = record { words = 0x00c3_2383 ∷ []; fit = omega arith; instructions = refl }
load_word (suc (suc (suc (suc k)))) small = absurd (omega (arith, small))

loads_words : (k m : ℕ) → k + m ≤ 4 → HaveWords (map load (range_with_len k m))
loads_words k zero few = no_words
loads_words k (suc m) few = words-append (load k ∷ []) (map load (range_with_len (k + 1) m)) (load_word k (omega arith)) (loads_words (k + 1) m (omega (arith, few)))

routines_words : (xs : List ℕ) → HaveWords (flat_map routine_code xs)
routines_words [] = no_words
routines_words (x ∷ xs) =
    words-append (routine_code x) (flat_map routine_code xs)
    (words-append (map load (range_with_len 0 (reads x))) (Jalr 0 1 (pos 0) ∷ []) (loads_words 0 (reads x) (omega arith)) back_word)
    (routines_words xs)

-- the word of a jump forward, by four times a number below 2 ^ 18, which links x1
abbrev jump : ℕ → ℕ
jump n = 0x6F + 2 ^ 7 + n / 2 ^ 10 % 2 ^ 8 * 2 ^ 12 + n / 2 ^ 9 % 2 * 2 ^ 20 + n % 2 ^ 9 * 2 ^ 22

jump_offset : (n : ℕ) → n < 2 ^ 18 → immediate_j (jump n) ≡ pos (4 * n)
jump_offset n low = grind (arith, nat_tests)

jump_word : (n : ℕ) → n < 2 ^ 18 → HaveWords (Jal 1 (pos (4 * n)) ∷ [])
jump_word n low = record {
  words = jump n ∷ [];
  fit = omega arith;
  instructions =
      (let code : opcode (jump n) ≡ 0x6F = omega arith in
      let link : rd (jump n) ≡ 1 = omega arith in
      ap (λ i. i ∷ []) (jump_and_link (jump n) code ∙ ap₂ (λ (d : ℕ) (z : ℤ). Some (Jal d z)) link (jump_offset n low)));
}

forward : (from to : ℕ) → from ≤ to → offset_between from to ≡ pos (4 * (to - from))
forward from to order = grind arith

-- a routine has at most five words
words_within : (n : ℕ) → words_before n ≤ 5 * n
unfolding words_before
words_within n = omega (arith, sum_by-le (λ k. reads k + 1) 5 (range_with_len 0 n) (λ k d inside. omega arith), length-range_with_len 0 n)

calls_words : (n k m : ℕ) → n ≤ DEMO_ROUTINES → k + m ≡ n → HaveWords (flat_map (call n) (range_with_len k m))
calls_words n k zero few whole = no_words
calls_words n k (suc m) few whole =
    let from = 10 + 2 * k in
    let to = routine_start n k in
    let order : from ≤ to = omega (arith, whole) in
    let near : to - from < 2 ^ 18 = omega (arith, whole, few, words_within k) in
    let one : HaveWords (Jal 1 (offset_between from to) ∷ []) = subst (λ z. HaveWords (Jal 1 z ∷ [])) (sym (forward from to order)) (jump_word (to - from) near) in
    words-append (Jal 1 (offset_between from to) ∷ []) (Ecall ∷ flat_map (call n) (range_with_len (k + 1) m)) one
    (words-append (Ecall ∷ []) (flat_map (call n) (range_with_len (k + 1) m)) turn_word (calls_words n (k + 1) m few (omega (arith, whole))))

-- a demo has a file
pub demo_file : (n : ℕ) → n ≤ DEMO_ROUTINES → (file : List ℕ) × IsDemoFile n file
unfolding instructions
demo_file n few =
    let whole : 0 + n ≡ n = omega arith in
    let have : HaveWords (instructions n) =
    words-append start (flat_map (call n) (range_with_len 0 n) ++ (ending ++ flat_map routine_code (range_with_len 0 n))) start_words
    (words-append (flat_map (call n) (range_with_len 0 n)) (ending ++ flat_map routine_code (range_with_len 0 n)) (calls_words n 0 n few whole)
    (words-append ending (flat_map routine_code (range_with_len 0 n)) ending_words (routines_words (range_with_len 0 n)))) in (
      executable have.words (symbols n),
      record { words = have.words; fit = have.fit; instructions = have.instructions; written = refl },
    )

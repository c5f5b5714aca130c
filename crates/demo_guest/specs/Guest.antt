-- The demo: a guest that calls each of its routines once, where a routine reads one to four words. Routines are numbered
-- from 0 on here, and from 1 on in their names.
use Rattle.std.specs.Prelude.{ℕ, ◌+◌, ◌*◌, ◌%◌, pos, neg_ℤ, List, [], ◌∷◌, ◌++◌, map, sum_by}
use Rattle.std.specs.List.{flat_map, range_with_len}
use Rattle.rv_isa.specs.declared.instruction.Instr.{Instr}
use Rattle.rv_isa.specs.declared.instruction.Instr.TheVariants.{Lui, Jal, Jalr, Branch, Load, Store, Immediate, Ecall}
use Rattle.rv_isa.specs.declared.instruction.ImmOp.TheVariants.{Addi}
use Rattle.rv_isa.specs.declared.instruction.LoadKind.TheVariants.{Lw}
use Rattle.rv_isa.specs.declared.instruction.StoreKind.TheVariants.{Sw}
use Rattle.rv_isa.specs.declared.instruction.Test.TheVariants.{Ne}
use Rattle.rv_asm.specs.Assembled.{offset_between}

-- how many words a routine reads
abbrev pub reads : ℕ → ℕ
reads routine = 1 + routine % 4

-- how many words of code the first routines have: a load for each word that is read, and the return
unfoldable pub words_before : ℕ → ℕ
words_before routine = sum_by (λ k. reads k + 1) (range_with_len 0 routine)

-- the word where a routine begins: behind the first ten words, a call of two words for each routine, three words that end
-- the guest, and the routines before it
abbrev pub routine_start : ℕ → ℕ → ℕ
routine_start routines routine = 13 + 2 * routines + words_before routine

-- A thread is started. Both run on from the sixth word, and the new one writes a word again and again.
abbrev pub start : List Instr
start =
    Immediate Addi 6 2 (neg_ℤ (pos 1024)) ∷ Lui 10 17 ∷ Immediate Addi 10 10 (neg_ℤ (pos 1792))
    ∷ Immediate Addi 17 0 (pos 220) ∷ Ecall ∷ Immediate Addi 17 0 (pos 124) ∷ Branch Ne 10 0 (pos 16) ∷ Store Sw 0 6 (pos 0) ∷ Ecall ∷ Jal 0 (neg_ℤ (pos 8)) ∷ []

-- the call of a routine, of two words, and then the other thread's turn; the first call is the eleventh word
abbrev pub call : ℕ → ℕ → List Instr
call routines routine = Jal 1 (offset_between (10 + 2 * routine) (routine_start routines routine)) ∷ Ecall ∷ []

-- the end of all threads, with status 0
abbrev pub ending : List Instr
ending = Immediate Addi 10 0 (pos 0) ∷ Immediate Addi 17 0 (pos 94) ∷ Ecall ∷ []

-- the load of one of the words that routines read
abbrev pub load : ℕ → Instr
load word = Load Lw 7 6 (pos (4 * word))

-- a routine: it reads its words and returns
abbrev pub routine_code : ℕ → List Instr
routine_code routine = map load (range_with_len 0 (reads routine)) ++ Jalr 0 1 (pos 0) ∷ []

-- the whole code
unfoldable pub instructions : ℕ → List Instr
instructions routines =
    start ++ (flat_map (call routines) (range_with_len 0 routines)
    ++ (ending ++ flat_map routine_code (range_with_len 0 routines)))

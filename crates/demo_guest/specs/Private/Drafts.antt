-- The demo as it is told to the assembler. The label 0 stands for the first call, 1 for the loop of the new thread, and
-- from 2 on there is one for each routine.
use Rattle.std.specs.Prelude.{◌≡◌, ℕ, ◌+◌, ◌<◌, pos, List, [], ◌∷◌, ◌++◌, map, take, length, Option, Some, None}
use Rattle.std.specs.List.{flat_map, range_with_len}
use Rattle.rv_isa.specs.declared.instruction.Instr.{Instr}
use Rattle.rv_isa.specs.declared.instruction.Instr.TheVariants.{Jal, Branch, Store, Ecall}
use Rattle.rv_isa.specs.declared.instruction.StoreKind.TheVariants.{Sw}
use Rattle.rv_isa.specs.declared.instruction.Test.TheVariants.{Ne}
use Rattle.rv_asm.specs.declared.line.Line.{Line}
use Rattle.rv_asm.specs.Assembled.{binding_of}
use Rattle.demo_guest.specs.Guest.{start, ending, routine_code, routine_start}

-- an instruction that needs no label
abbrev pub plain : Instr → Line
plain instruction = record { instruction = instruction; to = None }

-- a jump to a label
abbrev pub jump : Instr → ℕ → Line
jump instruction label = record { instruction = instruction; to = Some label }

-- the first ten words
abbrev pub start_lines : List Line
start_lines =
    map plain (take 6 start)
    ++ (jump (Branch Ne 10 0 (pos 0)) 0 ∷ plain (Store Sw 0 6 (pos 0)) ∷ plain Ecall ∷ jump (Jal 0 (pos 0)) 1 ∷ [])

-- the call of the routine of a label
abbrev pub call_lines : ℕ → List Line
call_lines label = jump (Jal 1 (pos 0)) label ∷ plain Ecall ∷ []

-- a routine
abbrev pub routine_lines : ℕ → List Line
routine_lines routine = map plain (routine_code routine)

-- the whole code
unfoldable pub lines : ℕ → List Line
lines routines =
    start_lines ++ (flat_map call_lines (range_with_len 2 routines)
    ++ (map plain ending ++ flat_map routine_lines (range_with_len 0 routines)))

-- the labels of the first routines stand for where these begin
abbrev pub AreRoutines : ℕ → ℕ → List (Option ℕ) → Type 0
AreRoutines routines bound bindings = (k : ℕ) → k < bound → binding_of bindings (2 + k) ≡ Some (routine_start routines k)

-- The first two labels were bound, and the others are as they were.
pub record IsStarted (old new : List (Option ℕ)) : Type 0 where
  pub count : length new ≡ length old
  pub main : binding_of new 0 ≡ Some 10
  pub worker : binding_of new 1 ≡ Some 7
  pub others : (k : ℕ) → binding_of new (2 + k) ≡ binding_of old (2 + k)

-- The labels stand for their bindings.
pub record AreBound (routines : ℕ) (bindings : List (Option ℕ)) : Type 0 where
  pub main : binding_of bindings 0 ≡ Some 10
  pub worker : binding_of bindings 1 ≡ Some 7
  pub bound : AreRoutines routines routines bindings

-- The code that is kept is that of the memory.
use Rattle.std.specs.Prelude.{◌≡◌, ℕ, ◌*◌, ◌/◌, false, Option, Some, None, Result, Ok, Err}
use Rattle.guest_memory.specs.Memory.{Memory, is_among, loaded}
use Rattle.guest_memory.specs.Private.CodePages.{known_in}
use Rattle.guest_memory.specs.declared.refusal.MemError.{MemError}
use Rattle.guest_memory.specs.declared.refusal.Permission.TheVariants as permission
use Rattle.guest_memory.specs.declared.code_cache.CodeCache.{CodeCache}
use Rattle.rv_isa.specs.Table.{decoded}
use Rattle.rv_isa.specs.declared.instruction.Instr.{Instr}

-- the instruction of a word, where it can be fetched
abbrev pub instruction_of : Result ℕ MemError → Option Instr
instruction_of (Ok word) = decoded word
instruction_of (Err refusal) = None

-- Each instruction that is known is that of its word, which can be fetched.
abbrev pub HoldsCode : CodeCache → Memory → Type 0
HoldsCode cache m =
    (word : ℕ) (i : Instr) → known_in cache.places.items cache.pages.items word ≡ Some i
    → instruction_of (loaded m permission.Execute (4 * word) 4) ≡ Some i

-- Two memories agree but for `count` pages, from the first on.
pub record AgreeBut (first count : ℕ) (m n : Memory) : Type 0 where
  pub rights : (page : ℕ) → is_among first count page ≡ false → n.rights page ≡ m.rights page
  pub bytes : (at : ℕ) → is_among first count (at / 4096) ≡ false → n.byte at ≡ m.byte at

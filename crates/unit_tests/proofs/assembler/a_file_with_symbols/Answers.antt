use Rattle.std.proofs.Common.{◌≡◌, ℕ, List, [], ◌∷◌, ◌≤◌, length, ap, arith, length-append}
use Rattle.guest_words.specs.declared.limits.TheConstants.{FILE_BYTES}
use Rattle.rv_asm.specs.Executable.{executable}
use Rattle.rv_asm.proofs.Sizes.{executable_within}
use Rattle.unit_tests.proofs.assembler.a_file_with_symbols.Goals as goal

-- two symbols, with names of six bytes and of one
two : (words one other : List ℕ) → length words ≡ 7 → length one ≡ 6 → length other ≡ 1
    → length (executable words (record { name = one; at = 0x10054 } ∷ record { name = other; at = 0x10064 } ∷ [])) ≤ FILE_BYTES
two words one other code first second =
    omega (arith, executable_within words (record { name = one; at = 0x10054 } ∷ record { name = other; at = 0x10064 } ∷ []), length-append {A = ℕ})

pub write_exec-requires-clause-size : goal.write_exec-requires-clause-size
write_exec-requires-clause-size g c = two _ _ _ c.in_ok-code.ensures (ap length c.in_ok-new.ensures.ok) (ap length c.in_ok-new-2.ensures.ok)

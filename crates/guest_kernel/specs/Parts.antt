-- Bytes in parts.
use Rattle.std.specs.Prelude.{ℕ, Bool, List, sum_by, flat_map}
use Rattle.std.specs.List.{list_all}
use Rattle.guest_memory.specs.Memory.{Memory, bytes_at}
use Rattle.guest_kernel.specs.declared.parts.IoVec.{IoVec}

abbrev pub total : List IoVec → ℕ
total ps = sum_by (λ p. p.size) ps

abbrev pub all_in_reach : (ℕ → ℕ → Bool) → List IoVec → Bool
all_in_reach reach ps = list_all (λ p. reach p.at p.size) ps

-- the bytes of the parts, one part after another
abbrev pub bytes_of : Memory → List IoVec → List ℕ
bytes_of m ps = flat_map (λ p. bytes_at m p.at p.size) ps

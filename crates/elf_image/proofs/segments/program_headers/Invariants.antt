use Rattle.std.proofs.Common.{◌≡◌, ◌+◌, ◌*◌, map}
use Rattle.std.specs.List.{range_with_len}
use Rattle.elf_image.specs.Headers.{program_header_at}
use Rattle.elf_image.proofs.segments.program_headers.Given as goal

abbrev pub invariant-loop-i : goal.invariant-loop-i
invariant-loop-i l = l.headers.items ≡ map (λ i. program_header_at l.file (l.first + 32 * i)) (range_with_len 0 l.i)

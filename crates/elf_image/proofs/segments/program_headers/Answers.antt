use Rattle.std.proofs.Common.{ℕ, ◌+◌, ◌*◌, arith, rules}
use Rattle.std.proofs.lemmas.List.FromFn.{map-range_with_len_more}
use Rattle.elf_image.specs.Headers.{program_header_at, program_headers}
use Rattle.elf_image.proofs.segments.program_headers.Goals as goal

pub loop-i-preserved : goal.loop-i-preserved
loop-i-preserved c =
    let more = map-range_with_len_more (λ (i : ℕ). program_header_at c.args.file.now (c.args.header.now.e_phoff + 32 * i)) 0 c.loop-i.i c.loop-i.i (omega arith) in
    cc (more, c.in_ok-push.ensures.items, c.loop-i.invariant, c.at.ensures)

pub returns : goal.returns
unfolding program_headers
returns c = search rules

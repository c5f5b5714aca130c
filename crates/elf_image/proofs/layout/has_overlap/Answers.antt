use Rattle.std.proofs.Common.{◌≡◌, ◌+◌, ◌-◌, ◌<◌, ◌≤◌, get_or, sym, ◌∙◌, arith}
use Rattle.elf_image.specs.Private.Layout.{IsLoadable}
use Rattle.elf_image.specs.Segments.{occupied_headers}
use Rattle.elf_image.proofs.Layouts.{no_header, no_overlap, overlap-permutation, overlap_at}
use Rattle.elf_image.proofs.layout.has_overlap.Goals as goal

pub returns-then-h-end : goal.returns-then-h-end
returns-then-h-end c = λ file moves.
    let hs = c.args.ordered.now in
    let i = c.loop-h.h-index in
    let early : (get_or hs i no_header).p_vaddr < c.loop-h.end = c.if-h-end.true in
    let later : 0 < i = grind (arith, c.loop-h.invariant.begun) in
    let loadable : IsLoadable c.requires.loadable.0 (get_or hs i no_header) = c.requires.loadable.1 i no_header (omega arith) in
    let last : c.loop-h.end ≡ (get_or hs (i - 1) no_header).p_vaddr + (get_or hs (i - 1) no_header).p_memsz = c.loop-h.invariant.last no_header later in
    let rises : (get_or hs (i - 1) no_header).p_vaddr ≤ (get_or hs i no_header).p_vaddr = c.requires.rising (i - 1) i no_header (omega arith) (omega arith) in
    sym (overlap_at file hs (i - 1) i no_header (omega arith) (omega arith) rises loadable.some (omega (arith, last, early)))
    ∙ overlap-permutation file (occupied_headers file) hs moves

pub returns : goal.returns
returns c = λ file moves.
    sym (no_overlap file c.args.ordered.now (λ i j d lt inside. c.loop-h.invariant.apart i j d lt (omega arith)))
    ∙ overlap-permutation file (occupied_headers file) c.args.ordered.now moves

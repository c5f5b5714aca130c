use Rattle.std.proofs.Common.{◌≡◌, ◌+◌, ◌-◌, ◌/◌, ◌≤◌, List, map, take, max, get_or, ap, ◌∙◌, arith}
use Rattle.std.proofs.lemmas.List.{get_or_default, take_all}
use Rattle.elf_image.specs.declared.headers.ProgramHeader.{ProgramHeader}
use Rattle.elf_image.specs.Image.{page_count}
use Rattle.elf_image.specs.Segments.{occupied_headers, segment_of}
use Rattle.elf_image.specs.Private.Layout.{IsLoadable}
use Rattle.elf_image.proofs.Layouts.{counted_above, counted_one, no_header, pages-permutation}
use Rattle.elf_image.proofs.PageCounts.{counted_none}
use Rattle.elf_image.proofs.layout.count_pages.Goals as goal

pub loop-h-init : goal.loop-h-init
loop-h-init c = record { short = omega arith; fewer = omega arith; counted = λ file low least. counted_none low }

pub loop-h-preserved : goal.loop-h-preserved
loop-h-preserved c =
    let hs = c.args.ordered.now in
    let i = c.loop-h.h-index in
    let h = get_or hs i no_header in
    let loadable : IsLoadable c.requires.loadable.0 h = c.requires.loadable.1 i no_header (omega arith) in
    let some : 1 ≤ h.p_memsz = loadable.some in
    let high : h.p_vaddr + h.p_memsz ≤ 0x40000000 = loadable.high in
    let starts : c.max.result ≡ max c.loop-h.next (h.p_vaddr / 4096) = c.max.ensures in
    let ends : c.max-next.result ≡ max c.loop-h.next ((h.p_vaddr + h.p_memsz - 1) / 4096 + 1) = c.max-next.ensures in
    let added : c.saturating_sub-pages.result ≡ (h.p_vaddr + h.p_memsz - 1) / 4096 + 1 - c.max.result = c.saturating_sub-pages.ensures in
    let short : c.loop-h.next ≤ 262144 = c.loop-h.invariant.short in
    let fewer : c.loop-h.pages ≤ c.loop-h.next = c.loop-h.invariant.fewer in
    record {
      short = omega (arith, short, ends, high);
      fewer = omega (arith, fewer, ends, added, starts);
      counted = λ file low least.
          let before = c.loop-h.invariant.counted file (h.p_vaddr / 4096) (λ k d below.
          let rises : (get_or hs k d).p_vaddr ≤ (get_or hs i d).p_vaddr = c.requires.rising k i d (omega arith) (omega arith) in
          let here : (get_or hs i d).p_vaddr ≡ h.p_vaddr = ap (λ (g : ProgramHeader). g.p_vaddr) (get_or_default hs i d no_header (omega arith)) in
          omega (arith, rises, here)) in
          let after = counted_one file hs i (h.p_vaddr / 4096) c.loop-h.next c.loop-h.pages no_header (omega arith) before some high (omega arith) in
          rw (ends, added, starts) (counted_above _ (h.p_vaddr / 4096) low _ _ (least i no_header (omega arith)) after);
    }

pub returns : goal.returns
returns c = λ file moves.
    let hs = c.args.ordered.now in
    let all : take c.loop-h.h-index hs ≡ hs = take_all _ _ (omega arith) in
    (c.loop-h.invariant.counted file 262144 (λ i d below.
    let high : (get_or hs i d).p_vaddr + (get_or hs i d).p_memsz ≤ 0x40000000 = (c.requires.loadable.1 i d (omega arith)).high in
    omega (arith, high))).count
    ∙ ap (λ (xs : List ProgramHeader). page_count (map (segment_of file) xs)) all
    ∙ pages-permutation file (occupied_headers file) hs moves

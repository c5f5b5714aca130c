use Rattle.std.proofs.Common.{ℕ, List, ◌/◌, ◌<◌, ◌≤◌, get_or, map, take}
use Rattle.elf_image.specs.declared.headers.ProgramHeader.{ProgramHeader}
use Rattle.elf_image.specs.Private.Layout.{AreCounted}
use Rattle.elf_image.specs.Segments.{segment_of}
use Rattle.elf_image.proofs.layout.count_pages.Given as goal

abbrev pub invariant-loop-h : goal.invariant-loop-h
invariant-loop-h l = record {
  short : l.next ≤ 262144;
  fewer : l.pages ≤ l.next;
  counted : (file : List ℕ) (low : ℕ) → ((i : ℕ) (d : ProgramHeader) → i < l.h-index → (get_or l.ordered i d).p_vaddr / 4096 ≤ low)
      → AreCounted (map (segment_of file) (take l.h-index l.ordered)) low l.next l.pages;
}

use Rattle.std.proofs.Common.{◌≡◌, ℕ, ◌+◌, ◌-◌, ◌<◌, ◌≤◌, get_or}
use Rattle.elf_image.specs.declared.headers.ProgramHeader.{ProgramHeader}
use Rattle.elf_image.proofs.layout.has_overlap.Given as goal

abbrev pub invariant-loop-h : goal.invariant-loop-h
invariant-loop-h l = record {
  begun : l.h-index ≡ 0 → l.end ≡ 0;
  last : (d : ProgramHeader) → 0 < l.h-index → l.end ≡ (get_or l.ordered (l.h-index - 1) d).p_vaddr + (get_or l.ordered (l.h-index - 1) d).p_memsz;
  ended : (i : ℕ) (d : ProgramHeader) → i < l.h-index → (get_or l.ordered i d).p_vaddr + (get_or l.ordered i d).p_memsz ≤ l.end;
  apart : (i j : ℕ) (d : ProgramHeader) → i < j → j < l.h-index → (get_or l.ordered i d).p_vaddr + (get_or l.ordered i d).p_memsz ≤ (get_or l.ordered j d).p_vaddr;
}

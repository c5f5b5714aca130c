-- What the parts of the reader tell each other of segments and pages.
use Rattle.std.specs.Prelude.{◌≡◌, ℕ, ◌+◌, ◌<◌, ◌≤◌, true, List}
use Rattle.elf_image.specs.declared.headers.ProgramHeader.{ProgramHeader}
use Rattle.elf_image.specs.Image.{Segment, is_touched, page_count}

-- The header of a load segment that takes memory and passed the tests of headers, in a file of this size.
pub record IsLoadable (file_size : ℕ) (h : ProgramHeader) : Type 0 where
  pub some : 1 ≤ h.p_memsz
  pub low : 0x1000 ≤ h.p_vaddr
  pub high : h.p_vaddr + h.p_memsz ≤ 0x40000000
  pub within : h.p_filesz ≤ h.p_memsz
  pub in_file : h.p_offset + h.p_filesz ≤ file_size

-- The segments touch `pages` pages, all of them below `next`, and each page from `low` up to `next` among them.
pub record AreCounted (segments : List Segment) (low next pages : ℕ) : Type 0 where
  pub count : pages ≡ page_count segments
  pub below : (page : ℕ) → is_touched segments page ≡ true → page < next
  pub filled : (page : ℕ) → low ≤ page → page < next → is_touched segments page ≡ true

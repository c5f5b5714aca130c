use Rattle.std.proofs.Common.{◌≡◌, ℕ, ◌<◌, false, get_or}
use Rattle.elf_image.specs.Segments.{holds_headers}
use Rattle.elf_image.proofs.Layouts.{no_header}
use Rattle.elf_image.proofs.segments.header_place.Given as goal

abbrev pub invariant-loop-h : goal.invariant-loop-h
invariant-loop-h l = (k : ℕ) → k < l.h-index → holds_headers l.file (get_or l.headers k no_header) ≡ false

use Rattle.std.proofs.Common.{◌≡◌, map, take}
use Rattle.elf_image.specs.Segments.{segment_of}
use Rattle.elf_image.proofs.segments.segments.Given as goal

abbrev pub invariant-loop-h : goal.invariant-loop-h
invariant-loop-h l = l.segments.items ≡ map (segment_of l.file) (take l.h-index l.headers)

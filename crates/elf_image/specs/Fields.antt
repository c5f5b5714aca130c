-- What the fields of an image keep.
use Rattle.std.specs.Prelude.{◌≡◌, ℕ, ◌<◌, List, AllPairs}
use Rattle.elf_image.specs.Symbols.{Symbol}
use Rattle.elf_image.specs.Image.{Executable, IsSoundImage, page_count}

-- The executable is sound, its pages are counted, and the values of its symbols rise.
pub record IsFilled (e : Executable) (pages : ℕ) (symbols : List Symbol) : Type 0 where
  pub sound : IsSoundImage e
  pub counted : pages ≡ page_count e.segments
  pub rising : AllPairs (λ s t. s.value < t.value) symbols

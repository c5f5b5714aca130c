-- What the checks of a file answer.
use Rattle.std.specs.Prelude.{Option, Some, None, Result, Ok, Err}
use Rattle.elf_image.specs.declared.error.ElfError.{ElfError}

-- nothing where no test fails, and else the error
abbrev pub unless_refused : Option ElfError → Result Unit ElfError
unless_refused None = Ok tt
unless_refused (Some e) = Err e

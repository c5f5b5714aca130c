-- The memory that a directory of pages means.
use Rattle.std.specs.Prelude.{ℕ, ◌/◌, ◌%◌, List, [], ◌∷◌, Option, Some, None, slice_index}
use Rattle.guest_words.specs.declared.rights.Rights.{Rights}
use Rattle.guest_memory.specs.Pages.{page_of}
use Rattle.guest_memory.specs.Memory.{Memory}

-- the rights of a page: none where it has no byte
abbrev pub rights_of : Rights × List ℕ → Option Rights
rights_of (r, []) = None
rights_of (r, b ∷ bytes) = Some r

abbrev pub memory_in : List (List (Rights × List ℕ)) → Memory
memory_in d = record {
  rights = λ number. rights_of (page_of d number);
  byte = λ at. slice_index (page_of d (at / 4096)).1 (at % 4096);
}

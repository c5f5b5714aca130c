-- Why a table of parts is refused.
use Rattle.std.specs.Prelude.{◌≡◌, ℕ, Option, Some}
use Rattle.guest_calls.specs.declared.vectors.TableError.{TableError}
use Rattle.guest_calls.specs.declared.vectors.TableError.TheVariants.{Refused, Memory}

-- the refusal has the answer of the first test that holds; out of memory has none
abbrev pub IsRefusal : Option ℕ → TableError → Type 0
IsRefusal answer (Refused errno) = answer ≡ Some errno
IsRefusal answer Memory = Unit {0}

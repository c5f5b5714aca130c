-- Why a guest can't begin.
use Rattle.std.specs.Prelude.{ℕ, ◌+◌, nat_lt, if◌then◌else◌, List, length, Option, Some, None}
use Rattle.guest_words.specs.declared.limits.TheConstants.{PAGES, STACK_PAGES}
use Rattle.elf_image.specs.Image.{Executable, page_count}
use Rattle.guest_machine.specs.declared.setup.SetupError.{SetupError}
use Rattle.guest_machine.specs.declared.setup.SetupError.TheVariants.{ArgsTooLong, Pages}
use Rattle.guest_machine.specs.Start.{strings, strings_limit}

-- why a guest can't begin: its argument strings are too long, or there is no room for the stack beside the image
abbrev pub setup_refusal : Executable → List (List ℕ) → Option SetupError
setup_refusal image arguments =
    if nat_lt strings_limit (length (strings arguments)) then Some ArgsTooLong
    else if nat_lt PAGES (page_count image.segments + STACK_PAGES) then Some Pages
    else None

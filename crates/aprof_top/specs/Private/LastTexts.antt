-- A last text, as the program has it.
use Rattle.std.specs.Prelude.{ℕ, List}
use Rattle.aprof_top.specs.declared.texts.Text.{Text}
use Rattle.aprof_top.specs.declared.texts.Text.TheVariants.{Fixed, Made}

-- its bytes
abbrev pub bytes_of : Text → List ℕ
bytes_of (Fixed bytes) = bytes.now
bytes_of (Made bytes) = bytes.items

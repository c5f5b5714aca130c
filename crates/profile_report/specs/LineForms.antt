-- The lines of a report, one definition a form, without the byte that ends a line.
use Rattle.std.specs.Prelude.{ℕ, ◌/◌, ◌%◌, List, [], ◌∷◌, ◌++◌, codes, slice_index, Option, Some, None}
use Rattle.std.specs.Fmt.{decimal}
use Rattle.guest_words.specs.declared.endings.Finish.{Finish}
use Rattle.guest_words.specs.declared.endings.Finish.TheVariants.{Exit, Fault, Budget, Deadlock, Deep, Schedule}
use Rattle.guest_words.specs.declared.endings.FaultKind.{FaultKind}
use Rattle.guest_words.specs.Endings.{kind_number}
use Rattle.cost_points.specs.declared.point.Point.{Point}
use Rattle.cost_points.specs.declared.point.Split.{Split}
use Rattle.profile_report.specs.declared.report.ReportVersion.{ReportVersion}
use Rattle.profile_report.specs.declared.report.ReportVersion.TheVariants.{One, Two}

-- the line with the newline byte that ends it
abbrev pub ended : List ℕ → List ℕ
ended line = line ++ 10 ∷ []

-- the version of the text
abbrev pub first_line : ReportVersion → List ℕ
first_line One = codes "aprof 1"
first_line Two = codes "aprof 2"

-- a digit in base 16, in lower case
abbrev pub hex_glyph : ℕ → ℕ
hex_glyph digit = slice_index (codes "0123456789abcdef") digit

-- an address, in eight digits of base 16
unfoldable pub hex_address : ℕ → List ℕ
hex_address at =
    hex_glyph (at / 0x1000_0000 % 16)
    ∷ hex_glyph (at / 0x100_0000 % 16)
    ∷ hex_glyph (at / 0x10_0000 % 16)
    ∷ hex_glyph (at / 0x1_0000 % 16)
    ∷ hex_glyph (at / 0x1000 % 16)
    ∷ hex_glyph (at / 0x100 % 16)
    ∷ hex_glyph (at / 0x10 % 16)
    ∷ hex_glyph (at % 16)
    ∷ []

-- a number after its label
abbrev pub labelled : List ℕ → ℕ → List ℕ
labelled label number = label ++ decimal number

-- a fault: its kind's number, the thread and the address
abbrev pub fault_words : FaultKind → ℕ → ℕ → List ℕ
fault_words kind tid at = decimal (kind_number kind) ++ labelled (codes " ") tid ++ codes " " ++ hex_address at

-- how the run ended
abbrev pub end_line : Finish → List ℕ
end_line (Exit status) = labelled (codes "end exit ") status
end_line (Fault kind tid at) = codes "end fault " ++ fault_words kind tid at
end_line Budget = codes "end budget"
end_line Deadlock = codes "end deadlock"
end_line Deep = codes "end deep"
end_line (Schedule line) = labelled (codes "end schedule ") line

-- a name, or a dash where there is none
abbrev pub name_word : Option (List ℕ) → List ℕ
name_word None = codes "-"
name_word (Some name) = name

-- a routine: its entry and its name
abbrev pub routine_line : ℕ → Option (List ℕ) → List ℕ
routine_line entry name = codes "routine " ++ hex_address entry ++ codes " " ++ name_word name

-- the parts of a point's sizes, where they are told: plain, by other threads, by the kernel; and the plain read memory size
abbrev pub split_words : Option Split → List ℕ
split_words None = []
split_words (Some s) = labelled (codes " ") s.plain ++ labelled (codes " ") s.thread ++ labelled (codes " ") s.kernel ++ labelled (codes " ") s.bare

-- a point: its size, how many calls had it, the least, the greatest and the sum of their costs, and the parts of their sizes
abbrev pub point_line : Point → List ℕ
point_line p = decimal p.size ++ labelled (codes " ") p.calls ++ labelled (codes " ") p.least ++ labelled (codes " ") p.most ++ labelled (codes " ") p.sum ++ split_words p.split

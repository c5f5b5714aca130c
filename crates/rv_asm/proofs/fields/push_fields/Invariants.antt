use Rattle.std.proofs.Common.{◌≡◌, ◌++◌, take}
use Rattle.rv_asm.specs.Fields.{bytes_of}
use Rattle.rv_asm.proofs.fields.push_fields.Given as goal

abbrev pub invariant-loop-field : goal.invariant-loop-field
invariant-loop-field l = l.file.items ≡ l.initial.file.items ++ bytes_of (take l.field-index l.fields)

use Rattle.std.proofs.Common.{◌≡◌, ◌++◌, take}
use Rattle.std.specs.List.{flat_map, AllByRecursion}
use Rattle.trace_file.specs.Records.{Fits, record_bytes}
use Rattle.trace_file.specs.TraceText.{name_records}
use Rattle.trace_file.proofs.writer.push_names.Given as goal

abbrev pub invariant-loop-entry : goal.invariant-loop-entry
invariant-loop-entry l = record {
  text : l.text.items ≡ l.initial.text.items ++ flat_map record_bytes (name_records (take l.entry-index l.names));
  fits : AllByRecursion Fits (name_records (take l.entry-index l.names));
}

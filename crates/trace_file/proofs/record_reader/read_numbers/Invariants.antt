use Rattle.std.proofs.Common.{◌≡◌, ◌++◌, take, length}
use Rattle.std.specs.List.{flat_map}
use Rattle.trace_file.specs.Records.{AreInRanges, number_bytes}
use Rattle.trace_file.proofs.record_reader.read_numbers.Given as goal

abbrev pub invariant-loop-i : goal.invariant-loop-i
invariant-loop-i l = record {
  long : length l.numbers ≡ 3;
  within : AreInRanges (take l.i l.numbers) (take l.i l.ranges);
  text : l.bytes ≡ flat_map number_bytes (take l.i l.numbers) ++ l.rest;
}

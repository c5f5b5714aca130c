use Rattle.std.proofs.Common.{◌≡◌, ◌≤◌, ◌-◌, None, length, take}
use Rattle.trace_file.specs.Reading.{HasFed}
use Rattle.trace_file.proofs.reader.TraceReader.feed.Given as goal

abbrev pub invariant-parts : goal.invariant-parts
invariant-parts l = record {
  few : l.read ≤ length l.piece;
  none : l.self.refusal ≡ None;
  fed : HasFed l.fn.self l.self (take l.read l.piece) l.fn.events.list l.events.list;
}

abbrev pub decreases-parts : goal.decreases-parts
decreases-parts l = length l.piece - l.read

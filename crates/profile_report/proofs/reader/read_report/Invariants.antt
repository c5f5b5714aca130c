use Rattle.std.proofs.Common.{◌≤◌, ◌+◌, length}
use Rattle.profile_report.proofs.Behind.{Behind}
use Rattle.profile_report.proofs.reader.read_report.Given as goal

-- The lines before the rest are read, and there are no more of them than bytes.
abbrev pub invariant-loop-line : goal.invariant-loop-line
invariant-loop-line l = record {
  behind : Behind l.text l.number l.state l.rest;
  few : l.number + length l.rest ≤ length l.text + 1;
}

abbrev pub decreases-loop-line : goal.decreases-loop-line
decreases-loop-line l = length l.rest

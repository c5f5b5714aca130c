use Rattle.std.proofs.Common.{◌∙◌, ap, length}
use Rattle.stamp_renumber.proofs.Words.{zeros_long}
use Rattle.stamp_renumber.proofs.rows.WorkRows.new.Goals as goal

pub invariant_of-result : goal.invariant_of-result
invariant_of-result g c = record {
  own = ap length c.in_ok-zero_row.ensures ∙ zeros_long;
  write = ap length c.in_ok-zero_row-2.ensures ∙ zeros_long;
  result = ap length c.in_ok-zero_row-3.ensures ∙ zeros_long;
  zero = c.in_ok-zero_row-4.ensures;
}

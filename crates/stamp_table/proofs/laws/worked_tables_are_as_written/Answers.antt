use Rattle.std.proofs.Common.{refl}
use Rattle.stamp_table.proofs.laws.worked_tables_are_as_written.Goals as goal

pub returns : goal.returns
returns c = record { writes = refl; writes_fit = refl; writes_renumbered = refl; own_write = refl; own_write_renumbered = refl; fills = refl; fills_renumbered = refl }

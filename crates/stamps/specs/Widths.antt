-- The widths of stamps.
use Rattle.std.specs.Prelude.{ℕ}
use Rattle.stamps.specs.declared.width.StampBits.{StampBits}
use Rattle.stamps.specs.declared.width.StampBits.TheVariants.{B8, B16, B32}

-- the greatest stamp of a width
abbrev pub greatest : StampBits → ℕ
greatest B8 = 255
greatest B16 = 65535
greatest B32 = 4294967295

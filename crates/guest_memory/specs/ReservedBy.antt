-- What the reservations mean.
use Rattle.std.specs.Prelude.{take}
use Rattle.guest_memory.specs.declared.reservations.Reservations.{Reservations}
use Rattle.guest_memory.specs.Holders.{held_in}
use Rattle.guest_memory.specs.Reserved.{Reserved}

unfoldable pub reserved_by : Reservations → Reserved
reserved_by r = held_in (take r.count r.holders)

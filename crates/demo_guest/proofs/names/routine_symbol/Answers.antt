use Rattle.std.proofs.Common.{arith}
use Rattle.demo_guest.proofs.Digits.{routine_is_name}
use Rattle.demo_guest.proofs.names.routine_symbol.Goals as goal

pub named-requires-clause-name : goal.named-requires-clause-name
named-requires-clause-name c = rw (c.deref.ensures.value, c.in_ok-name.ensures) (routine_is_name _ (omega (arith, c.requires.routine)))

use Rattle.guest_kernel.proofs.ClockWakings.{wakes_exactly}
use Rattle.guest_kernel.proofs.laws.wakes_exactly.Goals as goal

pub returns : goal.returns
returns c = record { exactly = wakes_exactly }

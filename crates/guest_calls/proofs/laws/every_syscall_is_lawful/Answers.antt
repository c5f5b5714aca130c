use Rattle.guest_calls.proofs.AllCalls.{every_syscall_is_lawful}
use Rattle.guest_calls.proofs.laws.every_syscall_is_lawful.Goals as goal

pub returns : goal.returns
returns c = record { lawful = every_syscall_is_lawful }

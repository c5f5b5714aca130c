use Rattle.aprof_top.proofs.CallCosts.{kernel_calls_cost}
use Rattle.aprof_top.proofs.laws.kernel_calls_cost_by_their_bytes.Goals as goal

pub returns : goal.returns
returns c = kernel_calls_cost c.every_syscall_is_lawful.ensures.lawful

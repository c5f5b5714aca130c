-- What holds of every call.
use Rattle.guest_calls.specs.Lawful.{IsLawful}
use Rattle.guest_calls.specs.Results.{Syscall}
use Rattle.guest_calls.specs.Table.{syscall}

-- each call keeps what a call has to keep
abbrev pub EverySyscallIsLawful : Type 0
EverySyscallIsLawful = (c : Syscall) → IsLawful c (syscall c)

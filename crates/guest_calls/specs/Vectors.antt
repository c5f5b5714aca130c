-- The calls on files in parts: readv(2) and writev(2).
use Rattle.std.specs.Prelude.{ℕ, zero, suc, ◌+◌, ◌-◌, ◌*◌, ◌^◌, Bool, not, nat_lt, nat_le, min, List, [], ◌∷◌, ◌++◌, length, take, drop, flat_map, is_none, unwrap_or}
use Rattle.guest_memory.specs.Memory.{Memory, number_at}
use Rattle.rv_exec.specs.Accesses.{can_read, can_write}
use Rattle.trace_model.specs.declared.event_kinds.Event.{Event}
use Rattle.guest_kernel.specs.declared.channel.Channel.TheVariants.{Out}
use Rattle.guest_kernel.specs.declared.parts.IoVec.{IoVec}
use Rattle.guest_kernel.specs.Errors.{ebadf, efault, einval}
use Rattle.guest_kernel.specs.Kernel.{descriptor}
use Rattle.guest_kernel.specs.Descriptors.{is_source, channel, bytes_left, advanced}
use Rattle.guest_calls.specs.Files.{write_limit}
use Rattle.guest_kernel.specs.Copies.{read_event}
use Rattle.guest_calls.specs.Results.{Syscall, SyscallResult, arg, returns, unless, ◌⇒◌, ◌or◌, ◌▷◌, Guest, changes, reads, filled, puts}
use Rattle.guest_kernel.specs.Parts.{all_in_reach, bytes_of, total}

-- a part is an address and a length, a word each
abbrev pub part_at : Memory → ℕ → IoVec
part_at m at = record { at = number_at m at 4; size = number_at m (at + 4) 4 }

-- `n` parts, from an address on
abbrev pub parts_at : Memory → ℕ → ℕ → List IoVec
parts_at m at zero = []
parts_at m at (suc n) = part_at m at ∷ parts_at m (at + 8) n

-- the first n bytes of the parts
abbrev pub carried : ℕ → List IoVec → List IoVec
carried n [] = []
carried n (p ∷ ps) = record { at = p.at; size = min n p.size } ∷ carried (n - p.size) ps

-- the guest after the bytes are copied to the parts, one part after another
abbrev pub filled_parts : List IoVec → List ℕ → Guest → Guest
filled_parts [] bytes g = g
filled_parts (p ∷ ps) bytes g = filled_parts ps (drop p.size bytes) (filled p.at (take p.size bytes) g)

abbrev pub fills_parts : List IoVec → List ℕ → SyscallResult → SyscallResult
fills_parts ps bytes r = record r { guest = filled_parts ps bytes r.guest }

-- a read of each part that has a byte
abbrev pub read_events : ℕ → List IoVec → List Event
read_events tid ps = flat_map (λ p. read_event tid p.at p.size) ps

abbrev pub reads_parts : ℕ → List IoVec → SyscallResult → SyscallResult
reads_parts tid ps r = record r { guest = record r.guest { events = r.guest.events ++ read_events tid ps } }

abbrev pub part_limit : ℕ
part_limit = 1024

-- what is tested before the parts' own bytes: the table of parts, of eight bytes each, and the sum of the lengths
abbrev pub table_tests : Memory → ℕ → ℕ → List (Bool × ℕ)
table_tests m at n =
    nat_lt part_limit n ⇒ einval
    or not (can_read m at (8 * n)) ⇒ efault
    or nat_le (2 ^ 31) (total (parts_at m at n)) ⇒ einval

-- the parts of a call, as they stand before it copies any byte
abbrev pub parts : Syscall → List IoVec
parts c = parts_at c.memory (arg c 1) (arg c 2)

-- the bytes that readv carries, and where to
abbrev pub readv_bytes : Syscall → List ℕ
readv_bytes c = take (total (parts c)) (bytes_left c.kernel (descriptor c.kernel (arg c 0)))

abbrev pub readv_parts : Syscall → List IoVec
readv_parts c = carried (length (readv_bytes c)) (parts c)

abbrev pub readv_tests : Syscall → List (Bool × ℕ)
readv_tests c =
    not (is_source (descriptor c.kernel (arg c 0))) ⇒ ebadf
    or table_tests c.memory (arg c 1) (arg c 2)
    or not (all_in_reach (can_write c.memory) (readv_parts c)) ⇒ efault

abbrev pub readv_effect : Syscall → SyscallResult
readv_effect c =
    let n = length (readv_bytes c) in
    returns c n
    ▷ reads c.tid (arg c 1) (8 * arg c 2)
    ▷ fills_parts (readv_parts c) (readv_bytes c)
    ▷ changes (advanced (descriptor c.kernel (arg c 0)) (arg c 0) n)

abbrev pub readv : Syscall → SyscallResult
readv c = unless c (readv_tests c) λ _. readv_effect c

-- how many bytes writev carries, and where from
abbrev pub writev_count : Syscall → ℕ
writev_count c = min (total (parts c)) write_limit

abbrev pub writev_parts : Syscall → List IoVec
writev_parts c = carried (writev_count c) (parts c)

abbrev pub writev_tests : Syscall → List (Bool × ℕ)
writev_tests c =
    is_none (channel (descriptor c.kernel (arg c 0))) ⇒ ebadf
    or table_tests c.memory (arg c 1) (arg c 2)
    or not (all_in_reach (can_read c.memory) (writev_parts c)) ⇒ efault

abbrev pub writev_effect : Syscall → SyscallResult
writev_effect c =
    returns c (writev_count c)
    ▷ reads c.tid (arg c 1) (8 * arg c 2)
    ▷ reads_parts c.tid (writev_parts c)
    ▷ puts (unwrap_or (channel (descriptor c.kernel (arg c 0))) Out) (bytes_of c.memory (writev_parts c))

abbrev pub writev : Syscall → SyscallResult
writev c = unless c (writev_tests c) λ _. writev_effect c

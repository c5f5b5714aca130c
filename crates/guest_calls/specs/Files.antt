-- The calls on files: openat(2), close(2), _llseek(2), read(2), write(2).
use Rattle.std.specs.Prelude.{ℕ, ℤ, ◌+◌, ◌-◌, ◌*◌, ◌^◌, pos, ◌+ℤ◌, int_lt, unsigned_abs, Bool, false, not, ◌||◌, ◌==◌, nat_lt, min, List, length, take, is_none, unwrap_or, Option, if◌then◌else◌}
use Rattle.std.specs.List.{position}
use Rattle.std.specs.Option.{option_map_or}
use Rattle.std.specs.Int.{w64, cast_signed, to_le_bytes}
use Rattle.guest_memory.specs.Memory.{Memory, bytes_at}
use Rattle.rv_exec.specs.Accesses.{can_read}
use Rattle.guest_kernel.specs.declared.channel.Channel.TheVariants.{Out}
use Rattle.guest_kernel.specs.declared.descriptor.Descriptor.{Descriptor}
use Rattle.guest_kernel.specs.declared.descriptor.Descriptor.TheVariants.{Closed, InputFile}
use Rattle.guest_kernel.specs.Errors.{enoent, ebadf, eacces, efault, einval, emfile, espipe, enametoolong}
use Rattle.guest_kernel.specs.Inputs.{is_named}
use Rattle.guest_kernel.specs.Kernel.{KernelState, descriptor}
use Rattle.guest_calls.specs.Search.{first_passing}
use Rattle.guest_calls.specs.Results.{Syscall, SyscallResult, arg, returns, unless, ◌⇒◌, ◌or◌, ◌▷◌, changes, sets, reads, fills, puts, readable, writable, has}
use Rattle.guest_kernel.specs.Descriptors.{advanced, bytes_left, channel, input_bytes, is_closed, is_input_file, is_source, least_free, with_position}

-- ---- openat
-- a path with its zero byte is no longer than this
abbrev pub path_limit : ℕ
path_limit = 4096

-- O_ACCMODE 3, O_CREAT 0x40 and O_TRUNC 0x200: none of these bits may be set
abbrev pub writing_flags : ℕ
writing_flags = 0x243

-- a path ends at a byte that can't be read or is zero
abbrev pub ends_path : Memory → ℕ → Bool
ends_path m at = not (can_read m at 1) || m.byte at == 0

-- the first of them from the path on, among as many bytes as a path can have
abbrev pub path_end : Memory → ℕ → Option ℕ
path_end m path = first_passing (ends_path m) path path_limit

-- the path's bytes, up to where it ends
abbrev pub path_name : Memory → ℕ → List ℕ
path_name m path = bytes_at m path (unwrap_or (path_end m path) path - path)

-- the index of the input with the path's name, if there is one
abbrev pub input_index : Syscall → ℕ → Option ℕ
input_index c path = position (is_named (path_name c.memory path)) c.kernel.inputs

abbrev pub openat_tests : Syscall → List (Bool × ℕ)
openat_tests c =
    let path = arg c 1 in
    option_map_or (λ at. not (can_read c.memory at 1)) (path_end c.memory path) false ⇒ efault
    or is_none (path_end c.memory path) ⇒ enametoolong
    or is_none (input_index c path) ⇒ enoent
    or has (arg c 2) writing_flags ⇒ eacces
    or is_none (least_free c.kernel) ⇒ emfile

-- the path is read with its zero byte
abbrev pub openat_effect : Syscall → SyscallResult
openat_effect c =
    let path = arg c 1 in
    let fd = unwrap_or (least_free c.kernel) 0 in
    returns c fd
    ▷ reads c.tid path (unwrap_or (path_end c.memory path) path - path + 1)
    ▷ sets fd (InputFile (unwrap_or (input_index c path) 0) 0)

abbrev pub openat : Syscall → SyscallResult
openat c = unless c (openat_tests c) λ _. openat_effect c

-- ---- close
abbrev pub close_tests : Syscall → List (Bool × ℕ)
close_tests c = is_closed (descriptor c.kernel (arg c 0)) ⇒ ebadf

abbrev pub close : Syscall → SyscallResult
close c = unless c (close_tests c) λ _. returns c 0 ▷ sets (arg c 0) Closed

-- ---- _llseek
-- what an offset is counted from: the start 0, the position 1 or the end 2
abbrev pub origin : KernelState → Descriptor → ℕ → ℕ
origin k (InputFile input position) whence =
    if whence == 1 then position else (if whence == 2 then length (input_bytes k input) else 0)
origin k _ whence = 0

-- the new position; the offset is signed, in two words of which the higher comes first
abbrev pub target : KernelState → Descriptor → ℕ → ℕ → ℕ → ℤ
target k file high low whence = pos (origin k file whence) +ℤ cast_signed w64 (high * 2 ^ 32 + low)

-- it is below 0, or no signed 64-bit number
abbrev pub is_out_of_range : ℤ → Bool
is_out_of_range position = int_lt position (pos 0) || int_lt (pos (2 ^ 63 - 1)) position

abbrev pub llseek_tests : Syscall → List (Bool × ℕ)
llseek_tests c =
    let file = descriptor c.kernel (arg c 0) in
    is_closed file ⇒ ebadf
    or not (is_input_file file) ⇒ espipe
    or nat_lt 2 (arg c 4) ⇒ einval
    or is_out_of_range (target c.kernel file (arg c 1) (arg c 2) (arg c 4)) ⇒ einval
    or not (writable c (arg c 3) 8) ⇒ efault

abbrev pub llseek_effect : Syscall → SyscallResult
llseek_effect c =
    let file = descriptor c.kernel (arg c 0) in
    let position = unsigned_abs (target c.kernel file (arg c 1) (arg c 2) (arg c 4)) in
    returns c 0 ▷ sets (arg c 0) (with_position file position) ▷ fills (arg c 3) (to_le_bytes w64 position)

abbrev pub llseek : Syscall → SyscallResult
llseek c = unless c (llseek_tests c) λ _. llseek_effect c

-- ---- read
-- the bytes that are read
abbrev pub read_bytes : Syscall → List ℕ
read_bytes c = take (arg c 2) (bytes_left c.kernel (descriptor c.kernel (arg c 0)))

abbrev pub read_tests : Syscall → List (Bool × ℕ)
read_tests c =
    not (is_source (descriptor c.kernel (arg c 0))) ⇒ ebadf
    or not (writable c (arg c 1) (length (read_bytes c))) ⇒ efault

abbrev pub read_effect : Syscall → SyscallResult
read_effect c =
    let n = length (read_bytes c) in
    returns c n
    ▷ fills (arg c 1) (read_bytes c)
    ▷ changes (advanced (descriptor c.kernel (arg c 0)) (arg c 0) n)

abbrev pub read : Syscall → SyscallResult
read c = unless c (read_tests c) λ _. read_effect c

-- ---- write
-- the most bytes that one call writes
abbrev pub write_limit : ℕ
write_limit = 65536

-- how many bytes are written
abbrev pub write_count : Syscall → ℕ
write_count c = min (arg c 2) write_limit

abbrev pub write_tests : Syscall → List (Bool × ℕ)
write_tests c =
    is_none (channel (descriptor c.kernel (arg c 0))) ⇒ ebadf
    or not (readable c (arg c 1) (write_count c)) ⇒ efault

abbrev pub write_effect : Syscall → SyscallResult
write_effect c =
    let n = write_count c in
    returns c n
    ▷ reads c.tid (arg c 1) n
    ▷ puts (unwrap_or (channel (descriptor c.kernel (arg c 0))) Out) (bytes_at c.memory (arg c 1) n)

abbrev pub write : Syscall → SyscallResult
write c = unless c (write_tests c) λ _. write_effect c

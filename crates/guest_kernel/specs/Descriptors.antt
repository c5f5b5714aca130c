-- What descriptors stand for, and the bytes behind them.
use Rattle.std.specs.Prelude.{ℕ, ◌+◌, Bool, true, false, List, [], drop, slice_index_or, Option, Some, None}
use Rattle.std.specs.List.{position}
use Rattle.guest_kernel.specs.declared.channel.Channel.{Channel}
use Rattle.guest_kernel.specs.declared.descriptor.Descriptor.{Descriptor}
use Rattle.guest_kernel.specs.declared.descriptor.Descriptor.TheVariants.{Closed, StandardInput, Output, InputFile}
use Rattle.guest_kernel.specs.Kernel.{KernelState, with_descriptor}

abbrev pub is_closed : Descriptor → Bool
is_closed Closed = true
is_closed _ = false

abbrev pub is_input_file : Descriptor → Bool
is_input_file (InputFile _ _) = true
is_input_file _ = false

-- standard input or an input file
abbrev pub is_source : Descriptor → Bool
is_source StandardInput = true
is_source (InputFile _ _) = true
is_source _ = false

-- the channel of output
abbrev pub channel : Descriptor → Option Channel
channel (Output n) = Some n
channel _ = None

abbrev pub with_position : Descriptor → ℕ → Descriptor
with_position (InputFile input _) position = InputFile input position
with_position d position = d

-- the bytes of an input, by its index
abbrev pub input_bytes : KernelState → ℕ → List ℕ
input_bytes k input = (slice_index_or k.inputs input (record { name = []; bytes = [] })).bytes

-- the bytes from the position on, of which there is none past the end
abbrev pub bytes_left : KernelState → Descriptor → List ℕ
bytes_left k StandardInput = drop k.stdin_position k.stdin
bytes_left k (InputFile input position) = drop position (input_bytes k input)
bytes_left k _ = []

-- the position of the descriptor moves by `n` bytes
abbrev pub advanced : Descriptor → ℕ → ℕ → KernelState → KernelState
advanced StandardInput fd n k = record k { stdin_position = k.stdin_position + n }
advanced (InputFile input position) fd n k = with_descriptor k fd (InputFile input (position + n))
advanced _ fd n k = k

-- the least number that is free, if one is
abbrev pub least_free : KernelState → Option ℕ
least_free k = position is_closed k.descriptors

-- How much is loaded at most.
use Rattle.std.specs.Prelude.{ℕ}
use Rattle.guest_words.specs.declared.limits.TheConstants.{TRACE_BYTES}
use Rattle.guest_words.specs.declared.limits.TheConstants.{FILE_BYTES, INPUT_BYTES}

-- the greatest length of a file that is loaded
abbrev pub file_limit : ℕ
file_limit = FILE_BYTES

-- the greatest length of the input files and standard input together
abbrev pub inputs_limit : ℕ
inputs_limit = INPUT_BYTES

-- the greatest length of a stored trace that is loaded
abbrev pub trace_limit : ℕ
trace_limit = TRACE_BYTES

-- The numbers of refusals.
use Rattle.std.specs.Prelude.{ℕ, Option, Some, None}
use Rattle.trace_file.specs.declared.errors.TraceError.{TraceError}
use Rattle.trace_file.specs.declared.errors.TraceError.TheVariants as errors

abbrev pub refusal_number : TraceError → Option ℕ
refusal_number errors.Magic = Some 1
refusal_number (errors.Record at) = Some 2
refusal_number (errors.Order at) = Some 3
refusal_number errors.Short = Some 4
refusal_number errors.Memory = None

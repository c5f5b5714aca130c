-- The parts of a size as the slow program keeps them.
use Rattle.std.specs.Prelude.{ℕ, Bool, false, Option, Some, None, if◌then◌else◌}
use Rattle.trace_model.specs.declared.event_kinds.Touch.{Touch}
use Rattle.trace_model.specs.declared.sizes.SizeParts.{SizeParts}
use Rattle.trace_model.specs.Causes.{Cause, Plain, OtherThread, Kernel, is_by}

-- the part of a cause
abbrev pub part_by : Cause → SizeParts → ℕ
part_by Plain parts = parts.plain
part_by OtherThread parts = parts.thread
part_by Kernel parts = parts.kernel

-- each part by its cause
abbrev pub parts_by : (Cause → ℕ) → SizeParts
parts_by count = record { plain = count Plain; thread = count OtherThread; kernel = count Kernel }

-- the touch, if there is one, has the cause
abbrev pub counts_touch : Cause → Option Touch → Bool
counts_touch cause None = false
counts_touch cause (Some touch) = is_by cause touch

abbrev pub one_if : Bool → ℕ
one_if b = if b then 1 else 0

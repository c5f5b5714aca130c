-- The two sinks of a run, and what the guest's writes put on them.
use Rattle.std.specs.Prelude.{◌≡◌, ℕ, ◌<◌, List, length, Option}
use Rattle.host_io.specs.Sink.{SinkState, FailsToAppend, appended}
use Rattle.guest_kernel.specs.declared.channel.Channel.{Channel}
use Rattle.guest_kernel.specs.declared.channel.Channel.TheVariants as channel
use Rattle.guest_run.specs.Run.{Move, bytes_on, sent}

-- what the two sinks mean
pub record Sinks : Type 0 where
  pub out : SinkState
  pub err : SinkState

abbrev pub sinks : SinkState → SinkState → Sinks
sinks out err = record { out = out; err = err }

-- the sinks with what moves put out
abbrev pub with_output : List Move → Sinks → Sinks
with_output moves before = record { out = appended before.out (bytes_on channel.Out moves); err = appended before.err (bytes_on channel.Err moves) }

-- A put of these bytes failed, and some of them came to the sink.
pub record FailsToPut (bytes : List ℕ) (old new : SinkState) : Type 0 where
  pub some : 0 < length bytes
  pub failed : FailsToAppend bytes old new

-- The put of what one step put out failed on a channel; the other channel got nothing.
abbrev pub FailsOn : Channel → Option (Channel × List ℕ) → Sinks → Sinks → Type 0
FailsOn channel.Out out before after = FailsToPut (sent channel.Out out) before.out after.out × (after.err ≡ before.err)
FailsOn channel.Err out before after = FailsToPut (sent channel.Err out) before.err after.err × (after.out ≡ before.out)

-- What holds of the kernel's state between calls.
use Rattle.std.specs.Prelude.{◌≡◌, ℕ, ◌<◌, ◌≤◌, ◌^◌, false, List, [], ◌∷◌, length}
use Rattle.guest_words.specs.declared.limits.TheConstants.{THREADS}
use Rattle.guest_kernel.specs.declared.descriptor.Descriptor.{Descriptor}
use Rattle.guest_kernel.specs.declared.descriptor.Descriptor.TheVariants.{StandardInput, InputFile}
use Rattle.guest_kernel.specs.declared.thread.Thread.{Thread}
use Rattle.guest_kernel.specs.Kernel.{KernelState, lives, is_blocked, descriptor}

-- the numbers of the threads rise, from above one number up to another at most
abbrev pub RisesTo : ℕ → List Thread → ℕ → Type 0
RisesTo low [] last = low ≤ last
RisesTo low (t ∷ threads) last = (low < t.tid) × RisesTo t.tid threads last

-- the position in an input file can be a signed 64-bit number
abbrev pub IsSoundDescriptor : Descriptor → Type 0
IsSoundDescriptor (InputFile input position) = position < 2 ^ 63
IsSoundDescriptor _ = Unit {0}

-- where the next byte of a descriptor is read
abbrev pub position_of : KernelState → Descriptor → ℕ
position_of k StandardInput = k.stdin_position
position_of k (InputFile input position) = position
position_of k _ = 0

pub record IsState (k : KernelState) : Type 0 where
  pub rising : RisesTo 0 k.threads k.last_tid
  pub few : length k.threads ≤ THREADS
  -- who does not live neither waits nor has a deadline
  pub blocked_live : (tid : ℕ) → lives k tid ≡ false → is_blocked k tid ≡ false
  pub stdin_within : k.stdin_position < 2 ^ 63
  pub descriptors_sound : (fd : ℕ) → IsSoundDescriptor (descriptor k fd)

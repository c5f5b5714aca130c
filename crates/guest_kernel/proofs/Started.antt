-- The state at a guest's start.
use Rattle.std.proofs.Common.{◌≡◌, ℕ, zero, suc, List, [], ◌∷◌, arith, refl, sym, subst}
use Rattle.std.specs.Prelude.{replicate, slice_index_or}
use Rattle.guest_kernel.specs.declared.descriptor.Descriptor.{Descriptor}
use Rattle.guest_kernel.specs.declared.descriptor.Descriptor.TheVariants.{Closed}
use Rattle.guest_kernel.specs.Invariant.{IsState, IsSoundDescriptor}
use Rattle.guest_kernel.specs.Inputs.{Input}
use Rattle.guest_kernel.specs.Kernel.{KernelState, started}

abbrev pub AreSound : List Descriptor → Type 0
AreSound [] = Unit {0}
AreSound (d ∷ rest) = IsSoundDescriptor d × AreSound rest

sound_at : (ds : List Descriptor) (fd : ℕ) → AreSound ds → IsSoundDescriptor (slice_index_or ds fd Closed)
sound_at [] fd h = tt
sound_at (d ∷ rest) zero h = h.0
sound_at (d ∷ rest) (suc fd) h = sound_at rest fd h.1

closed_are_sound : (n : ℕ) → AreSound (replicate n Closed)
closed_are_sound zero = tt
closed_are_sound (suc n) = (tt, closed_are_sound n)

started_holds : (inputs : List Input) (stdin : List ℕ) (first_break : ℕ) → IsState (started inputs stdin first_break)
started_holds inputs stdin first_break = record {
  rising = (omega arith, omega arith);
  few = omega arith;
  blocked_live = λ tid h. refl;
  stdin_within = omega arith;
  descriptors_sound = λ fd. sound_at (started inputs stdin first_break).descriptors fd (tt, (tt, (tt, closed_are_sound 29)));
}

pub started_is_state : (k : KernelState) (inputs : List Input) (stdin : List ℕ) (first_break : ℕ) → k ≡ started inputs stdin first_break → IsState k
started_is_state k inputs stdin first_break is = subst IsState (sym is) (started_holds inputs stdin first_break)

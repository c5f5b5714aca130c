-- What the kernel's calls cost the profiler.
use Rattle.std.specs.Prelude.{◌≡◌, ◌≤◌, ℕ, ◌+◌, ◌*◌, ◌/◌, List, [], ◌∷◌, length, map}
use Rattle.guest_calls.specs.Lawful.{bytes_carried}
use Rattle.guest_calls.specs.Results.{Syscall}
use Rattle.guest_calls.specs.Table.{syscall}
use Rattle.guest_calls.specs.Vectors.{part_limit}
use Rattle.guest_words.specs.declared.limits.TheConstants.{SYSCALL_EVENTS}
use Rattle.shadow_core.specs.Costs.{most_untimed}
use Rattle.shadow_core.specs.State.{State}
use Rattle.trace_model.specs.declared.event_kinds.Event.{Event}

-- the most steps that events cost, each from a state of the profiler, without their ticks
abbrev pub untimed : ℕ → List (Event × State) → ℕ
untimed digits [] = 0
untimed digits (met ∷ rest) = untimed digits rest + most_untimed digits met.0 met.1

-- The events are few. They cost at most eight steps each, and 32 and the digits of the depth for each word; the words are at most
-- those that the bytes carried and the longest table of parts, of eight bytes each, fill, and two more for each event.
pub record CostsByBytes (digits bytes : ℕ) (met : List (Event × State)) : Type 0 where
  pub few : length met ≤ SYSCALL_EVENTS
  pub steps : untimed digits met ≤ 8 * length met + (32 + digits) * ((bytes + 8 * part_limit) / 4 + 2 * length met)

-- This holds for the events of each call and the bytes that it carries, of which a refused call has none, whatever the state of
-- the profiler at each event.
abbrev pub KernelCallsCostByTheirBytes : Type 0
KernelCallsCostByTheirBytes =
    (c : Syscall) (digits : ℕ) (met : List (Event × State)) → map (λ m. m.0) met ≡ (syscall c).guest.events
    → CostsByBytes digits (bytes_carried c (syscall c).answer) met

-- Reservations as a list of threads, each with its word, and which of them an invalidation drops.
use Rattle.std.specs.Prelude.{ℕ, Bool, true, not, ◌&&◌, ◌==◌, if◌then◌else◌, List, [], ◌∷◌, Some, None, is_none}
use Rattle.guest_memory.specs.declared.reservations.Invalidation.{Invalidation}
use Rattle.guest_memory.specs.declared.reservations.Invalidation.TheVariants.{OfThread, OnWords}
use Rattle.guest_memory.specs.Memory.{is_among}
use Rattle.guest_memory.specs.Reserved.{Reserved, is_by}

-- the word beside a thread
abbrev pub held_in : List (ℕ × ℕ) → Reserved
held_in [] tid = None
held_in (holder ∷ rest) tid = if tid == holder.0 then Some holder.1 else held_in rest tid

-- whether each thread stands there once
abbrev pub is_distinct : List (ℕ × ℕ) → Bool
is_distinct [] = true
is_distinct (holder ∷ rest) = is_none (held_in rest holder.0) && is_distinct rest

-- whether a holder loses its reservation
abbrev pub is_invalidated : Invalidation → ℕ × ℕ → Bool
is_invalidated (OfThread tid) holder = holder.0 == tid
is_invalidated (OnWords writer first count) holder = not (is_by writer holder.0) && is_among first count holder.1

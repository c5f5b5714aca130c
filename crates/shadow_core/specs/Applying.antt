-- One event of a trace, as a profiler takes it.
use Rattle.std.specs.Prelude.{◌≡◌, ℕ, ◌+◌, ◌<◌, ◌≤◌, true, List, ◌∷◌, ◌++◌, length}
use Rattle.std.specs.Option.{option_map_or}
use Rattle.guest_words.specs.ByThread.{value_of}
use Rattle.trace_model.specs.declared.event_kinds.Event.{Event}
use Rattle.trace_model.specs.declared.event_kinds.Event.TheVariants.{Step, Read, Write, Fill, Start, End, Ret}
use Rattle.trace_model.specs.declared.slow_profile.Done.{Done}
use Rattle.trace_model.specs.Depth.{is_within}
use Rattle.trace_model.specs.Events.{covers}
use Rattle.trace_model.specs.Profile.{ended}
use Rattle.shadow_pages.specs.Pages as pages
use Rattle.stamp_renumber.specs.Threads.{pages_of}
use Rattle.stamp_table.specs.Table.{Table}
use Rattle.stamp_table.specs.Records.{finished}
use Rattle.shadow_core.specs.State.{State}
use Rattle.shadow_core.specs.Profiling.{StandsFor}

-- The event was taken after this past: the profiler stands for the past with it, which fits, and what is recorded more is what
-- the definitions say of the activations that it ends.
pub record IsTaken (most : ℕ) (e : Event) (past : List Event) (new : State) (before after : List Done) : Type 0 where
  pub stands : StandsFor most new (e ∷ past)
  pub fits : is_within most (e ∷ past) ≡ true
  pub recorded : after ≡ before ++ ended e past

-- ---- Pages.
-- Pages of stamps hold the same words as before: of latest writes, of marks, and of the accesses of each thread. No page comes, and
-- none goes.
pub record HasSamePages (old new : State) : Type 0 where
  pub writes : (w : ℕ) → pages.covers new.writes w ≡ pages.covers old.writes w
  pub marks : (w : ℕ) → pages.covers new.marks w ≡ pages.covers old.marks w
  pub accesses : (t w : ℕ) → pages.covers (pages_of new.live.threads t) w ≡ pages.covers (pages_of old.live.threads t) w

-- ---- Events that need no page, and events that need no memory.
-- the stamps of a thread's accesses
abbrev pub access_of : Table → ℕ → ℕ → ℕ
access_of table t = option_map_or (λ thread. thread.access) (value_of table.threads t) (λ l. 0)

-- each word of the range has a stamp
abbrev pub AreInUse : (ℕ → ℕ) → ℕ → ℕ → Type 0
AreInUse stamps first count = (l : ℕ) → covers first count l ≡ true → 0 < stamps l

-- A step, a call and a return need no page of stamps, nor does an access of words that are in use. Of a thread's start and end
-- nothing is said here: its pages come with its accesses, and are freed with it.
abbrev pub NeedsNoPage : Event → Table → Type 0
NeedsNoPage (Read t first count) table = AreInUse (access_of table t) first count
NeedsNoPage (Write t first count) table = AreInUse (access_of table t) first count × AreInUse table.write first count
NeedsNoPage (Fill first count) table = AreInUse table.write first count
NeedsNoPage (Start t entry) table = ⊥
NeedsNoPage (End t) table = ⊥
NeedsNoPage _ table = Unit {0}

-- A step needs no memory; nor does a return where the list of records, which holds `held`, has room for what it ends; nor an access
-- of words that are in use.
abbrev pub DoesNotAllocate : Event → Table → ℕ → ℕ → Type 0
DoesNotAllocate (Step t) table held capacity = Unit {0}
DoesNotAllocate (Ret t target) table held capacity = held + length (finished (Ret t target) table) ≤ capacity
DoesNotAllocate (Read t first count) table held capacity = AreInUse (access_of table t) first count
DoesNotAllocate (Write t first count) table held capacity = AreInUse (access_of table t) first count × AreInUse table.write first count
DoesNotAllocate (Fill first count) table held capacity = AreInUse table.write first count
DoesNotAllocate _ table held capacity = ⊥

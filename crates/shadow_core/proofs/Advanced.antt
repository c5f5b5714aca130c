-- What a tick leaves.
use Rattle.std.proofs.Common.{◌≡◌, ℕ, ◌+◌, ◌*◌, ◌<◌, ◌≤◌, Bool, true, false, cond, List, length, Some, refl, sym, ap, subst, ◌∙◌, arith}
use Rattle.std.proofs.lemmas.List.{length-map}
use Rattle.std.proofs.lemmas.Bool.Decides.{nat_tests}
use Rattle.std.specs.Prelude.{nat_lt}
use Rattle.guest_words.specs.ByThread.{IsRising, numbers, value_of}
use Rattle.shadow_stack.specs.Frames.{Frame}
use Rattle.shadow_pages.specs.Pages.{Page, covers}
use Rattle.stamp_renumber.specs.Threads.{Live, Stamped, all_starts}
use Rattle.stamp_renumber.specs.declared.ticks.Ticked.{Ticked}
use Rattle.stamp_renumber.specs.Ticks.{IsRenumbered, ticked}
use Rattle.shadow_core.specs.Profiling.{Clock, IsAdvanced, IsAsLarge}
use Rattle.shadow_core.proofs.StateEvents.{still_there}
use Rattle.shadow_core.proofs.StateTicks.{ticks_by_parts}

pub as_large : (s : Stamped) → IsAsLarge s s
as_large s = record { spare = refl; frames = refl; covered = λ w. refl; calls = refl }

-- the clock after a tick
abbrev pub clock_after : ℕ → Clock → Live → List Page → Clock
clock_after most old live writes =
    let answer = ticked most old.counter (length (all_starts old.live.threads)) in
    record { counter = answer.counter; writes = writes; live = live; renumbered = old.renumbered + cond answer.renewed 1 0 }

-- what a tick leaves of the threads and the write stamps
pub record IsLeft (old : Clock) (live : Live) (writes : List Page) : Type 0 where
  pub same : numbers live.threads ≡ numbers old.live.threads
  pub each : (t : ℕ) (was : Stamped) → value_of old.live.threads t ≡ Some was →
      (is : Stamped) × (value_of live.threads t ≡ Some is) × IsAsLarge was is
  pub marks : live.marks ≡ old.live.marks
  pub covered : (w : ℕ) → covers writes w ≡ covers old.writes w

left : (old : Clock) (live : Live) (writes : List Page) → IsRenumbered old.live live old.writes writes → IsLeft old live writes
left old live writes all = record {
  same = all.same;
  each = λ t was here.
      let found = still_there old.live.threads live.threads all.same t was here in
      let each = all.each t was found.0 here found.1 in (
        found.0,
        found.1,
        record {
          spare = each.spare;
          frames = ap length each.frames ∙ length-map was.frames (λ (f : Frame). record f { start = _ });
          covered = each.covered;
          calls = each.calls;
        },
      );
  marks = all.marks;
  covered = all.covered;
}

pub advanced : (most : ℕ) (old : Clock) (live : Live) (writes : List Page) → old.counter ≤ most → 3 * length (all_starts old.live.threads) + 3 ≤ most →
    IsRising (numbers old.live.threads) →
    (old.counter < most → (live ≡ old.live) × (writes ≡ old.writes)) →
    (old.counter ≡ most → IsRenumbered old.live live old.writes writes) →
    IsAdvanced most true old (clock_after most old live writes)
advanced most old live writes within room rising low high =
    let rest = by (nat_lt old.counter most) refl in
    record {
      table = λ s. ticks_by_parts most (record s { counter = old.counter; writes = old.writes; live = old.live; renumbered = old.renumbered }) live writes within rising low high;
      same = rest.same;
      each = rest.each;
      marks = rest.marks;
      covered = rest.covered;
      within = fits (nat_lt old.counter most) refl;
    }
  where
    by : (b : Bool) → nat_lt old.counter most ≡ b → IsLeft old live writes
    by true is =
        let under : old.counter < most = grind (arith, nat_tests, is) in
        let same = low under in
        subst (λ (l : Live). IsLeft old l writes) (sym same.0) (subst (λ (ps : List Page). IsLeft old old.live ps) (sym same.1)
        (record { same = refl; each = λ t was here. (was, here, as_large was); marks = refl; covered = λ w. refl }))
    by false is =
        let top : old.counter ≡ most = grind (arith, nat_tests, is, within) in
        left old live writes (high top)

    fits : (b : Bool) → nat_lt old.counter most ≡ b →
        (cond {A = Ticked} b (record { counter = old.counter + 1; renewed = false }) (record { counter = 3 * length (all_starts old.live.threads) + 3; renewed = true })).counter ≤ most
    fits true is = grind (arith, nat_tests, is)
    fits false is = room

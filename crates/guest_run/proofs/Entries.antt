-- The recording of a run is a schedule.
use Rattle.std.proofs.Common.{◌≡◌, ℕ, suc, ◌<◌, ◌≤◌, Bool, true, false, cond, List, [], ◌∷◌, ◌++◌, length, refl, sym, subst, arith}
use Rattle.std.specs.Prelude.{◌==◌, ◌||◌}
use Rattle.std.specs.List.{AllByRecursion, list_any}
use Rattle.std.proofs.lemmas.Bool.{eqb-true}
use Rattle.thread_sched.specs.ScheduleText.{IsEntry}
use Rattle.guest_kernel.specs.declared.thread.Thread.{Thread}
use Rattle.guest_kernel.specs.Invariant.{RisesTo}
use Rattle.guest_kernel.specs.Kernel.{is_thread}
use Rattle.guest_machine.specs.Machine.{MachineState, can_run}
use Rattle.guest_machine.specs.Start.{start}
use Rattle.guest_machine.proofs.Holders.{can_run-lives}
use Rattle.guest_words.specs.declared.limits.TheConstants.{RUN_STEPS}
use Rattle.trace_model.specs.declared.event_kinds.Event.{Event}
use Rattle.guest_run.specs.Laws.{IsPrefix}
use Rattle.guest_run.specs.Machine.{guest}
use Rattle.guest_run.specs.Run.{Move, current, recording, run}
use Rattle.guest_run.specs.Run as runs
use Rattle.guest_run.specs.ObservedRun.{first_past, observed_run}
use Rattle.guest_run.specs.Traces.{EveryRunRecordsEntries}
use Rattle.guest_run.proofs.Bounds.{current-le, observed_run-prefix, observed_within, stays_within}
use Rattle.guest_run.proofs.Guarded.{IsSoundAfter, Steps, each_move, sound_next, sound_woken, start_able, start_sound}

-- ---- the numbers of threads
rises-last : (low : ℕ) (threads : List Thread) (last : ℕ) → RisesTo low threads last → low ≤ last
rises-last low [] last rises = rises
rises-last low (t ∷ threads) last rises = omega (arith, rises.0, rises-last t.tid threads last rises.1)

-- a live thread's number is one of those that rise
among : (low : ℕ) (threads : List Thread) (last tid : ℕ) → RisesTo low threads last → list_any (is_thread tid) threads ≡ true →
    (low < tid) × (tid ≤ last)
among low [] last tid rises any = absurd (cc)
among low (t ∷ threads) last tid rises any = by (t.tid == tid) refl any (among t.tid threads last tid rises.1)
  where
    by : (b : Bool) → (t.tid == tid) ≡ b → (b || list_any (is_thread tid) threads) ≡ true →
        (list_any (is_thread tid) threads ≡ true → (t.tid < tid) × (tid ≤ last)) → (low < tid) × (tid ≤ last)
    by true is any' later =
        let same : t.tid ≡ tid = eqb-true t.tid tid is in
        let most = rises-last t.tid threads last rises.1 in
        (omega (arith, rises.0, same), omega (arith, most, same))
    by false is any' later = let rest = later any' in (omega (arith, rises.0, rest.0), rest.1)

-- the move is of a thread's number
abbrev IsNumbered : Move → Type 0
IsNumbered move = (1 ≤ move.tid) × (move.tid ≤ 4194303)

pub numbered : (m : MachineState) (tid : ℕ) (past : List Event) → IsSoundAfter m past → can_run m tid ≡ true → (1 ≤ tid) × (tid ≤ 4194303)
numbered m tid past sound can =
    let own = among 0 m.kernel.threads m.kernel.last_tid tid sound.0.rising (can_run-lives m tid can) in
    (omega (arith, own.0), omega (arith, own.1, sound.1.last))

run_numbered : Steps IsSoundAfter (λ past moves. AllByRecursion IsNumbered moves)
run_numbered = record {
  keeps = sound_next;
  wakes = sound_woken;
  none = λ past. tt;
  moves = λ opens m tid past moves sound can rest. (numbered m tid past sound can, rest);
}

-- ---- the turns
entries : (moves : List Move) → AllByRecursion IsNumbered moves → length moves ≤ RUN_STEPS → AllByRecursion IsEntry (recording moves)
entries [] each few = tt
entries (move ∷ moves) each few = by move.opens (entries moves each.1 (omega (arith, few)))
  where
    by : (b : Bool) → AllByRecursion IsEntry (recording moves) →
        AllByRecursion IsEntry (cond b (record { tid = move.tid; most = suc (current moves) } ∷ recording moves) (recording moves))
    by true rest = (record { first = each.0.0; last = each.0.1; some = omega arith; most = omega (arith, current-le moves, few) }, rest)
    by false rest = rest

numbered-first : (moves rest : List Move) → AllByRecursion IsNumbered (moves ++ rest) → AllByRecursion IsNumbered moves
numbered-first [] rest each = tt
numbered-first (move ∷ moves) rest each = (each.0, numbered-first moves rest each.1)

pub every_run_entries : EveryRunRecordsEntries
every_run_entries image arguments inputs stdin fits turns budget few =
    let begin = start image arguments inputs stdin in
    let past = first_past image.entry in
    let at = runs.start turns begin in
    let whole = run guest turns budget begin in
    let part = observed_run fits past whole in
    let each : AllByRecursion IsNumbered whole.moves = each_move IsSoundAfter _ run_numbered budget at past (start_sound image arguments inputs stdin) (start_able at refl) in
    let begins : IsPrefix part.moves whole.moves = observed_run-prefix fits past whole in
    record {
      all = entries whole.moves each (omega (arith, stays_within guest turns budget begin, few));
      observed_part = entries part.moves (numbered-first part.moves begins.0 (subst (AllByRecursion IsNumbered) (sym begins.1) each)) (omega (arith, observed_within fits past turns budget begin, few));
    }

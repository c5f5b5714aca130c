-- The clock wakes threads, one after another.
use Rattle.std.proofs.Common.{◌≡◌, ℕ, zero, suc, ◌<◌, ◌≤◌, ◌-◌, true, false, List, length, map, Option, Some, None, refl, ap, ap₂, sym, subst, ◌∙◌, arith}
use Rattle.virtual_clock.specs.declared.deadline.Deadline.{Deadline}
use Rattle.guest_kernel.specs.Invariant.{IsState}
use Rattle.guest_kernel.specs.Kernel.{KernelState, is_thread, lives}
use Rattle.guest_calls.specs.Pages.{IsBreakFree}
use Rattle.std.specs.List.{list_any}
use Rattle.std.specs.Option.{option_map}
use Rattle.std.specs.Prelude.{is_some}
use Rattle.guest_words.specs.ByThread.{value_of}
use Rattle.guest_kernel.specs.Waking.{next_due, woken_by_time}
use Rattle.guest_kernel.proofs.ClockWakings.{awake, keeps_lives, none_due_of_none, one_less, rests}
use Rattle.guest_machine.specs.Laws.{EveryWakingEnds, EveryWakingKeepsThreads, KeepsThreads}
use Rattle.guest_machine.specs.Machine.{Hart, MachineState, registers_of, with_registers}
use Rattle.guest_machine.specs.Sound.{AreAligned, IsSoundMachine}
use Rattle.guest_machine.specs.Waking.{answered, one_woken, with_answer, woken, woken_times}
use Rattle.guest_machine.proofs.Registers.{aligned-with_registers, lives_here, pc_aligned, tids-with_registers}
use Rattle.guest_machine.proofs.Holders.{lives-harts}

-- ---- where none is due
pub idle : (m : MachineState) → next_due m.kernel ≡ None → one_woken m ≡ m
idle m due =
    ap₂ (λ (o : Option Deadline) (k : KernelState). record m { harts = answered o m.harts; kernel = k }) due (sym (rests m.kernel due))

pub idle_times : (n : ℕ) (m : MachineState) → next_due m.kernel ≡ None → woken_times n m ≡ m
unfolding woken_times
idle_times zero m due = refl
idle_times (suc n) m due = ap (woken_times n) (idle m due) ∙ idle_times n m due

pub woken_idle : (m : MachineState) → next_due m.kernel ≡ None → woken m ≡ m
unfolding woken
woken_idle m due = idle_times (length m.kernel.deadlines) m due

-- ---- as many wakings as there are deadlines are enough
enough : (n o : ℕ) (m : MachineState) → length m.kernel.deadlines ≤ n → length m.kernel.deadlines ≤ o → woken_times n m ≡ woken_times o m
unfolding woken_times
enough zero o m below within = sym (idle_times o m (none_due_of_none m.kernel (omega (arith, below))))
enough (suc n) zero m below within = idle_times (suc n) m (none_due_of_none m.kernel (omega (arith, within)))
enough (suc n) (suc o) m below within = by (enough n o (one_woken m)) (next_due m.kernel) refl
  where
    by : (length (one_woken m).kernel.deadlines ≤ n → length (one_woken m).kernel.deadlines ≤ o → woken_times n (one_woken m) ≡ woken_times o (one_woken m)) →
        (due : Option Deadline) → next_due m.kernel ≡ due → woken_times (suc n) m ≡ woken_times (suc o) m
    by rest None is = idle_times (suc n) m is ∙ sym (idle_times (suc o) m is)
    by rest (Some d) is =
        let less = one_less m.kernel d is in
        rest (omega (arith, less, below)) (omega (arith, less, within))

-- one more waking
pub woken_next : (m : MachineState) (d : Deadline) → next_due m.kernel ≡ Some d → woken (one_woken m) ≡ woken m
unfolding woken woken_times
woken_next m d is =
    let less = one_less m.kernel d is in
    let few = length m.kernel.deadlines in
    let next : suc (few - 1) ≡ few = omega (arith, less) in
    enough (length (one_woken m).kernel.deadlines) (few - 1) (one_woken m) (omega arith) (omega (arith, less))
    ∙ ap (λ (n : ℕ). woken_times n m) next

-- ---- afterwards
none_due_after : (n : ℕ) (m : MachineState) → length m.kernel.deadlines ≤ n → next_due (woken_times n m).kernel ≡ None
unfolding woken_times
none_due_after zero m within = none_due_of_none m.kernel (omega (arith, within))
none_due_after (suc n) m within = by (none_due_after n (one_woken m)) (next_due m.kernel) refl
  where
    by : (length (one_woken m).kernel.deadlines ≤ n → next_due (woken_times n (one_woken m)).kernel ≡ None) →
        (due : Option Deadline) → next_due m.kernel ≡ due → next_due (woken_times n (one_woken m)).kernel ≡ None
    by rest None is = ap (λ (s : MachineState). next_due s.kernel) (ap (woken_times n) (idle m is) ∙ idle_times n m is) ∙ is
    by rest (Some d) is = let less = one_less m.kernel d is in rest (omega (arith, less, within))

pub every_waking_ends : EveryWakingEnds
unfolding woken
every_waking_ends m = awake (woken_times (length m.kernel.deadlines) m).kernel (none_due_after (length m.kernel.deadlines) m (omega arith))

-- ---- what stays
tids_answered : (o : Option Deadline) (harts : List Hart) → map (λ h. h.0) (answered o harts) ≡ map (λ h. h.0) harts
tids_answered None harts = refl
tids_answered (Some d) harts = tids-with_registers harts d.tid (with_answer (registers_of harts d.tid) d.answer)

one_keeps : (m : MachineState) → KeepsThreads m (one_woken m)
one_keeps m =
    let k = keeps_lives m.kernel in
    record {
      memory = refl;
      held = refl;
      threads = k.threads;
      last = k.last;
      program_break = k.program_break;
      numbers = tids_answered (next_due m.kernel) m.harts;
    }

times_keep : (n : ℕ) (m : MachineState) → KeepsThreads m (woken_times n m)
unfolding woken_times
times_keep zero m = record { memory = refl; held = refl; threads = refl; last = refl; program_break = refl; numbers = refl }
times_keep (suc n) m =
    let one = one_keeps m in
    let rest = times_keep n (one_woken m) in
    record {
      memory = rest.memory ∙ one.memory;
      held = rest.held ∙ one.held;
      threads = rest.threads ∙ one.threads;
      last = rest.last ∙ one.last;
      program_break = rest.program_break ∙ one.program_break;
      numbers = rest.numbers ∙ one.numbers;
    }

pub every_waking_keeps : EveryWakingKeepsThreads
unfolding woken
every_waking_keeps m = times_keep (length m.kernel.deadlines) m

aligned_answered : (o : Option Deadline) (harts : List Hart) → AreAligned harts → AreAligned (answered o harts)
aligned_answered None harts all = all
aligned_answered (Some d) harts all = aligned-with_registers harts d.tid (with_answer (registers_of harts d.tid) d.answer) all (pc_aligned harts d.tid all)

-- a machine is sound after a waking where its kernel is
pub sound_woken : (m : MachineState) → IsSoundMachine m → IsState (woken_by_time m.kernel) → IsSoundMachine (one_woken m)
sound_woken m sound state =
    let keeps = one_keeps m in
    record {
      same_threads = keeps.numbers ∙ sound.same_threads ∙ ap (map (λ t. t.tid)) (sym keeps.threads);
      aligned = aligned_answered (next_due m.kernel) m.harts sound.aligned;
      state = state;
      holders = λ tid some. ap (λ ts. list_any (is_thread tid) ts) keeps.threads ∙ sound.holders tid some;
      break_free = subst (λ (b : ℕ). IsBreakFree m.memory b) (sym keeps.program_break) sound.break_free;
    }

-- ---- by what the kernel answers
abbrev told : Deadline → ℕ × ℕ
told d = (d.tid, d.answer)

due_none : (o : Option Deadline) → None ≡ option_map told o → o ≡ None
due_none None is = refl
due_none (Some d) is = absurd (cc)

due_some : (o : Option Deadline) (p : ℕ × ℕ) → Some p ≡ option_map told o → (d : Deadline) × (o ≡ Some d) × (d.tid ≡ p.0) × (d.answer ≡ p.1)
due_some None p is = absurd (cc)
due_some (Some d) p is = let same : p ≡ told d = cc in (d, refl, ap (λ (q : ℕ × ℕ). q.0) (sym same), ap (λ (q : ℕ × ℕ). q.1) (sym same))

pub woken_none : (m : MachineState) (k : KernelState) → None ≡ option_map told (next_due m.kernel) → k ≡ woken_by_time m.kernel → record m { kernel = k } ≡ one_woken m
woken_none m k due after = ap₂ (λ (o : Option Deadline) (s : KernelState). record m { harts = answered o m.harts; kernel = s }) (sym (due_none (next_due m.kernel) due)) after

pub woken_some : (m : MachineState) (k : KernelState) (harts : List Hart) (p : ℕ × ℕ) → Some p ≡ option_map told (next_due m.kernel) →
    harts ≡ with_registers m.harts p.0 (with_answer (registers_of m.harts p.0) p.1) → k ≡ woken_by_time m.kernel → record m { harts = harts; kernel = k } ≡ one_woken m
woken_some m k harts p due answers after =
    let found = due_some (next_due m.kernel) p due in
    let d = found.0 in
    let here : with_registers m.harts p.0 (with_answer (registers_of m.harts p.0) p.1) ≡ answered (Some d) m.harts =
    ap₂ (λ (t n : ℕ). with_registers m.harts t (with_answer (registers_of m.harts t) n)) (sym found.2) (sym found.3) in
    ap₂ (λ (hs : List Hart) (s : KernelState). record m { harts = hs; kernel = s }) (answers ∙ here ∙ ap (λ (o : Option Deadline). answered o m.harts) (sym found.1)) after

-- the woken thread has registers
pub has_registers : (m : MachineState) (tid : ℕ) → IsSoundMachine m → lives m.kernel tid ≡ true → is_some (value_of m.harts tid) ≡ true
has_registers m tid sound live = sym (lives_here m.harts tid) ∙ lives-harts m tid sound.same_threads ∙ live

-- ---- by whether one is due
some_is : (o : Option Deadline) → is_some o ≡ true → (d : Deadline) × (o ≡ Some d)
some_is None some = absurd (cc)
some_is (Some d) some = (d, refl)

none_is : (o : Option Deadline) → is_some o ≡ false → o ≡ None
none_is None none = refl
none_is (Some d) none = absurd (cc)

pub woken_on : (m : MachineState) → is_some (next_due m.kernel) ≡ true → woken (one_woken m) ≡ woken m
woken_on m some = let found = some_is (next_due m.kernel) some in woken_next m found.0 found.1

pub less_on : (m : MachineState) → is_some (next_due m.kernel) ≡ true → length (one_woken m).kernel.deadlines < length m.kernel.deadlines
less_on m some = let found = some_is (next_due m.kernel) some in one_less m.kernel found.0 found.1

pub woken_off : (m : MachineState) → is_some (next_due m.kernel) ≡ false → one_woken m ≡ woken m
woken_off m none = let due = none_is (next_due m.kernel) none in idle m due ∙ sym (woken_idle m due)

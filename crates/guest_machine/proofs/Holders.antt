-- Live threads, and those that have a reservation.
use Rattle.std.proofs.Common.{◌≡◌, ℕ, ◌<◌, ◌≤◌, ◌-◌, suc, List, [], ◌∷◌, length, map, Bool, true, false, ◌||◌, ap, sym, refl, ◌∙◌, arith, Option, cond}
use Rattle.std.specs.Prelude.{◌==◌, is_some}
use Rattle.std.specs.List.{Contains, list_any}
use Rattle.std.proofs.lemmas.Bool.Decides.{nat_tests}
use Rattle.std.proofs.lemmas.List.{length-map}
use Rattle.std.proofs.lemmas.Bool.{eqb-true}
use Rattle.guest_words.specs.declared.limits.TheConstants.{THREADS}
use Rattle.guest_memory.specs.Reserved.{HoldAtMost, without_thread}
use Rattle.guest_memory.proofs.CallerLemmas.{some_of_rest}
use Rattle.guest_kernel.specs.Kernel.{lives}
use Rattle.guest_kernel.proofs.Blocked as calls
use Rattle.guest_machine.specs.Machine.{Hart, MachineState, can_run, without_hart}
use Rattle.guest_words.specs.ByThread.{value_of}
use Rattle.guest_machine.specs.Kept.{Parts, machine_of}
use Rattle.guest_machine.specs.Sound.{IsSoundMachine}
use Rattle.guest_machine.proofs.Registers.{lives_here}
use Rattle.guest_calls.proofs.Lawful.{any_thread}

-- a number among the threads, by the threads of the machine or of the kernel
any_hart : (harts : List Hart) (tid : ℕ) → list_any (λ h. h.0 == tid) harts ≡ list_any (λ n. n == tid) (map (λ h. h.0) harts)
any_hart [] tid = refl
any_hart (h ∷ harts) tid = ap (λ b. (h.0 == tid) || b) (any_hart harts tid)

pub lives-harts : (m : MachineState) (tid : ℕ) → map (λ h. h.0) m.harts ≡ map (λ t. t.tid) m.kernel.threads → list_any (λ h. h.0 == tid) m.harts ≡ lives m.kernel tid
lives-harts m tid same = any_hart m.harts tid ∙ ap (list_any (λ n. n == tid)) same ∙ sym (any_thread m.kernel.threads tid)

pub can_run-lives : (m : MachineState) (tid : ℕ) → can_run m tid ≡ true → lives m.kernel tid ≡ true
can_run-lives m tid can = calls.can_run-lives m.kernel tid can

-- a thread that can run has registers
pub lives_kept : (m : MachineState) (tid : ℕ) → IsSoundMachine m → can_run m tid ≡ true → is_some (value_of m.harts tid) ≡ true
lives_kept m tid sound can = sym (lives_here m.harts tid) ∙ lives-harts m tid sound.same_threads ∙ can_run-lives m tid can

-- the other threads are fewer
fewer_by : (h : Hart) (harts : List Hart) (tid : ℕ) (b : Bool) → (h.0 == tid) ≡ b → list_any (λ g. g.0 == tid) (h ∷ harts) ≡ true → length (without_hart harts tid) ≤ length harts → (list_any (λ g. g.0 == tid) harts ≡ true → length (without_hart harts tid) < length harts) → length (without_hart (h ∷ harts) tid) < length (h ∷ harts)
fewer_by h harts tid true is any most rest = rw is (omega (arith, most))
fewer_by h harts tid false is any most rest =
    let later : list_any (λ g. g.0 == tid) harts ≡ true = rw is at any in
    let below : length (without_hart harts tid) < length harts = rest later in
    rw is (omega (arith, below))

most_by : (h : Hart) (harts : List Hart) (tid : ℕ) (b : Bool) → (h.0 == tid) ≡ b → length (without_hart harts tid) ≤ length harts → length (without_hart (h ∷ harts) tid) ≤ length (h ∷ harts)
most_by h harts tid true is rest = rw is (omega (arith, rest))
most_by h harts tid false is rest = rw is (omega (arith, rest))

pub fewer_or_same : (harts : List Hart) (tid : ℕ) → length (without_hart harts tid) ≤ length harts
fewer_or_same [] tid = omega arith
fewer_or_same (h ∷ harts) tid = most_by h harts tid (h.0 == tid) refl (fewer_or_same harts tid)

fewer : (harts : List Hart) (tid : ℕ) → list_any (λ g. g.0 == tid) harts ≡ true → length (without_hart harts tid) < length harts
fewer [] tid any = absurd (cc)
fewer (h ∷ harts) tid any = fewer_by h harts tid (h.0 == tid) refl any (fewer_or_same harts tid) (fewer harts tid)

-- and each live one but the thread is among them
Contains-later : (x : ℕ) (xs : List ℕ) (q : ℕ) → Contains xs q → Contains (x ∷ xs) q
Contains-later x xs q (k, low, is) = (suc k, omega (arith, low), is)

other_by : (h : Hart) (harts : List Hart) (q tid : ℕ) (b d : Bool) → (h.0 == q) ≡ b → (h.0 == tid) ≡ d → list_any (λ g. g.0 == q) (h ∷ harts) ≡ true → (q ≡ tid → ⊥) → (list_any (λ g. g.0 == q) harts ≡ true → Contains (map (λ g. g.0) (without_hart harts tid)) q) → Contains (map (λ g. g.0) (without_hart (h ∷ harts) tid)) q
other_by h harts q tid true true is gone any differs rest = absurd (differs (sym (eqb-true h.0 q is) ∙ eqb-true h.0 tid gone))
other_by h harts q tid true false is gone any differs rest = rw gone (0, omega arith, eqb-true h.0 q is)
other_by h harts q tid false true is gone any differs rest =
    let later : list_any (λ g. g.0 == q) harts ≡ true = rw is at any in
    rw gone (rest later)
other_by h harts q tid false false is gone any differs rest =
    let later : list_any (λ g. g.0 == q) harts ≡ true = rw is at any in
    rw gone (Contains-later h.0 _ q (rest later))

other : (harts : List Hart) (q tid : ℕ) → list_any (λ g. g.0 == q) harts ≡ true → (q ≡ tid → ⊥) → Contains (map (λ g. g.0) (without_hart harts tid)) q
other [] q tid any differs = absurd (cc)
other (h ∷ harts) q tid any differs = other_by h harts q tid (h.0 == q) (h.0 == tid) refl refl any differs (λ later. other harts q tid later differs)

gone_by : (q tid : ℕ) (held : Option ℕ) (b : Bool) → (q == tid) ≡ b → is_some (cond b Option.None held) ≡ true → q ≡ tid → ⊥
gone_by q tid held true is some same = cc
gone_by q tid held false is some same = grind (arith, nat_tests)

-- So fewer than `THREADS` threads beside one that lives have a reservation.
pub HoldAtMost-others : (m : MachineState) (tid : ℕ) → IsSoundMachine m → can_run m tid ≡ true → HoldAtMost (without_thread m.held tid) (THREADS - 1)
HoldAtMost-others m tid sound can =
    let own : list_any (λ g. g.0 == tid) m.harts ≡ true = lives-harts m tid sound.same_threads ∙ can_run-lives m tid can in
    let count : length m.harts ≡ length m.kernel.threads = sym (length-map m.harts (λ h. h.0)) ∙ ap length sound.same_threads ∙ length-map m.kernel.threads (λ t. t.tid) in
    record {
      holders = map (λ g. g.0) (without_hart m.harts tid);
      few = let low = fewer m.harts tid own in rw length-map (omega (arith, low, count, sound.state.few));
      each = λ q some.
          let held : is_some (m.held q) ≡ true = some_of_rest (q == tid) (m.held q) some in
          other m.harts q tid (lives-harts m q sound.same_threads ∙ sound.holders q held) (gone_by q tid (m.held q) (q == tid) refl some);
    }

-- a thread can run on parts that are the same
pub able_on : (p q : Parts) (tid : ℕ) → p ≡ q → can_run (machine_of q) tid ≡ true → can_run (machine_of p) tid ≡ true
able_on p q tid same can = ap (λ (r : Parts). can_run (machine_of r) tid) same ∙ can

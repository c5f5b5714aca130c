-- Threads that the clock wakes.
use Rattle.std.proofs.Common.{◌≡◌, ◌⊎◌, ℕ, zero, suc, ◌<◌, ◌≤◌, Bool, true, false, cond, List, [], ◌∷◌, length, Option, Some, None, arith, refl, ap, ap₂, sym, subst, ◌∙◌, inl, inr}
use Rattle.std.specs.Prelude.{not, ◌||◌, ◌==◌, All, max, slice_index_or, nat_le}
use Rattle.std.specs.Option.{option_map}
use Rattle.std.proofs.lemmas.Bool.{eq-eqb}
use Rattle.std.proofs.lemmas.Bool.Decides.{nat_tests}
use Rattle.std.proofs.Math.Bool.{or-true}
use Rattle.virtual_clock.specs.declared.deadline.Deadline.{Deadline}
use Rattle.virtual_clock.specs.Once.{has}
use Rattle.virtual_clock.specs.Order.{IsEarliest, due_now, due_of, first_of}
use Rattle.virtual_clock.specs.Steps.{after_due, after_forget, without}
use Rattle.futex_table.specs.Waiting as futexes
use Rattle.futex_table.proofs.Partitions.{waits-filter}
use Rattle.virtual_clock.proofs.Threads.{has-filter}
use Rattle.virtual_clock.proofs.FirstOnes.{earliest_is, found_first, none_due}
use Rattle.guest_kernel.specs.Invariant.{IsState}
use Rattle.guest_kernel.specs.Kernel.{KernelState, lives}
use Rattle.guest_kernel.specs.Laws.{WakesExactly}
use Rattle.guest_kernel.specs.Waking.{IsAwake, moved_on, next_due, no_sooner, some_can_run, woken_by, woken_by_time}
use Rattle.guest_kernel.proofs.Blocked.{unblocked_parts}

-- ---- the time goes on
pub moved_none : (k : KernelState) → option_map (λ (d : Deadline). d.at) (first_of k.deadlines) ≡ None → k ≡ moved_on k
moved_none k none = by (first_of k.deadlines) refl none
  where
    same : (b : Bool) → k ≡ cond b k k
    same true = refl
    same false = refl

    by : (o : Option Deadline) → first_of k.deadlines ≡ o → option_map (λ (d : Deadline). d.at) o ≡ None → k ≡ cond (some_can_run k) k (record k { time = no_sooner k.time o })
    by None is none = same (some_can_run k)
    by (Some d) is none = absurd (cc)

pub moved_able : (k : KernelState) → some_can_run k ≡ true → k ≡ moved_on k
moved_able k can = sym (ap (λ (b : Bool). cond b k (record k { time = no_sooner k.time (first_of k.deadlines) })) can)

no_earlier : (k : KernelState) → k.time ≤ (moved_on k).time
no_earlier k = by (some_can_run k) (first_of k.deadlines)
  where
    by : (b : Bool) (o : Option Deadline) → k.time ≤ (cond b k (record k { time = no_sooner k.time o })).time
    by true o = omega arith
    by false None = omega arith
    by false (Some d) = grind arith

-- ---- which deadline is due
pub due-first : (ds : List Deadline) (now : ℕ) (d : Deadline) → due_of ds now ≡ Some d → first_of ds ≡ Some d
due-first ds now d is = by (first_of ds) is
  where
    by_test : (b : Bool) (e : Deadline) → cond b (Some e) None ≡ Some d → Some e ≡ Some d
    by_test true e is = is
    by_test false e is = absurd (cc)

    by : (o : Option Deadline) → due_now o now ≡ Some d → o ≡ Some d
    by None is = absurd (cc)
    by (Some e) is = by_test (nat_le e.at now) e is

-- who has one of the deadlines has a deadline
pub has-at : (ds : List Deadline) (i : ℕ) (d : Deadline) → i < length ds → has ds (slice_index_or ds i d).tid ≡ true
has-at [] i d inside = absurd (omega arith)
has-at (e ∷ ds) zero d inside = ap (λ (b : Bool). b || has ds e.tid) (eq-eqb e.tid e.tid refl)
has-at (e ∷ ds) (suc i) d inside =
    let later = has-at ds i d (omega (arith, inside)) in
    ap (λ (b : Bool). (e.tid == (slice_index_or ds i d).tid) || b) later ∙ or-true (e.tid == (slice_index_or ds i d).tid)

-- the thread of the deadline that is due has one
due_has : (k : KernelState) (d : Deadline) → next_due k ≡ Some d → has k.deadlines d.tid ≡ true
due_has k d due =
    let inside = (found_first k.deadlines d (due-first k.deadlines (moved_on k).time d due)).0 in
    subst (λ (e : Deadline). has k.deadlines e.tid ≡ true) inside.2 (has-at k.deadlines inside.0 d inside.1)

-- and it lives
pub due_lives : (k : KernelState) (d : Deadline) → IsState k → next_due k ≡ Some d → lives k d.tid ≡ true
due_lives k d is due =
    by (lives k d.tid) refl (due_has k d due)
  where
    by : (b : Bool) → lives k d.tid ≡ b → has k.deadlines d.tid ≡ true → lives k d.tid ≡ true
    by true here own = here
    by false here own = let none = (unblocked_parts k d.tid (is.blocked_live d.tid here)).1 in absurd (cc)

-- ---- none is due exactly where all that can are awake
none_left : (k : KernelState) → some_can_run k ≡ false → next_due k ≡ None → k.deadlines ≡ []
none_left k none due = by (first_of k.deadlines) refl
  where
    by : (o : Option Deadline) → first_of k.deadlines ≡ o → k.deadlines ≡ []
    by None is = subst (λ (f : Option Deadline). IsEarliest k.deadlines (option_map (λ (d : Deadline). d.at) f)) is (earliest_is k.deadlines)
    by (Some d) is =
        let here : due_now (Some d) (max k.time d.at) ≡ None =
        sym (ap (λ (b : Bool). due_now (Some d) (cond b k (record k { time = no_sooner k.time (Some d) })).time) none)
        ∙ sym (ap (λ (f : Option Deadline). due_now f (cond (some_can_run k) k (record k { time = no_sooner k.time f })).time) is)
        ∙ due in
        let yes : nat_le d.at (max k.time d.at) ≡ true = grind (arith, nat_tests) in
        let bad : Some d ≡ None = sym (ap (λ (b : Bool). cond b (Some d) None) yes) ∙ here in
        absurd (cc)

pub awake : (k : KernelState) → next_due k ≡ None → IsAwake k
awake k due = record {
  none_due = λ i d inside. let ahead = none_due k.deadlines (moved_on k).time due i d inside in omega (arith, no_earlier k, ahead);
  able = by (some_can_run k) refl;
}
  where
    by : (b : Bool) → some_can_run k ≡ b → (some_can_run k ≡ true) ⊎ (k.deadlines ≡ [])
    by true is = inl is
    by false is = inr (none_left k is due)

none_now : (ds : List Deadline) (now : ℕ) → All (λ (d : Deadline). now < d.at) ds → due_of ds now ≡ None
none_now ds now ahead = by (first_of ds) refl
  where
    by : (o : Option Deadline) → first_of ds ≡ o → due_now o now ≡ None
    by None is = refl
    by (Some d) is =
        let inside = (found_first ds d is).0 in
        let later : now < d.at = subst (λ (e : Deadline). now < e.at) inside.2 (ahead inside.0 d inside.1) in
        let no : nat_le d.at now ≡ false = grind (arith, nat_tests, later) in
        ap (λ (b : Bool). cond b (Some d) None) no

all_ahead : (k : KernelState) → IsAwake k → next_due k ≡ None
all_ahead k is = elim is.able [
  | inl can ↦ ap (λ (s : KernelState). due_of k.deadlines s.time) (sym (moved_able k can)) ∙ none_now k.deadlines k.time is.none_due
  | inr none ↦ ap (λ (ds : List Deadline). due_of ds (moved_on k).time) none
]

pub wakes_exactly : WakesExactly
wakes_exactly k = (awake k, all_ahead k)

-- and then nothing changes
pub rests : (k : KernelState) → next_due k ≡ None → k ≡ woken_by_time k
rests k due =
    let still : k ≡ moved_on k = elim (awake k due).able [
      | inl can ↦ moved_able k can
      | inr none ↦ moved_none k (ap (λ (ds : List Deadline). option_map (λ (d : Deadline). d.at) (first_of ds)) none)
    ] in
    still ∙ ap (λ (o : Option Deadline). woken_by o (moved_on k)) (sym due)

-- ---- a deadline less
fewer_cond : (b : Bool) (d : Deadline) (rest : List Deadline) (n : ℕ) → length rest ≤ n → (b ≡ false → length rest < n) → length (cond (not b) (d ∷ rest) rest) < suc n
fewer_cond true d rest n most less = omega (arith, most)
fewer_cond false d rest n most less = let h = less refl in omega (arith, h)

no_more_left : (ds : List Deadline) (tid : ℕ) → length (after_forget ds tid) ≤ length ds
no_more_left [] tid = omega arith
no_more_left (d ∷ ds) tid = by (d.tid == tid) (no_more_left ds tid)
  where
    by : (b : Bool) → length (after_forget ds tid) ≤ length ds → length (cond (not b) (d ∷ after_forget ds tid) (after_forget ds tid)) ≤ suc (length ds)
    by true h = omega (arith, h)
    by false h = omega (arith, h)

fewer_left : (ds : List Deadline) (tid : ℕ) → has ds tid ≡ true → length (after_forget ds tid) < length ds
fewer_left [] tid own = absurd (cc)
fewer_left (d ∷ ds) tid own =
    fewer_cond (d.tid == tid) d (after_forget ds tid) (length ds) (no_more_left ds tid)
    (λ other. fewer_left ds tid (ap (λ (b : Bool). b || has ds tid) (sym other) ∙ own))

pub moved_deadlines : (b : Bool) (k : KernelState) (o : Option Deadline) → (cond b k (record k { time = no_sooner k.time o })).deadlines ≡ k.deadlines
moved_deadlines true k o = refl
moved_deadlines false k o = refl

pub one_less : (k : KernelState) (d : Deadline) → next_due k ≡ Some d → length (woken_by_time k).deadlines < length k.deadlines
one_less k d due =
    let less = fewer_left k.deadlines d.tid (due_has k d due) in
    let after : length (woken_by_time k).deadlines ≡ length (after_forget k.deadlines d.tid) =
    ap (λ (o : Option Deadline). length (woken_by o (moved_on k)).deadlines) due
    ∙ ap (λ (ds : List Deadline). length (after_forget ds d.tid)) (moved_deadlines (some_can_run k) k (first_of k.deadlines)) in
    omega (arith, less, after)

pub none_due_of_none : (k : KernelState) → length k.deadlines ≡ 0 → next_due k ≡ None
none_due_of_none k none = by k.deadlines refl none
  where
    by : (ds : List Deadline) → k.deadlines ≡ ds → length ds ≡ 0 → next_due k ≡ None
    by [] is none = ap (λ (xs : List Deadline). due_of xs (moved_on k).time) is
    by (d ∷ ds) is none = absurd (omega (arith, none))

-- ---- what stays
pub record KeepsLives (k new : KernelState) : Type 0 where
  pub threads : new.threads ≡ k.threads
  pub last : new.last_tid ≡ k.last_tid
  pub program_break : new.program_break ≡ k.program_break

pub keeps_lives : (k : KernelState) → KeepsLives k (woken_by_time k)
keeps_lives k = by (some_can_run k) (first_of k.deadlines) (next_due k)
  where
    by : (b : Bool) (first due : Option Deadline) → KeepsLives k (woken_by due (cond b k (record k { time = no_sooner k.time first })))
    by true first None = record { threads = refl; last = refl; program_break = refl }
    by true first (Some d) = record { threads = refl; last = refl; program_break = refl }
    by false first None = record { threads = refl; last = refl; program_break = refl }
    by false first (Some d) = record { threads = refl; last = refl; program_break = refl }

-- ---- the state stays sound
has_after-due : (ds : List Deadline) (now q : ℕ) → has ds q ≡ false → has (after_due ds now) q ≡ false
has_after-due ds now q none = by (due_of ds now)
  where
    by : (o : Option Deadline) → has (without ds o) q ≡ false
    by None = none
    by (Some d) = has-filter (λ e. not (e.tid == d.tid)) ds q none

due_state : (k : KernelState) (now tid : ℕ) → IsState k → IsState (record k { waiting = futexes.after_forget k.waiting tid; deadlines = after_due k.deadlines now })
due_state k now tid is = record {
  rising = is.rising;
  few = is.few;
  blocked_live = λ q gone.
      let parts = unblocked_parts k q (is.blocked_live q gone) in
      ap₂ (λ (a b : Bool). a || b) (waits-filter (λ w. not (w.tid == tid)) k.waiting q parts.0) (has_after-due k.deadlines now q parts.1);
  stdin_within = is.stdin_within;
  descriptors_sound = is.descriptors_sound;
}

pub due_is_state : (k new : KernelState) (now tid : ℕ) → IsState k → new ≡ record k { waiting = futexes.after_forget k.waiting tid; deadlines = after_due k.deadlines now } → IsState new
due_is_state k new now tid is after = subst IsState (sym after) (due_state k now tid is)

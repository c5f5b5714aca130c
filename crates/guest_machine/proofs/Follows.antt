-- The events of a step may follow the past that the machine stands for.
use Rattle.std.proofs.Common.{◌≡◌, ℕ, ◌+◌, ◌<◌, ◌≤◌, ◌^◌, ◌%◌, Bool, true, false, cond, List, [], ◌∷◌, ◌++◌, map, reverse, append_assoc, refl, sym, ap, ap₂, subst, ◌∙◌, arith, Ok, Err, inl, inr}
use Rattle.std.specs.Prelude.{◌==◌, ◌&&◌, ◌||◌, not, nat_eq, filter, Result}
use Rattle.std.specs.List.{list_any}
use Rattle.std.proofs.lemmas.Bool.{cases_eq, eq-eqb}
use Rattle.std.proofs.lemmas.Bool.Decides.{nat_tests}
use Rattle.std.proofs.Math.Bool.{and-false, or-false, or-true}
use Rattle.std.proofs.lemmas.List.{reverse-append}
use Rattle.std.proofs.lemmas.List.Folds.{list_any-append}
use Rattle.guest_words.specs.declared.endings.FaultKind.{FaultKind}
use Rattle.guest_kernel.proofs.Blocked.{can_run-lives}
use Rattle.rv_isa.specs.declared.instruction.Instr.{Instr}
use Rattle.rv_exec.specs.Effects.{ExecState, effect}
use Rattle.rv_exec.specs.Laws.{AccessesMemory, IsInMemory}
use Rattle.rv_exec.proofs.Reach.{effect_accesses}
use Rattle.rv_exec.specs.declared.outcome.Access.{Access}
use Rattle.rv_exec.specs.declared.outcome.Access.TheVariants as access
use Rattle.rv_exec.specs.declared.outcome.Outcome.{Outcome}
use Rattle.rv_exec.specs.declared.outcome.Outcome.TheVariants as outcome
use Rattle.call_tracker.specs.Links.{kind_of}
use Rattle.call_tracker.specs.declared.jumps.JumpKind.{JumpKind}
use Rattle.call_tracker.specs.declared.jumps.JumpKind.TheVariants.{Nothing, Push, Pop, PopPush}
use Rattle.trace_model.specs.declared.event_kinds.Event.{Event}
use Rattle.trace_model.specs.declared.event_kinds.Event.TheVariants.{Step, Read, Write, Fill, Call, Ret, Start, End}
use Rattle.trace_model.specs.WellFormed.{AreWords, IsRunning, greatest_start, is_live}
use Rattle.guest_kernel.specs.declared.answer.Answer.{Answer}
use Rattle.guest_kernel.specs.declared.answer.Answer.TheVariants.{Back, Yield, Block, ThreadEnd, ProcessEnd, Born}
use Rattle.guest_kernel.specs.declared.thread.Thread.{Thread}
use Rattle.guest_kernel.specs.Kernel.{KernelState, lives}
use Rattle.guest_kernel.specs.Invariant.{RisesTo}
use Rattle.guest_calls.specs.Lawful.{AreCopies, GivesNumber, tids_after}
use Rattle.guest_calls.specs.Table.{syscall}
use Rattle.guest_calls.proofs.AllCalls.{every_syscall_is_lawful}
use Rattle.guest_machine.specs.Machine.{Hart, MachineState, later, registers_of}
use Rattle.guest_machine.specs.Laws.{EachFollows, EveryStepContinues, MachineStandsFor}
use Rattle.guest_machine.specs.Step.{access_events, after_syscall, after_effect, syscall_of, exec_state_of, executed, jump_events, life_events, next_instruction, pc_of, step, with_exec_state}
use Rattle.guest_machine.proofs.Called.{after_tids}
use Rattle.guest_calls.proofs.Lawful.{any_thread}
use Rattle.guest_machine.proofs.Registers.{tids-with_registers}

-- ---- events after a past
-- the past with these events, in order
abbrev grown : List Event → List Event → List Event
grown [] past = past
grown (e ∷ events) past = grown events (e ∷ past)

grown-is : (events past : List Event) → grown events past ≡ reverse events ++ past
grown-is [] past = refl
grown-is (e ∷ events) past =
    grown-is events (e ∷ past)
    ∙ sym (ap (λ es. es ++ past) (reverse-append (e ∷ []) events) ∙ append_assoc (reverse events) (e ∷ []) past)

grown-append : (xs ys past : List Event) → grown (xs ++ ys) past ≡ grown ys (grown xs past)
grown-append [] ys past = refl
grown-append (e ∷ xs) ys past = grown-append xs ys (e ∷ past)

follows-append : (xs ys past : List Event) → EachFollows xs past → EachFollows ys (grown xs past) →
    EachFollows (xs ++ ys) past
follows-append [] ys past front back = back
follows-append (e ∷ xs) ys past front back = (front.0, follows-append xs ys (e ∷ past) front.1 back)

-- ---- accesses, calls and returns of the running thread
abbrev IsOwn : ℕ → Event → Type 0
IsOwn tid (Read t first count) = (t ≡ tid) × AreWords first count
IsOwn tid (Write t first count) = (t ≡ tid) × AreWords first count
IsOwn tid (Fill first count) = AreWords first count
IsOwn tid (Call t entry back) = t ≡ tid
IsOwn tid (Ret t target) = t ≡ tid
IsOwn tid _ = ⊥

abbrev AreOwn : ℕ → List Event → Type 0
AreOwn tid [] = Unit {0}
AreOwn tid (e ∷ events) = IsOwn tid e × AreOwn tid events

-- the same threads live
abbrev IsSameLife : List Event → List Event → Type 0
IsSameLife past next = ((t : ℕ) → is_live next t ≡ is_live past t) × (greatest_start next ≡ greatest_start past)

own_follows : (tid : ℕ) (events past : List Event) → AreOwn tid events → IsRunning past tid →
    EachFollows events past × IsSameLife past (grown events past)
own_follows tid [] past own running = (tt, ((λ t. refl), refl))
own_follows tid (Read t first count ∷ events) past own running =
    let rest = own_follows tid events (Read t first count ∷ past) own.1 running in
    (((subst (IsRunning past) (sym own.0.0) running, own.0.1), rest.0), rest.1)
own_follows tid (Write t first count ∷ events) past own running =
    let rest = own_follows tid events (Write t first count ∷ past) own.1 running in
    (((subst (IsRunning past) (sym own.0.0) running, own.0.1), rest.0), rest.1)
own_follows tid (Fill first count ∷ events) past own running =
    let rest = own_follows tid events (Fill first count ∷ past) own.1 running in
    ((own.0, rest.0), rest.1)
own_follows tid (Call t entry back ∷ events) past own running =
    let rest = own_follows tid events (Call t entry back ∷ past) own.1 running in
    ((subst (IsRunning past) (sym own.0) running, rest.0), rest.1)
own_follows tid (Ret t target ∷ events) past own running =
    let rest = own_follows tid events (Ret t target ∷ past) own.1 running in
    ((subst (IsRunning past) (sym own.0) running, rest.0), rest.1)
own_follows tid (Step t ∷ events) past own running = absurd own.0
own_follows tid (Start t entry ∷ events) past own running = absurd own.0
own_follows tid (End t ∷ events) past own running = absurd own.0

own-append : (tid : ℕ) (xs ys : List Event) → AreOwn tid xs → AreOwn tid ys → AreOwn tid (xs ++ ys)
own-append tid [] ys front back = back
own-append tid (e ∷ xs) ys front back = (front.0, own-append tid xs ys front.1 back)

copies_own : (tid : ℕ) (events : List Event) → AreCopies tid events → AreOwn tid events
copies_own tid [] copies = tt
copies_own tid (Read t first count ∷ events) copies = (copies.0, copies_own tid events copies.1)
copies_own tid (Fill first count ∷ events) copies = (copies.0, copies_own tid events copies.1)
copies_own tid (_ ∷ events) copies = absurd copies.0

access_own : (tid : ℕ) (a : Access) → IsInMemory a → AreOwn tid (access_events tid a)
access_own tid access.Nothing few = tt
access_own tid (access.Read first count) few = ((refl, (few.0, few.2)), tt)
access_own tid (access.Write first count) few = ((refl, (few.0, few.2)), tt)
access_own tid (access.Both word) few =
    let words : AreWords word 1 = (omega arith, omega (arith, few)) in
    ((refl, words), ((refl, words), tt))

jump_own : (kind : JumpKind) (tid target back : ℕ) → AreOwn tid (jump_events kind tid target back)
jump_own Nothing tid target back = tt
jump_own Push tid target back = (refl, tt)
jump_own Pop tid target back = (refl, tt)
jump_own PopPush tid target back = (refl, (refl, tt))

-- ---- live threads
-- the numbers rise, from above one up to another at most
abbrev Rises : ℕ → List ℕ → ℕ → Type 0
Rises low [] last = low ≤ last
Rises low (n ∷ ns) last = (low < n) × Rises n ns last

rises-lower : (low n : ℕ) (ns : List ℕ) (last : ℕ) → low ≤ n → Rises n ns last → Rises low ns last
rises-lower low n [] last below h = omega (arith, h, below)
rises-lower low n (k ∷ ns) last below h = (omega (arith, h.0, below), h.1)

rises-push : (low : ℕ) (ns : List ℕ) (last n : ℕ) → Rises low ns last → last < n → Rises low (ns ++ n ∷ []) n
rises-push low [] last n h above = (omega (arith, h, above), omega arith)
rises-push low (k ∷ ns) last n h above = (h.0, rises-push k ns last n h.1 above)

rises-filter : (test : ℕ → Bool) (low : ℕ) (ns : List ℕ) (last : ℕ) → Rises low ns last →
    Rises low (filter test ns) last
rises-filter test low [] last h = h
rises-filter test low (n ∷ ns) last h = by (test n) (rises-filter test n ns last h.1)
  where
    by : (b : Bool) → Rises n (filter test ns) last → Rises low (cond b (n ∷ filter test ns) (filter test ns)) last
    by true rest = (h.0, rest)
    by false rest = rises-lower low n (filter test ns) last (omega (arith, h.0)) rest

-- no number at or below the first is among them
not_among : (low : ℕ) (ns : List ℕ) (last t : ℕ) → Rises low ns last → t ≤ low → list_any (λ n. n == t) ns ≡ false
not_among low [] last t h below = refl
not_among low (n ∷ ns) last t h below =
    let apart : (n == t) ≡ false = let above : low < n = h.0 in grind (arith, nat_tests, above, below) in
    ap₂ (λ (a b : Bool). a || b) apart (not_among n ns last t h.1 (omega (arith, h.0, below)))

-- these threads live after the past, and the greatest number that started is no greater than the last one given
record Lives (past : List Event) (tids : List ℕ) (last : ℕ) : Type 0 where
  live : (t : ℕ) → is_live past t ≡ list_any (λ n. n == t) tids
  greatest : greatest_start past ≤ last
  rising : Rises 0 tids last

lives_same : (past next : List Event) (tids : List ℕ) (last : ℕ) → IsSameLife past next → Lives past tids last →
    Lives next tids last
lives_same past next tids last same before = record {
  live = λ t. same.0 t ∙ before.live t;
  greatest = subst (λ n. n ≤ last) (sym same.1) before.greatest;
  rising = before.rising;
}

-- the thread that ends is no more among them
gone_by : (b c e x : Bool) → (b ≡ true → c ≡ true → e ≡ true) → (b ≡ false → c ≡ true → e ≡ false) →
    (not e && (c || x)) ≡ cond (not b) (c || (not e && x)) (not e && x)
gone_by true true e x same apart = rw (same refl refl) refl
gone_by true false e x same apart = refl
gone_by false true e x same apart = rw (apart refl refl) refl
gone_by false false e x same apart = refl

any_cond : (b : Bool) (n t : ℕ) (ns : List ℕ) → list_any (λ k. k == t)
    (cond b (n ∷ ns) ns) ≡ cond b ((n == t) || list_any (λ k. k == t) ns) (list_any (λ k. k == t) ns)
any_cond true n t ns = refl
any_cond false n t ns = refl

same_end : (n t tid : ℕ) → (n == tid) ≡ true → (n == t) ≡ true → nat_eq t tid ≡ true
same_end n t tid h k = grind (arith, nat_tests, h, k)

other_end : (n t tid : ℕ) → (n == tid) ≡ false → (n == t) ≡ true → nat_eq t tid ≡ false
other_end n t tid h k = grind (arith, nat_tests, h, k)

any_left : (tids : List ℕ) (tid t : ℕ) → (not (nat_eq t tid) && list_any (λ k. k == t) tids) ≡ list_any (λ k. k == t)
    (filter (λ n. not (n == tid)) tids)
any_left [] tid t = and-false (not (nat_eq t tid))
any_left (n ∷ tids) tid t =
    gone_by (n == tid) (n == t) (nat_eq t tid) (list_any (λ k. k == t) tids) (same_end n t tid) (other_end n t tid)
    ∙ ap (λ x. cond (not (n == tid)) ((n == t) || x) x) (any_left tids tid t)
    ∙ sym (any_cond (not (n == tid)) n t (filter (λ k. not (k == tid)) tids))

-- the first of them ends
head_gone : (n t : ℕ) (x : Bool) → (t ≡ n → x ≡ false) → (not (nat_eq t n) && ((n == t) || x)) ≡ x
head_gone n t x gone = elim (cases_eq t n) [
  | inl same ↦
      let is : nat_eq t n ≡ true = grind (arith, nat_tests, same) in
      ap (λ (b : Bool). not b && ((n == t) || x)) is ∙ sym (gone same)
  | inr differs ↦
      let is : nat_eq t n ≡ false = grind (arith, nat_tests, differs) in
      let back : (n == t) ≡ false = grind (arith, nat_tests, differs) in
      ap₂ (λ (b c : Bool). not b && (c || x)) is back
]

abbrev ends_of : List Hart → List Event
ends_of harts = map (λ (h : Hart). End h.0) harts

abbrev tids_in : List Hart → List ℕ
tids_in harts = map (λ (h : Hart). h.0) harts

ends_follow : (harts : List Hart) (past : List Event) (low last : ℕ) →
    ((t : ℕ) → is_live past t ≡ list_any (λ n. n == t) (tids_in harts)) → Rises low (tids_in harts) last →
    EachFollows (ends_of harts) past × (((t : ℕ) → is_live (grown (ends_of harts) past) t ≡ false) × (greatest_start (grown (ends_of harts) past) ≡ greatest_start past))
ends_follow [] past low last live rising = (tt, (live, refl))
ends_follow (h ∷ harts) past low last live rising =
    let first : is_live past h.0 ≡ true = live h.0 ∙ ap (λ (b : Bool). b || list_any (λ n. n == h.0) (tids_in harts)) (eq-eqb h.0 h.0 refl) in
    let rest = ends_follow harts (End h.0 ∷ past) h.0 last (λ t.
    ap (λ (b : Bool). not (nat_eq t h.0) && b) (live t)
    ∙ head_gone h.0 t (list_any (λ n. n == t) (tids_in harts)) (λ same. not_among h.0 (tids_in harts) last t rising.1 (omega (arith, same)))) rising.1 in
    ((first, rest.0), rest.1)

born_live : (child t : ℕ) (x : Bool) → (nat_eq t child || x) ≡ (x || ((child == t) || false))
born_live child t x = elim (cases_eq t child) [
  | inl same ↦
      let is : nat_eq t child ≡ true = grind (arith, nat_tests, same) in
      let back : (child == t) ≡ true = grind (arith, nat_tests, same) in
      ap (λ (b : Bool). b || x) is ∙ sym (ap (λ (b : Bool). x || (b || false)) back ∙ or-true x)
  | inr differs ↦
      let is : nat_eq t child ≡ false = grind (arith, nat_tests, differs) in
      let back : (child == t) ≡ false = grind (arith, nat_tests, differs) in
      ap (λ (b : Bool). b || x) is ∙ sym (ap (λ (b : Bool). x || (b || false)) back ∙ or-false x)
]

-- the threads that start and end by a call
life_follows : (answer : Answer) (harts : List Hart) (tid : ℕ) (past : List Event) (old new : KernelState) →
    Lives past (tids_in harts) old.last_tid → is_live past tid ≡ true → GivesNumber answer old new →
    EachFollows (life_events answer harts tid) past × Lives (grown (life_events answer harts tid) past) (tids_after answer tid (tids_in harts)) new.last_tid
life_follows (Back value) harts tid past old new before live given = (tt, subst (Lives past (tids_in harts)) (sym given) before)
life_follows Yield harts tid past old new before live given = (tt, subst (Lives past (tids_in harts)) (sym given) before)
life_follows Block harts tid past old new before live given = (tt, subst (Lives past (tids_in harts)) (sym given) before)
life_follows ThreadEnd harts tid past old new before live given = (
  (live, tt),
  subst (Lives (End tid ∷ past) (filter (λ n. not (n == tid)) (tids_in harts))) (sym given) (record {
    live = λ t. ap (λ (b : Bool). not (nat_eq t tid) && b) (before.live t) ∙ any_left (tids_in harts) tid t;
    greatest = before.greatest;
    rising = rises-filter (λ n. not (n == tid)) 0 (tids_in harts) old.last_tid before.rising;
  }),
)
life_follows (ProcessEnd status) harts tid past old new before live given =
    let all = ends_follow harts past 0 old.last_tid before.live before.rising in (
      all.0,
      subst (Lives (grown (ends_of harts) past) []) (sym given) (record {
        live = all.1.0;
        greatest = subst (λ n. n ≤ old.last_tid) (sym all.1.1) before.greatest;
        rising = omega arith;
      }),
    )
life_follows (Born child registers) harts tid past old new before live given = (
  (omega (arith, before.greatest, given.0), tt),
  subst (Lives (Start child registers.pc ∷ past) (tids_in harts ++ child ∷ [])) (sym given.1) (record {
    live = λ t.
        ap (λ (b : Bool). nat_eq t child || b) (before.live t) ∙ born_live child t (list_any (λ n. n == t) (tids_in harts))
        ∙ sym (list_any-append (λ n. n == t) (tids_in harts) (child ∷ []));
    greatest = omega (arith, before.greatest, given.0);
    rising = rises-push 0 (tids_in harts) old.last_tid child before.rising (omega (arith, given.0));
  }),
)

-- ---- a step
rises-tids : (low : ℕ) (threads : List Thread) (last : ℕ) → RisesTo low threads last →
    Rises low (map (λ (t : Thread). t.tid) threads) last
rises-tids low [] last h = h
rises-tids low (t ∷ threads) last h = (h.0, rises-tids t.tid threads last h.1)

threads-rise : (low : ℕ) (threads : List Thread) (last : ℕ) → Rises low (map (λ (t : Thread). t.tid) threads) last →
    RisesTo low threads last
threads-rise low [] last h = h
threads-rise low (t ∷ threads) last h = (h.0, threads-rise t.tid threads last h.1)

-- a thread lives where its number is among those of the registers
live_tids : (m : MachineState) (t : ℕ) → tids_in m.harts ≡ map (λ (u : Thread). u.tid) m.kernel.threads →
    lives m.kernel t ≡ list_any (λ n. n == t) (tids_in m.harts)
live_tids m t same = any_thread m.kernel.threads t ∙ ap (list_any (λ n. n == t)) (sym same)

lives_before : (m : MachineState) (past : List Event) → MachineStandsFor m past →
    Lives past (tids_in m.harts) m.kernel.last_tid
lives_before m past stands = record {
  live = λ t. stands.live t ∙ live_tids m t stands.same_threads;
  greatest = stands.started;
  rising = subst (λ ns. Rises 0 ns m.kernel.last_tid) (sym stands.same_threads) (rises-tids 0 m.kernel.threads m.kernel.last_tid stands.rising);
}

stands_after : (m : MachineState) (past : List Event) →
    tids_in m.harts ≡ map (λ (t : Thread). t.tid) m.kernel.threads → Lives past (tids_in m.harts) m.kernel.last_tid →
    MachineStandsFor m past
stands_after m past same after = record {
  same_threads = same;
  rising = threads-rise 0 m.kernel.threads m.kernel.last_tid (subst (λ ns. Rises 0 ns m.kernel.last_tid) same after.rising);
  live = λ t. after.live t ∙ sym (live_tids m t same);
  started = after.greatest;
}

-- the events may follow, and the machine stands for the past with them, event by event
abbrev Grows : MachineState → List Event → List Event → Type 0
Grows m events past = EachFollows events past × MachineStandsFor m (grown events past)

-- the past with the step itself
with_step : (past : List Event) (tid : ℕ) (tids : List ℕ) (last : ℕ) → Lives past tids last →
    Lives (Step tid ∷ past) tids last
with_step past tid tids last before = record { live = before.live; greatest = before.greatest; rising = before.rising }

effect_follows : (m : MachineState) (tid : ℕ) (i : Instr) (given : Outcome × ExecState) (past : List Event) →
    AccessesMemory given.0 → MachineStandsFor m past → is_live past tid ≡ true →
    Grows (after_effect m tid i given).machine (after_effect m tid i given).events past
effect_follows m tid i (outcome.Went accessed, c) past few stands live =
    let back = (pc_of m tid + 4) % 2 ^ 32 in
    let events = access_events tid accessed ++ jump_events (kind_of i) tid c.registers.pc back in
    let own = own-append tid (access_events tid accessed) (jump_events (kind_of i) tid c.registers.pc back) (access_own tid accessed few) (jump_own (kind_of i) tid c.registers.pc back) in
    let all = own_follows tid events (Step tid ∷ past) own (live, refl) in
    let kept = tids-with_registers m.harts tid c.registers in
    let next = grown events (Step tid ∷ past) in
    let before = with_step past tid (tids_in m.harts) m.kernel.last_tid (lives_before m past stands) in
    let after = lives_same (Step tid ∷ past) next (tids_in m.harts) m.kernel.last_tid all.1 before in (
      (live, all.0),
      stands_after (with_exec_state (later m) tid c) next (kept ∙ stands.same_threads) (subst (λ tids. Lives next tids m.kernel.last_tid) (sym kept) after),
    )
effect_follows m tid i (outcome.Fault kind, c) past few stands live = (tt, stands)
effect_follows m tid i (outcome.Syscall, c) past few stands live =
    let r = syscall (syscall_of (later m) tid) in
    let copies = own_follows tid r.guest.events (Step tid ∷ past) (copies_own tid r.guest.events (every_syscall_is_lawful (syscall_of (later m) tid)).copies) (live, refl) in
    let mid = grown r.guest.events (Step tid ∷ past) in
    let ends = life_events r.answer m.harts tid in
    let before = with_step past tid (tids_in m.harts) m.kernel.last_tid (lives_before m past stands) in
    let copied = lives_same (Step tid ∷ past) mid (tids_in m.harts) m.kernel.last_tid copies.1 before in
    let life = life_follows r.answer m.harts tid mid (later m).kernel r.kernel copied (copies.1.0 tid ∙ live) (every_syscall_is_lawful (syscall_of (later m) tid)).numbers in
    let tids = after_tids r.answer m.harts tid (registers_of m.harts tid) in
    let next = grown (r.guest.events ++ ends) (Step tid ∷ past) in
    let whole = subst (λ p. Lives p (tids_after r.answer tid (tids_in m.harts)) r.kernel.last_tid) (sym (grown-append r.guest.events ends (Step tid ∷ past))) life.1 in (
      (live, follows-append r.guest.events ends (Step tid ∷ past) copies.0 life.0),
      stands_after (after_syscall (later m) tid r).machine next
          (tids ∙ ap (tids_after r.answer tid) stands.same_threads ∙ sym (every_syscall_is_lawful (syscall_of (later m) tid)).threads)
          (subst (λ ns. Lives next ns r.kernel.last_tid) (sym tids) whole),
    )

executed_follows : (m : MachineState) (tid : ℕ) (found : Result Instr FaultKind) (past : List Event) →
    MachineStandsFor m past → is_live past tid ≡ true →
    Grows (executed m tid found).machine (executed m tid found).events past
executed_follows m tid (Ok i) past stands live = effect_follows m tid i (effect tid i (exec_state_of m tid)) past (effect_accesses tid i (exec_state_of m tid)) stands live
executed_follows m tid (Err kind) past stands live = (tt, stands)

step_grows : (m : MachineState) (tid : ℕ) (past : List Event) → MachineStandsFor m past → is_live past tid ≡ true →
    Grows (step m tid).machine (step m tid).events past
unfolding step
step_grows m tid past stands live = executed_follows m tid (next_instruction m tid) past stands live

pub every_step_continues : EveryStepContinues
every_step_continues m tid past stands can =
    let live = stands.live tid ∙ can_run-lives m.kernel tid can in
    let grows = step_grows m tid past stands live in
    (grows.0, subst (MachineStandsFor (step m tid).machine) (grown-is (step m tid).events past) grows.1)

-- What a system call leaves of a machine.
use Rattle.std.proofs.Common.{All, subst, ◌≤◌, ◌≡◌, ℕ, ◌+◌, ◌%◌, ◌^◌, ◌<◌, List, [], ◌∷◌, ◌++◌, length, map, Bool, true, false, not, ap, ap₂, append_assoc, sym, refl, ◌∙◌, arith, None, cond}
use Rattle.std.specs.Prelude.{◌==◌, filter}
use Rattle.std.proofs.lemmas.List.{length-map, length-append, map-append}
use Rattle.guest_words.specs.declared.limits.TheConstants.{THREADS}
use Rattle.trace_model.specs.declared.event_kinds.Event.{Event}
use Rattle.trace_model.specs.declared.event_kinds.Event.TheVariants.{Step}
use Rattle.guest_memory.specs.Guest.{memory_of}
use Rattle.guest_memory.specs.ReservedBy.{reserved_by}
use Rattle.rv_exec.specs.Registers.{Registers}
use Rattle.guest_kernel.specs.declared.answer.Answer.{Answer}
use Rattle.guest_kernel.specs.declared.answer.Answer.TheVariants.{Back, Yield, Block, ThreadEnd, ProcessEnd, Born}
use Rattle.guest_memory.specs.Memory.{Memory}
use Rattle.guest_memory.specs.Reserved.{Reserved}
use Rattle.guest_kernel.specs.Kernel.{KernelState}
use Rattle.guest_kernel.specs.Invariant.{IsState, RisesTo}
use Rattle.guest_calls.specs.Lawful.{BeginsBehind, GivesNumber, tids_after}
use Rattle.guest_kernel.specs.declared.thread.Thread.{Thread}
use Rattle.guest_words.specs.ByThread.{numbers}
use Rattle.std.proofs.lemmas.List.Elements.{All-cons, All-nil, All-same}
use Rattle.guest_calls.specs.Pages.{IsBreakFree}
use Rattle.guest_calls.specs.Results.{SyscallResult}
use Rattle.guest_calls.proofs.AllCalls.{every_syscall_is_lawful}
use Rattle.guest_calls.specs.Table.{syscall}
use Rattle.guest_machine.specs.declared.stepped.Stepped.{Stepped}
use Rattle.guest_machine.specs.Kept.{Parts, Steps, machine_of}
use Rattle.guest_kernel.proofs.Times.{later_is_state}
use Rattle.guest_machine.specs.Machine.{Hart, MachineState, later, registers_of, with_registers, without_hart}
use Rattle.guest_machine.specs.Sound.{IsSoundMachine, OfEachPc}
use Rattle.guest_machine.specs.Step.{after_syscall, syscall_of, harts_after, life_events, resumed, stepped_by}
use Rattle.guest_machine.proofs.Registers.{each-append, each-with_registers, each-without, pc_of_each, tids-with_registers}
use Rattle.rv_exec.proofs.CallerLemmas.{next_aligned}

-- the threads that are left
without_tids : (harts : List Hart) (tid : ℕ) → map (λ h. h.0) (without_hart harts tid) ≡ filter (λ n. not (n == tid)) (map (λ h. h.0) harts)
without_tids [] tid = refl
without_tids (h ∷ harts) tid = by_kept (not (h.0 == tid)) refl (without_tids harts tid)
  where
    by_kept : (b : Bool) → not (h.0 == tid) ≡ b → map (λ g. g.0) (without_hart harts tid) ≡ filter (λ n. not (n == tid)) (map (λ g. g.0) harts) → map (λ g. g.0) (without_hart (h ∷ harts) tid) ≡ filter (λ n. not (n == tid)) (map (λ g. g.0) (h ∷ harts))
    by_kept true e rest = rw e (ap (λ ns. h.0 ∷ ns) rest)
    by_kept false e rest = rw e rest

pub after_tids : (answer : Answer) (harts : List Hart) (tid : ℕ) (r : Registers) → map (λ h. h.0) (harts_after answer harts tid r) ≡ tids_after answer tid (map (λ h. h.0) harts)
after_tids (Back value) harts tid r = tids-with_registers harts tid (resumed r value)
after_tids Yield harts tid r = tids-with_registers harts tid (resumed r 0)
after_tids Block harts tid r = tids-with_registers harts tid (resumed r 0)
after_tids ThreadEnd harts tid r = without_tids harts tid
after_tids (ProcessEnd status) harts tid r = refl
after_tids (Born child registers) harts tid r =
    map-append (λ h. h.0) (with_registers harts tid (resumed r child)) ((child, registers) ∷ [])
    ∙ ap (λ ns. ns ++ child ∷ []) (tids-with_registers harts tid (resumed r child))

-- a fact of each pc holds afterwards, where it holds of 0 and behind each pc of which it holds
module _ (Holds : ℕ → Type 0) (none : Holds 0) (behind : (pc : ℕ) → Holds pc → Holds ((pc + 4) % 2 ^ 32)) where
  resumed_each : (harts : List Hart) (tid value : ℕ) → OfEachPc Holds harts → OfEachPc Holds (with_registers harts tid (resumed (registers_of harts tid) value))
  resumed_each harts tid value all = each-with_registers Holds harts tid _ all (behind _ (pc_of_each Holds none harts tid all))

  pub after_each : (answer : Answer) (harts : List Hart) (tid : ℕ) → OfEachPc Holds harts → BeginsBehind (registers_of harts tid).pc answer →
      OfEachPc Holds (harts_after answer harts tid (registers_of harts tid))
  after_each (Back value) harts tid all begins = resumed_each harts tid value all
  after_each Yield harts tid all begins = resumed_each harts tid 0 all
  after_each Block harts tid all begins = resumed_each harts tid 0 all
  after_each ThreadEnd harts tid all begins = each-without Holds harts tid all
  after_each (ProcessEnd status) harts tid all begins = tt
  after_each (Born child registers) harts tid all begins =
      each-append Holds _ (child, registers) (resumed_each harts tid child all) (subst Holds (sym begins) (behind _ (pc_of_each Holds none harts tid all)))

-- a machine is sound one step later
pub sound-later : (m : MachineState) → IsSoundMachine m → IsSoundMachine (later m)
sound-later m sound = record {
  same_threads = sound.same_threads;
  aligned = sound.aligned;
  state = later_is_state m.kernel sound.state;
  holders = sound.holders;
  break_free = sound.break_free;
}

-- a machine is sound after a call
pub sound-called : (m : MachineState) (tid : ℕ) → IsSoundMachine m → IsState (syscall (syscall_of m tid)).kernel → IsBreakFree (syscall (syscall_of m tid)).guest.memory (syscall (syscall_of m tid)).kernel.program_break → IsSoundMachine (after_syscall m tid (syscall (syscall_of m tid))).machine
sound-called m tid sound state free =
    let r = syscall (syscall_of m tid) in
    let lawful = every_syscall_is_lawful (syscall_of m tid) in
    record {
      same_threads = after_tids r.answer m.harts tid (registers_of m.harts tid) ∙ ap (tids_after r.answer tid) sound.same_threads ∙ sym lawful.threads;
      aligned = after_each (λ pc. pc % 4 ≡ 0) refl next_aligned r.answer m.harts tid sound.aligned lawful.begins;
      state = state;
      holders = lawful.holders sound.holders;
      break_free = free;
    }

-- a thread more, where there is one, has its place
pub born_room : (m : MachineState) (tid : ℕ) (child : ℕ) (registers : Registers) → IsSoundMachine m → IsState (syscall (syscall_of m tid)).kernel → (syscall (syscall_of m tid)).answer ≡ Born child registers → length m.harts < THREADS
born_room m tid child registers sound state is =
    let r = syscall (syscall_of m tid) in
    let lawful = every_syscall_is_lawful (syscall_of m tid) in
    let grown : map (λ t. t.tid) r.kernel.threads ≡ map (λ t. t.tid) m.kernel.threads ++ child ∷ [] = lawful.threads ∙ ap (λ a. tids_after a tid (map (λ t. t.tid) m.kernel.threads)) is in
    let after : length r.kernel.threads ≡ length m.kernel.threads + 1 = sym (length-map r.kernel.threads (λ t. t.tid)) ∙ ap length grown ∙ length-append (map (λ t. t.tid) m.kernel.threads) (child ∷ []) ∙ ap (λ n. n + 1) (length-map m.kernel.threads (λ t. t.tid)) in
    let count : length m.harts ≡ length m.kernel.threads = sym (length-map m.harts (λ h. h.0)) ∙ ap length sound.same_threads ∙ length-map m.kernel.threads (λ t. t.tid) in
    omega (arith, after, count, state.few)

-- and a number above all
rises_within : (low : ℕ) (threads : List Thread) (last : ℕ) → RisesTo low threads last → low ≤ last
rises_within low [] last rising = rising
rises_within low (t ∷ threads) last rising = omega (arith, rising.0, rises_within t.tid threads last rising.1)

rises_below : (low : ℕ) (threads : List Thread) (last child : ℕ) → RisesTo low threads last → last < child → All (λ n. n < child) (map (λ t. t.tid) threads)
rises_below low [] last child rising above = All-nil (λ n. n < child)
rises_below low (t ∷ threads) last child rising above =
    All-cons (λ n. n < child) t.tid (map (λ u. u.tid) threads) (omega (arith, rises_within t.tid threads last rising.1, above)) (rises_below t.tid threads last child rising.1 above)

pub born_above : (m : MachineState) (tid child : ℕ) (registers : Registers) → IsSoundMachine m → (syscall (syscall_of m tid)).answer ≡ Born child registers → All (λ n. n < child) (numbers m.harts)
born_above m tid child registers sound is =
    let given = subst (λ a. GivesNumber a m.kernel (syscall (syscall_of m tid)).kernel) is (every_syscall_is_lawful (syscall_of m tid)).numbers in
    All-same (λ n. n < child) (numbers m.harts) (map (λ t. t.tid) m.kernel.threads) sound.same_threads
    (rises_below 0 m.kernel.threads m.kernel.last_tid child sound.state.rising (omega (arith, given.0)))

-- a machine, part by part
four : {hs gs : List Hart} {k l : KernelState} {m n : Memory} {h g : Reserved} → hs ≡ gs → k ≡ l → m ≡ n → h ≡ g → ◌≡◌ {A = MachineState} (record { harts = hs; kernel = k; memory = m; held = h }) (record { harts = gs; kernel = l; memory = n; held = g })
four harts kernel memory held = λ i. record { harts = harts i; kernel = kernel i; memory = memory i; held = held i }

-- what the code of a call gives is what a call does
pub Steps-called : (p p2 : Parts) (tid : ℕ) (r : SyscallResult) (answer : Answer) (outcome : Stepped) (old pushed called new : List Event) → answer ≡ r.answer → p2.kernel.state ≡ r.kernel → p2.kernel.outgoing ≡ r.out → memory_of p2.memory ≡ r.guest.memory → reserved_by p2.held ≡ r.guest.held → p2.harts ≡ harts_after answer p.harts tid (registers_of p.harts tid) → p2.called ≡ true → outcome ≡ stepped_by answer → pushed ≡ old ++ Step tid ∷ [] → called ≡ pushed ++ r.guest.events → new ≡ called ++ life_events answer p.harts tid → Steps (after_syscall (later (machine_of p)) tid r) outcome p2 old new
unfolding machine_of
Steps-called p p2 tid r answer outcome old pushed called new answered state out memory held harts loud stepped one two three = record {
  went = stepped ∙ ap stepped_by answered;
  machine = four (harts ∙ ap (λ a. harts_after a p.harts tid (registers_of p.harts tid)) answered) state memory held;
  out = ap (λ b. cond b p2.kernel.outgoing None) loud ∙ out;
  events = three ∙ ap₂ (λ front (back : List Event). front ++ back) (two ∙ ap (λ s. s ++ r.guest.events) one ∙ append_assoc old (Step tid ∷ []) r.guest.events) (ap (λ a. life_events a p.harts tid) answered)
      ∙ append_assoc old (Step tid ∷ r.guest.events) (life_events r.answer p.harts tid);
}

use Rattle.std.proofs.Common.{ℕ, ◌≡◌, ◌∙◌, ◌++◌, ◌∷◌, [], true, arith, ap, ap₂, sym, subst, refl}
use Rattle.trace_model.specs.declared.event_kinds.Event.TheVariants.{Step}
use Rattle.guest_memory.specs.Memory.{Memory}
use Rattle.guest_kernel.specs.Invariant.{IsState}
use Rattle.guest_calls.specs.Pages.{IsBreakFree}
use Rattle.rv_exec.specs.Registers.{Registers}
use Rattle.guest_calls.specs.Results.{SyscallResult}
use Rattle.guest_calls.specs.Table.{syscall}
use Rattle.guest_calls.proofs.Settled.{room_after}
use Rattle.guest_machine.specs.Kept.{Parts, Steps, machine_of}
use Rattle.guest_machine.specs.Machine.{later}
use Rattle.guest_machine.specs.Parts.{parts_of}
use Rattle.guest_machine.specs.Sound.{IsSoundMachine}
use Rattle.guest_machine.specs.Step.{after_syscall, syscall_of, syscall_step}
use Rattle.guest_machine.proofs.Holders.{able_on, lives_kept}
use Rattle.guest_machine.proofs.Called.{Steps-called, born_above, born_room, sound-called, sound-later}
use Rattle.guest_machine.proofs.machine.Machine.make_syscall.Goals as goal

pub cpu_of-requires : goal.cpu_of-requires
unfolding machine_of
cpu_of-requires c = lives_kept (machine_of (parts_of c.self.inside)) c.args.tid c.self.invariant.sound (able_on (parts_of c.self.inside) _ c.args.tid c.self.view_is c.requires.can_run)

pub apply_answer-requires-clause-lives : goal.apply_answer-requires-clause-lives
unfolding machine_of
apply_answer-requires-clause-lives c = lives_kept (machine_of (parts_of c.self.inside)) c.args.tid c.self.invariant.sound (able_on (parts_of c.self.inside) _ c.args.tid c.self.view_is c.requires.can_run)

pub apply_answer-requires-clause-born : goal.apply_answer-requires-clause-born
unfolding machine_of
apply_answer-requires-clause-born c child cpu is =
    let m = later (machine_of (parts_of c.self.inside)) in
    let here = c.cpu_of.ensures in
    let same : syscall (record { tid = c.args.tid; registers = c.cpu_of.result.now; kernel = m.kernel; memory = m.memory; held = m.held }) ≡ syscall (syscall_of m c.args.tid) = ap (λ (r : Registers). syscall (record { tid = c.args.tid; registers = r; kernel = m.kernel; memory = m.memory; held = m.held })) here in
    let does = c.in-Ok.ensures.syscall.does in
    born_room m c.args.tid child cpu (sound-later (machine_of (parts_of c.self.inside)) c.self.invariant.sound) (subst IsState (does.state_is ∙ ap (λ r. r.kernel) same) c.in-Ok.ensures.state) (sym (ap (λ r. r.answer) same) ∙ sym does.answered ∙ is)

pub apply_answer-requires-clause-room : goal.apply_answer-requires-clause-room
apply_answer-requires-clause-room c =
    let made = c.in_ok-reserve.ensures.room in
    let pushed = c.push.ensures.room in
    let left = room_after _ c.in-Ok.answer c.syscall.new.kernel c.syscall.new.memory c.syscall.new.held c.push.new.self c.syscall.new.events c.in-Ok.ensures.syscall in
    omega (arith, made, pushed, left)

pub returns-in-Ok-clause-step : goal.returns-in-Ok-clause-step
unfolding machine_of
returns-in-Ok-clause-step c =
    let m = later (machine_of (parts_of c.self.inside)) in
    let here = c.cpu_of.ensures in
    let same : syscall (record { tid = c.args.tid; registers = c.cpu_of.result.now; kernel = m.kernel; memory = m.memory; held = m.held }) ≡ syscall (syscall_of m c.args.tid) = ap (λ (r : Registers). syscall (record { tid = c.args.tid; registers = r; kernel = m.kernel; memory = m.memory; held = m.held })) here in
    let does = c.in-Ok.ensures.syscall.does in
    subst (λ (q : Parts). Steps (syscall_step (machine_of q) c.args.tid) c.apply_answer.result (parts_of (record { harts = c.apply_answer.new.harts; kernel = c.syscall.new.kernel; memory = c.syscall.new.memory; held = c.syscall.new.held; entry = c.self.inside.entry; called = true })) c.args.events.now.list c.apply_answer.new.events.list) c.self.view_is (
    subst (λ (r : SyscallResult). Steps (after_syscall m c.args.tid r) c.apply_answer.result (parts_of (record { harts = c.apply_answer.new.harts; kernel = c.syscall.new.kernel; memory = c.syscall.new.memory; held = c.syscall.new.held; entry = c.self.inside.entry; called = true })) c.args.events.now.list c.apply_answer.new.events.list) same
    (Steps-called (parts_of c.self.inside) (parts_of (record { harts = c.apply_answer.new.harts; kernel = c.syscall.new.kernel; memory = c.syscall.new.memory; held = c.syscall.new.held; entry = c.self.inside.entry; called = true })) c.args.tid _ c.in-Ok.answer _ c.args.events.now.list _ _ _ does.answered does.state_is c.in-Ok.ensures.syscall.out does.memory_is does.held_is c.apply_answer.ensures.harts refl c.apply_answer.ensures.outcome (c.push.ensures.list ∙ ap (λ l. l ++ Step c.args.tid ∷ []) c.in_ok-reserve.ensures.list) does.events.list_is c.apply_answer.ensures.events)
    )

pub invariant_of-self : goal.invariant_of-self
unfolding machine_of
invariant_of-self c =
    let m = later (machine_of (parts_of c.self.inside)) in
    let here = c.cpu_of.ensures in
    let same : syscall (record { tid = c.args.tid; registers = c.cpu_of.result.now; kernel = m.kernel; memory = m.memory; held = m.held }) ≡ syscall (syscall_of m c.args.tid) = ap (λ (r : Registers). syscall (record { tid = c.args.tid; registers = r; kernel = m.kernel; memory = m.memory; held = m.held })) here in
    let does = c.in-Ok.ensures.syscall.does in
    let state = subst IsState (does.state_is ∙ ap (λ r. r.kernel) same) c.in-Ok.ensures.state in
    let free = subst (λ (k : Memory × ℕ). IsBreakFree k.0 k.1) (ap₂ (λ m b. (m, b)) (does.memory_is ∙ ap (λ r. r.guest.memory) same) (ap (λ k. k.program_break) (does.state_is ∙ ap (λ r. r.kernel) same))) c.in-Ok.ensures.break_free in
    let sound = sound-called m c.args.tid (sound-later (machine_of (parts_of c.self.inside)) c.self.invariant.sound) state free in
    let steps = Steps-called (parts_of c.self.inside) (parts_of (record { harts = c.apply_answer.new.harts; kernel = c.syscall.new.kernel; memory = c.syscall.new.memory; held = c.syscall.new.held; entry = c.self.inside.entry; called = true })) c.args.tid _ c.in-Ok.answer _ c.args.events.now.list _ _ _ does.answered does.state_is c.in-Ok.ensures.syscall.out does.memory_is does.held_is c.apply_answer.ensures.harts refl c.apply_answer.ensures.outcome (c.push.ensures.list ∙ ap (λ l. l ++ Step c.args.tid ∷ []) c.in_ok-reserve.ensures.list) does.events.list_is c.apply_answer.ensures.events in
    record {
      spare = c.apply_answer.ensures.spare;
      sound = subst IsSoundMachine (sym (steps.machine ∙ ap (λ r. (after_syscall m c.args.tid r).machine) same)) sound;
    }

pub apply_answer-requires-clause-above : goal.apply_answer-requires-clause-above
unfolding machine_of
apply_answer-requires-clause-above c child cpu is =
    let m = later (machine_of (parts_of c.self.inside)) in
    let here = c.cpu_of.ensures in
    let same : syscall (record { tid = c.args.tid; registers = c.cpu_of.result.now; kernel = m.kernel; memory = m.memory; held = m.held }) ≡ syscall (syscall_of m c.args.tid) = ap (λ (r : Registers). syscall (record { tid = c.args.tid; registers = r; kernel = m.kernel; memory = m.memory; held = m.held })) here in
    let does = c.in-Ok.ensures.syscall.does in
    born_above m c.args.tid child cpu (sound-later (machine_of (parts_of c.self.inside)) c.self.invariant.sound) (sym (ap (λ r. r.answer) same) ∙ sym does.answered ∙ is)

use Rattle.std.proofs.Common.{◌≡◌, ◌≢◌, arith, refl, sym, subst, ◌∙◌}
use Rattle.std.specs.Prelude.{IfOk}
use Rattle.guest_kernel.specs.declared.answer.Answer.{Answer}
use Rattle.guest_calls.specs.Outcome.{asked, Gives}
use Rattle.guest_calls.specs.Results.{Syscall, SyscallResult, number}
use Rattle.guest_calls.specs.Table.{syscall, table}
use Rattle.guest_calls.proofs.AllCalls.{every_syscall_is_lawful}
use Rattle.guest_calls.proofs.Rows.{called}
use Rattle.guest_calls.proofs.Settled.{does_before, free_after, free_either_way, gives_before, if_gives_before, refused_before}
use Rattle.guest_calls.proofs.dispatch.carry_out.Goals as goal

pub returns-in-64-clause-syscall : goal.returns-in-64-clause-syscall
unfolding table
returns-in-64-clause-syscall c =
    let made : Syscall = asked (record { tid = c.args.tid; cpu = c.args.cpu.now }) c.args.kernel.now.state c.args.memory.now c.args.held.now in
    let is : number made ≡ 64 = sym c.number.ensures ∙ c.in-64.is in
    gives_before (syscall made) c.write.result c.write.new.kernel c.args.memory.now c.args.held.now c.reserve.new.self c.args.events.now c.write.new.events c.in_ok-reserve.ensures.list c.in_ok-reserve.ensures.kept
    (subst (λ (r : SyscallResult). Gives r c.write.result c.write.new.kernel c.args.memory.now c.args.held.now c.reserve.new.self c.write.new.events) (sym (called made 64 is)) (c.write.ensures.does c.args.held.now))

pub returns-in-64-clause-break_free : goal.returns-in-64-clause-break_free
returns-in-64-clause-break_free c =
    let made : Syscall = asked (record { tid = c.args.tid; cpu = c.args.cpu.now }) c.args.kernel.now.state c.args.memory.now c.args.held.now in
    free_after made c.write.result c.write.new.kernel c.args.memory.now c.args.held.now c.args.events.now c.write.new.events (returns-in-64-clause-syscall c) c.requires.break_free

pub returns-in-66-clause-syscall : goal.returns-in-66-clause-syscall
unfolding table
returns-in-66-clause-syscall c =
    let made : Syscall = asked (record { tid = c.args.tid; cpu = c.args.cpu.now }) c.args.kernel.now.state c.args.memory.now c.args.held.now in
    let is : number made ≡ 66 = sym c.number.ensures ∙ c.in-66.is in
    if_gives_before c.writev.result (syscall made) c.writev.new.kernel c.args.memory.now c.args.held.now c.reserve.new.self c.args.events.now c.writev.new.events c.in_ok-reserve.ensures.list c.in_ok-reserve.ensures.kept
    (subst (λ (r : SyscallResult). IfOk c.writev.result (λ (answer : Answer). Gives r answer c.writev.new.kernel c.args.memory.now c.args.held.now c.reserve.new.self c.writev.new.events)) (sym (called made 66 is)) (c.writev.ensures.does c.args.held.now))

pub returns-in-66-clause-refused : goal.returns-in-66-clause-refused
returns-in-66-clause-refused c =
    refused_before c.writev.result c.args.kernel.now c.writev.new.kernel c.args.memory.now c.args.memory.now c.args.held.now c.args.held.now c.reserve.new.self c.args.events.now c.writev.new.events c.in_ok-reserve.ensures.list c.in_ok-reserve.ensures.kept (c.writev.ensures.refused c.args.held.now)

pub returns-in-66-clause-break_free : goal.returns-in-66-clause-break_free
returns-in-66-clause-break_free c =
    let made : Syscall = asked (record { tid = c.args.tid; cpu = c.args.cpu.now }) c.args.kernel.now.state c.args.memory.now c.args.held.now in
    free_either_way c.writev.result made c.args.kernel.now c.writev.new.kernel c.args.memory.now c.args.memory.now c.args.held.now c.args.held.now c.args.events.now c.args.events.now c.writev.new.events (returns-in-66-clause-syscall c) (returns-in-66-clause-refused c) refl refl c.requires.break_free

pub returns-in_ok-answer-in_default-clause-syscall : goal.returns-in_ok-answer-in_default-clause-syscall
returns-in_ok-answer-in_default-clause-syscall c =
    let made : Syscall = asked (record { tid = c.args.tid; cpu = c.args.cpu.now }) c.args.kernel.now.state c.args.memory.now c.args.held.now in
    let answer : Answer = c.in_ok-answer-in_default.answer in
    let no_write : c.number.result ≢ 64 = λ e. omega arith in
    let no_writev : c.number.result ≢ 66 = λ e. omega arith in
    let does = c.in_ok-answer-in_default.ensures.does in
    record {
      does = does_before (syscall made) answer c.syscall.new.state c.syscall.new.memory c.syscall.new.held c.reserve.new.self c.args.events.now c.syscall.new.events c.in_ok-reserve.ensures.list c.in_ok-reserve.ensures.kept does;
      out = c.clear.ensures ∙ sym ((every_syscall_is_lawful made).silent (λ e. no_write (c.number.ensures ∙ e)) (λ e. no_writev (c.number.ensures ∙ e)));
    }

pub returns-in_ok-answer-in_default-clause-break_free : goal.returns-in_ok-answer-in_default-clause-break_free
returns-in_ok-answer-in_default-clause-break_free c =
    let made : Syscall = asked (record { tid = c.args.tid; cpu = c.args.cpu.now }) c.args.kernel.now.state c.args.memory.now c.args.held.now in
    free_after made c.in_ok-answer-in_default.answer (record { state = c.syscall.new.state; outgoing = c.clear.new.self }) c.syscall.new.memory c.syscall.new.held c.args.events.now c.syscall.new.events (returns-in_ok-answer-in_default-clause-syscall c) c.requires.break_free

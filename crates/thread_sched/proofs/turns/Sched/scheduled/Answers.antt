use Rattle.std.proofs.Common.{◌+◌, cond, drop, ap, ◌∙◌, sym}
use Rattle.thread_sched.specs.declared.turns.Turn.TheVariants.{Run, Mismatch}
use Rattle.thread_sched.specs.TurnRule.{SchedulerState, able}
use Rattle.thread_sched.proofs.Threads.{by_entry, entry_next}
use Rattle.thread_sched.proofs.turns.Sched.scheduled.Goals as goal

pub returns-in-Some : goal.returns-in-Some
returns-in-Some c =
    let k = c.args.self.now in
    let e = c.in-Some.entry.now in
    let read = c.in-Some.ensures.lookup in
    let next = entry_next c.self.inside.entries.items _ c.self.inside.used e c.deref.ensures.value read.0 read.1 in
    ap (λ b. cond b (Run e.tid e.most) (Mismatch k.line)) (sym c.if-is_able.true)
    ∙ by_entry k (able c.args.live.now) c.args.next e (drop (c.self.inside.used + 1) c.self.inside.entries.items) c.is_able.result (ap (λ (j : SchedulerState). j.entries) (sym c.self.view_is) ∙ next) c.is_able.ensures

pub returns-in-Some-2 : goal.returns-in-Some-2
returns-in-Some-2 c =
    let k = c.args.self.now in
    let e = c.in-Some.entry.now in
    let read = c.in-Some.ensures.lookup in
    let next = entry_next c.self.inside.entries.items _ c.self.inside.used e c.deref.ensures.value read.0 read.1 in
    ap (λ (j : SchedulerState). Mismatch j.line) c.self.view_is
    ∙ ap (λ b. cond b (Run e.tid e.most) (Mismatch k.line)) (sym c.if-is_able.false)
    ∙ by_entry k (able c.args.live.now) c.args.next e (drop (c.self.inside.used + 1) c.self.inside.entries.items) c.is_able.result (ap (λ (j : SchedulerState). j.entries) (sym c.self.view_is) ∙ next) c.is_able.ensures

use Rattle.std.proofs.Common.{◌≡◌, ◌∙◌, ◌++◌, ap, arith, length, refl}
use Rattle.trace_model.specs.declared.event_kinds.Event.TheVariants.{End}
use Rattle.shadow_stack.specs.Frames.{Stack}
use Rattle.stamp_renumber.specs.Threads.{calls_of}
use Rattle.stamp_table.specs.Records.{finished}
use Rattle.stamp_table.specs.Renewal.{bounded_tick}
use Rattle.shadow_core.specs.State.{State, table_of_state}
use Rattle.stamp_table.specs.Ticks.{table_after}
use Rattle.shadow_core.proofs.Ended.{all_recorded, may_end, thread_ended}
use Rattle.shadow_core.proofs.Settled.{whole_still}
use Rattle.shadow_core.proofs.profiler.Profiler.end.Goals as goal

pub frames-requires : goal.frames-requires
frames-requires g c =
    let t = c.args.tid in
    let may = may_end g.S.Stamp.MAX t (End t) _ _ c.self.view_is c.requires c.requires.formed.0 in
    may.can.lives

pub end_calls-requires-clause-lives : goal.end_calls-requires-clause-lives
end_calls-requires-clause-lives g c =
    let t = c.args.tid in
    let may = may_end g.S.Stamp.MAX t (End t) _ _ c.self.view_is c.requires c.requires.formed.0 in
    may.can.lives

pub end_calls-requires-clause-frames : goal.end_calls-requires-clause-frames
end_calls-requires-clause-frames g c =
    let frames = ap (λ (s : Stack). length s.list) c.frames.ensures in
    omega (arith, c.depth-ended.ensures, frames)

pub end_calls-requires-clause-calls : goal.end_calls-requires-clause-calls
end_calls-requires-clause-calls g c =
    let t = c.args.tid in
    let may = may_end g.S.Stamp.MAX t (End t) _ _ c.self.view_is c.requires c.requires.formed.0 in
    let frames = ap (λ (s : Stack). length s.list) c.frames.ensures in
    omega (arith, c.depth-ended.ensures, frames, may.can.frames)

pub end_calls-requires-clause-sums : goal.end_calls-requires-clause-sums
end_calls-requires-clause-sums g c =
    let t = c.args.tid in
    let may = may_end g.S.Stamp.MAX t (End t) _ _ c.self.view_is c.requires c.requires.formed.0 in
    may.can.sums

pub end_calls-requires-clause-thread : goal.end_calls-requires-clause-thread
end_calls-requires-clause-thread g c =
    let t = c.args.tid in
    let may = may_end g.S.Stamp.MAX t (End t) _ _ c.self.view_is c.requires c.requires.formed.0 in
    may.can.thread

pub end_calls-requires-clause-kernel : goal.end_calls-requires-clause-kernel
end_calls-requires-clause-kernel g c =
    let t = c.args.tid in
    let may = may_end g.S.Stamp.MAX t (End t) _ _ c.self.view_is c.requires c.requires.formed.0 in
    may.can.kernel

pub returns-clause-table : goal.returns-clause-table
returns-clause-table g c =
    let t = c.args.tid in
    let may = may_end g.S.Stamp.MAX t (End t) _ _ c.self.view_is c.requires c.requires.formed.0 in
    let frames = ap (λ (s : Stack). length s.list) c.frames.ensures in
    let count : c.depth-ended.result ≡ length (calls_of c.self.inside.threads.threads t).list = omega (arith, c.depth-ended.ensures, frames, may.can.frames) in
    thread_ended t c.depth-ended.result _ c.end_calls.new.threads c.remove.new.self c.reserve.new.self.items c.end_calls.new.done.items may count c.end_calls.ensures.ended c.remove.ensures.threads g.S.Stamp.MAX
    ∙ ap (λ (k : State). table_after (bounded_tick g.S.Stamp.MAX) (End t) (table_of_state k)) c.self.view_is

pub returns-clause-done : goal.returns-clause-done
returns-clause-done g c =
    let t = c.args.tid in
    let may = may_end g.S.Stamp.MAX t (End t) _ _ c.self.view_is c.requires c.requires.formed.0 in
    let frames = ap (λ (s : Stack). length s.list) c.frames.ensures in
    let count : c.depth-ended.result ≡ length (calls_of c.self.inside.threads.threads t).list = omega (arith, c.depth-ended.ensures, frames, may.can.frames) in
    all_recorded t c.depth-ended.result _ c.end_calls.new.threads c.remove.new.self c.reserve.new.self.items c.end_calls.new.done.items may count c.end_calls.ensures.ended c.remove.ensures.threads
    ∙ (λ i. c.in_ok-reserve.ensures.items i ++ finished (End t) (table_of_state (c.self.view_is i)))

pub invariant_of-self : goal.invariant_of-self
invariant_of-self g c =
    whole_still g.S.Stamp.MAX (End c.args.tid) _ _ _ c.self.view_is c.requires c.self.invariant tt (returns-clause-table g c) refl c.self.invariant.marked

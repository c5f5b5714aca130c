use Rattle.std.proofs.Common.{◌∙◌, ◌++◌, ap, arith, length, refl, subst, sym}
use Rattle.trace_model.specs.declared.event_kinds.Event.TheVariants.{Ret}
use Rattle.shadow_pages.specs.Pages.{covers}
use Rattle.stamp_renumber.specs.Returned.{returned_by}
use Rattle.stamp_renumber.specs.Threads.{Live, calls_of, pages_of}
use Rattle.shadow_core.specs.Private.Ending.{IsEnded}
use Rattle.stamp_table.specs.Records.{finished}
use Rattle.stamp_table.specs.Renewal.{bounded_tick}
use Rattle.shadow_core.specs.State.{State, table_of_state}
use Rattle.stamp_table.specs.Ticks.{table_after}
use Rattle.shadow_core.proofs.Ended.{MayEndIn, left_as_before, may_end, recorded, returned}
use Rattle.shadow_core.proofs.Profiled.{on_err}
use Rattle.shadow_core.proofs.SamePages.{threads_alike, with_alike}
use Rattle.shadow_core.proofs.Settled.{whole_as_before, whole_still}
use Rattle.shadow_core.proofs.profiler.Profiler.return_full.Goals as goal

pub ending-ended-requires : goal.ending-ended-requires
ending-ended-requires g c =
    let t = c.args.tid in
    let may = may_end g.S.Stamp.MAX t (Ret t c.args.target) _ _ c.self.view_is c.requires c.requires.formed.0.0 in
    may.can.lives

pub frames-requires : goal.frames-requires
frames-requires g c =
    let t = c.args.tid in
    let may = may_end g.S.Stamp.MAX t (Ret t c.args.target) _ _ c.self.view_is c.requires c.requires.formed.0.0 in
    let can : MayEndIn c.ending-ended.new.self t = subst (λ (l : Live). MayEndIn l t) (sym c.ending-ended.ensures.same) may.can in
    can.lives

pub end_calls-requires-clause-lives : goal.end_calls-requires-clause-lives
end_calls-requires-clause-lives g c =
    let t = c.args.tid in
    let may = may_end g.S.Stamp.MAX t (Ret t c.args.target) _ _ c.self.view_is c.requires c.requires.formed.0.0 in
    let same = c.ending-ended.ensures.same in
    let can : MayEndIn c.ending-ended.new.self t = subst (λ (l : Live). MayEndIn l t) (sym same) may.can in
    can.lives

pub end_calls-requires-clause-frames : goal.end_calls-requires-clause-frames
end_calls-requires-clause-frames g c =
    let t = c.args.tid in
    let may = may_end g.S.Stamp.MAX t (Ret t c.args.target) _ _ c.self.view_is c.requires c.requires.formed.0.0 in
    let same = c.ending-ended.ensures.same in
    let can : MayEndIn c.ending-ended.new.self t = subst (λ (l : Live). MayEndIn l t) (sym same) may.can in
    omega (
      arith,
      can.frames,
      ap (λ (l : Live). length (calls_of l.threads t).list) same,
      c.ending-ended.ensures.within,
    )

pub end_calls-requires-clause-calls : goal.end_calls-requires-clause-calls
end_calls-requires-clause-calls g c =
    let t = c.args.tid in
    let may = may_end g.S.Stamp.MAX t (Ret t c.args.target) _ _ c.self.view_is c.requires c.requires.formed.0.0 in
    let same = c.ending-ended.ensures.same in
    omega (
      arith,
      ap (λ (l : Live). length (calls_of l.threads t).list) same,
      c.ending-ended.ensures.within,
    )

pub end_calls-requires-clause-sums : goal.end_calls-requires-clause-sums
end_calls-requires-clause-sums g c =
    let t = c.args.tid in
    let may = may_end g.S.Stamp.MAX t (Ret t c.args.target) _ _ c.self.view_is c.requires c.requires.formed.0.0 in
    let same = c.ending-ended.ensures.same in
    let can : MayEndIn c.ending-ended.new.self t = subst (λ (l : Live). MayEndIn l t) (sym same) may.can in
    can.sums

pub end_calls-requires-clause-thread : goal.end_calls-requires-clause-thread
end_calls-requires-clause-thread g c =
    let t = c.args.tid in
    let may = may_end g.S.Stamp.MAX t (Ret t c.args.target) _ _ c.self.view_is c.requires c.requires.formed.0.0 in
    let same = c.ending-ended.ensures.same in
    let can : MayEndIn c.ending-ended.new.self t = subst (λ (l : Live). MayEndIn l t) (sym same) may.can in
    can.thread

pub end_calls-requires-clause-kernel : goal.end_calls-requires-clause-kernel
end_calls-requires-clause-kernel g c =
    let t = c.args.tid in
    let may = may_end g.S.Stamp.MAX t (Ret t c.args.target) _ _ c.self.view_is c.requires c.requires.formed.0.0 in
    let same = c.ending-ended.ensures.same in
    let can : MayEndIn c.ending-ended.new.self t = subst (λ (l : Live). MayEndIn l t) (sym same) may.can in
    can.kernel

pub returns-clause-table : goal.returns-clause-table
returns-clause-table g c =
    let t = c.args.tid in
    let may = may_end g.S.Stamp.MAX t (Ret t c.args.target) _ _ c.self.view_is c.requires c.requires.formed.0.0 in
    let same = c.ending-ended.ensures.same in
    let ended : IsEnded t c.ending-ended.result c.self.inside.threads c.end_calls.new.threads c.reserve.new.self.items c.end_calls.new.done.items =
    subst (λ (l : Live). IsEnded t c.ending-ended.result l c.end_calls.new.threads c.reserve.new.self.items c.end_calls.new.done.items) same c.end_calls.ensures.ended in
    let count = c.ending-ended.ensures.count in
    returned t c.args.target c.ending-ended.result _ c.end_calls.new.threads c.reserve.new.self.items c.end_calls.new.done.items may count ended g.S.Stamp.MAX
    ∙ ap (λ (k : State). table_after (bounded_tick g.S.Stamp.MAX) (Ret t c.args.target) (table_of_state k)) c.self.view_is

pub returns-clause-done : goal.returns-clause-done
returns-clause-done g c =
    let t = c.args.tid in
    let may = may_end g.S.Stamp.MAX t (Ret t c.args.target) _ _ c.self.view_is c.requires c.requires.formed.0.0 in
    let same = c.ending-ended.ensures.same in
    let ended : IsEnded t c.ending-ended.result c.self.inside.threads c.end_calls.new.threads c.reserve.new.self.items c.end_calls.new.done.items =
    subst (λ (l : Live). IsEnded t c.ending-ended.result l c.end_calls.new.threads c.reserve.new.self.items c.end_calls.new.done.items) same c.end_calls.ensures.ended in
    let count = c.ending-ended.ensures.count in
    recorded t c.args.target c.ending-ended.result _ c.end_calls.new.threads c.reserve.new.self.items c.end_calls.new.done.items may count ended
    ∙ (λ i. c.in_ok-reserve.ensures.items i ++ finished (Ret t c.args.target) (table_of_state (c.self.view_is i)))

pub returns-in_err-reserve-clause-no_allocation : goal.returns-in_err-reserve-clause-no_allocation
returns-in_err-reserve-clause-no_allocation g c = λ fits.
    let own = sym (ap (λ (s : State). returned_by c.args.target (calls_of s.live.threads c.args.tid)) c.self.view_is) in
    absurd (omega (arith, fits, c.in_err-reserve.ensures.full, c.ending-ended.ensures.count, own))

pub returns-clause-pages : goal.returns-clause-pages
returns-clause-pages g c =
    let t = c.args.tid in
    let may = may_end g.S.Stamp.MAX t (Ret t c.args.target) _ _ c.self.view_is c.requires c.requires.formed.0.0 in
    let same = c.ending-ended.ensures.same in
    let ended : IsEnded t c.ending-ended.result c.self.inside.threads c.end_calls.new.threads c.reserve.new.self.items c.end_calls.new.done.items =
    subst (λ (l : Live). IsEnded t c.ending-ended.result l c.end_calls.new.threads c.reserve.new.self.items c.end_calls.new.done.items) same c.end_calls.ensures.ended in
    let count = c.ending-ended.ensures.count in
    threads_alike c.self.view_is refl refl (λ u w. ap (λ xs. covers (pages_of xs u) w) ended.threads ∙ with_alike c.self.inside.threads.threads t _ may.can.lives (λ v. refl) u w)

pub returns-in_err-reserve-clause-pages : goal.returns-in_err-reserve-clause-pages
returns-in_err-reserve-clause-pages g c =
    let t = c.args.tid in
    let may = may_end g.S.Stamp.MAX t (Ret t c.args.target) _ _ c.self.view_is c.requires c.requires.formed.0.0 in
    let same = c.ending-ended.ensures.same in
    threads_alike c.self.view_is refl refl (λ u w. ap (λ (l : Live). covers (pages_of l.threads u) w) same)

pub returns-in_err-reserve-clause-refused : goal.returns-in_err-reserve-clause-refused
returns-in_err-reserve-clause-refused g c =
    let t = c.args.tid in
    let may = may_end g.S.Stamp.MAX t (Ret t c.args.target) _ _ c.self.view_is c.requires c.requires.formed.0.0 in
    let same = c.ending-ended.ensures.same in
    on_err c.from_residual.result (left_as_before _ _ c.self.view_is _ same)

pub invariant_of-self : goal.invariant_of-self
invariant_of-self g c =
    whole_as_before _ c.args.self.now _ c.self.view_is c.self.invariant (left_as_before _ _ c.self.view_is _ c.ending-ended.ensures.same) refl c.self.invariant.marked

pub invariant_of-self-2 : goal.invariant_of-self-2
invariant_of-self-2 g c =
    whole_still g.S.Stamp.MAX (Ret c.args.tid c.args.target) _ _ _ c.self.view_is c.requires c.self.invariant tt (returns-clause-table g c) refl c.self.invariant.marked

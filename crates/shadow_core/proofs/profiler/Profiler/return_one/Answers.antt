use Rattle.std.proofs.Common.{◌==◌, ◌≡◌, ◌∙◌, ◌∷◌, [], ap, arith, refl, subst, sym}
use Rattle.trace_model.specs.declared.event_kinds.Event.TheVariants.{Ret}
use Rattle.trace_model.specs.declared.slow_profile.Done.{Done}
use Rattle.call_tracker.specs.ThreadCalls.{Counts}
use Rattle.shadow_pages.specs.Pages.{covers}
use Rattle.stamp_renumber.specs.declared.thread_stamps.Returned.{Returned}
use Rattle.stamp_renumber.specs.Returned.{IsReturned, returned_by}
use Rattle.stamp_renumber.specs.Threads.{Live, calls_of, pages_of}
use Rattle.shadow_core.specs.Private.Ending.{IsEnded}
use Rattle.stamp_table.specs.Records.{finished, record_of}
use Rattle.stamp_table.specs.Renewal.{bounded_tick}
use Rattle.shadow_core.specs.State.{State, table_of_state}
use Rattle.stamp_table.specs.Ticks.{table_after}
use Rattle.shadow_core.proofs.Applied.{deep_by_frames, taken}
use Rattle.shadow_core.proofs.Ended.{as_before, may_end, may_pop, recorded, returned, left_as_before}
use Rattle.shadow_core.proofs.Popped.{one_ended}
use Rattle.shadow_core.proofs.SamePages.{threads_alike, with_alike}
use Rattle.shadow_core.proofs.Settled.{whole_still, whole_as_before}
use Rattle.shadow_core.proofs.profiler.Profiler.return_one.Goals as goal

pub return_to-requires-clause-lives : goal.return_to-requires-clause-lives
return_to-requires-clause-lives g c =
    let t = c.args.tid in
    let may = may_end g.S.Stamp.MAX t (Ret t c.args.target) _ _ c.self.view_is c.requires c.requires.formed.0.0 in
    may.can.lives

pub return_to-requires-clause-frames : goal.return_to-requires-clause-frames
return_to-requires-clause-frames g c =
    let t = c.args.tid in
    let may = may_end g.S.Stamp.MAX t (Ret t c.args.target) _ _ c.self.view_is c.requires c.requires.formed.0.0 in
    omega (arith, may.can.frames)

pub return_to-requires-clause-fits : goal.return_to-requires-clause-fits
return_to-requires-clause-fits g c =
    let t = c.args.tid in
    let may = may_end g.S.Stamp.MAX t (Ret t c.args.target) _ _ c.self.view_is c.requires c.requires.formed.0.0 in
    may_pop c.self.inside.threads t may.can

pub record_of-requires-clause-thread : goal.record_of-requires-clause-thread
record_of-requires-clause-thread g c =
    let t = c.args.tid in
    let may = may_end g.S.Stamp.MAX t (Ret t c.args.target) _ _ c.self.view_is c.requires c.requires.formed.0.0 in
    let one = subst (λ (r : Returned). IsReturned t c.args.target c.self.inside.threads c.return_to.new.self r) c.in-One.is c.return_to.ensures in
    let e = one.1 in
    let x = c.in-One.ended in
    omega (arith, may.can.thread, ap (λ (k : Counts). k.thread) e.counted)

pub record_of-requires-clause-kernel : goal.record_of-requires-clause-kernel
record_of-requires-clause-kernel g c =
    let t = c.args.tid in
    let may = may_end g.S.Stamp.MAX t (Ret t c.args.target) _ _ c.self.view_is c.requires c.requires.formed.0.0 in
    let one = subst (λ (r : Returned). IsReturned t c.args.target c.self.inside.threads c.return_to.new.self r) c.in-One.is c.return_to.ensures in
    let e = one.1 in
    let x = c.in-One.ended in
    omega (arith, may.can.kernel, ap (λ (k : Counts). k.kernel) e.counted)

pub returns-in-One-clause-table : goal.returns-in-One-clause-table
returns-in-One-clause-table g c =
    let t = c.args.tid in
    let may = may_end g.S.Stamp.MAX t (Ret t c.args.target) _ _ c.self.view_is c.requires c.requires.formed.0.0 in
    let one = subst (λ (r : Returned). IsReturned t c.args.target c.self.inside.threads c.return_to.new.self r) c.in-One.is c.return_to.ensures in
    let e = one.1 in
    let x = c.in-One.ended in
    let after = c.record_of.result ∷ [] in
    let ended : IsEnded t 1 c.self.inside.threads c.return_to.new.self [] after =
    one_ended t c.self.inside.threads c.return_to.new.self [] after x.sums x.call e.popped e.threads e.list e.counts
    (ap (λ (d : Done). d ∷ []) c.record_of.ensures ∙ ap (λ (k : Counts). record_of t k x.sums x.call ∷ []) e.counted) in
    let made =
    returned t c.args.target 1 _ c.return_to.new.self [] after may (sym one.0) ended g.S.Stamp.MAX
    ∙ ap (λ (k : State). table_after (bounded_tick g.S.Stamp.MAX) (Ret t c.args.target) (table_of_state k)) c.self.view_is in
    let kept : after ≡ finished (Ret t c.args.target) (table_of_state c.args.self.now) =
    recorded t c.args.target 1 _ c.return_to.new.self [] after may (sym one.0) ended
    ∙ ap (λ (k : State). finished (Ret t c.args.target) (table_of_state k)) c.self.view_is in
    made

pub returns-in-One-clause-records : goal.returns-in-One-clause-records
returns-in-One-clause-records g c =
    let t = c.args.tid in
    let may = may_end g.S.Stamp.MAX t (Ret t c.args.target) _ _ c.self.view_is c.requires c.requires.formed.0.0 in
    let one = subst (λ (r : Returned). IsReturned t c.args.target c.self.inside.threads c.return_to.new.self r) c.in-One.is c.return_to.ensures in
    let e = one.1 in
    let x = c.in-One.ended in
    let after = c.record_of.result ∷ [] in
    let ended : IsEnded t 1 c.self.inside.threads c.return_to.new.self [] after =
    one_ended t c.self.inside.threads c.return_to.new.self [] after x.sums x.call e.popped e.threads e.list e.counts
    (ap (λ (d : Done). d ∷ []) c.record_of.ensures ∙ ap (λ (k : Counts). record_of t k x.sums x.call ∷ []) e.counted) in
    let made =
    returned t c.args.target 1 _ c.return_to.new.self [] after may (sym one.0) ended g.S.Stamp.MAX
    ∙ ap (λ (k : State). table_after (bounded_tick g.S.Stamp.MAX) (Ret t c.args.target) (table_of_state k)) c.self.view_is in
    let kept : after ≡ finished (Ret t c.args.target) (table_of_state c.args.self.now) =
    recorded t c.args.target 1 _ c.return_to.new.self [] after may (sym one.0) ended
    ∙ ap (λ (k : State). finished (Ret t c.args.target) (table_of_state k)) c.self.view_is in
    kept

pub returns-in-One-clause-stands : goal.returns-in-One-clause-stands
returns-in-One-clause-stands g c =
    let t = c.args.tid in
    let may = may_end g.S.Stamp.MAX t (Ret t c.args.target) _ _ c.self.view_is c.requires c.requires.formed.0.0 in
    let one = subst (λ (r : Returned). IsReturned t c.args.target c.self.inside.threads c.return_to.new.self r) c.in-One.is c.return_to.ensures in
    let e = one.1 in
    let x = c.in-One.ended in
    let after = c.record_of.result ∷ [] in
    let ended : IsEnded t 1 c.self.inside.threads c.return_to.new.self [] after =
    one_ended t c.self.inside.threads c.return_to.new.self [] after x.sums x.call e.popped e.threads e.list e.counts
    (ap (λ (d : Done). d ∷ []) c.record_of.ensures ∙ ap (λ (k : Counts). record_of t k x.sums x.call ∷ []) e.counted) in
    let made =
    returned t c.args.target 1 _ c.return_to.new.self [] after may (sym one.0) ended g.S.Stamp.MAX
    ∙ ap (λ (k : State). table_after (bounded_tick g.S.Stamp.MAX) (Ret t c.args.target) (table_of_state k)) c.self.view_is in
    let kept : after ≡ finished (Ret t c.args.target) (table_of_state c.args.self.now) =
    recorded t c.args.target 1 _ c.return_to.new.self [] after may (sym one.0) ended
    ∙ ap (λ (k : State). finished (Ret t c.args.target) (table_of_state k)) c.self.view_is in
    λ past stands.
    taken g.S.Stamp.MAX (Ret t c.args.target) past c.args.self.now _ [] after c.requires stands (deep_by_frames g.S.Stamp.MAX (Ret t c.args.target) c.args.self.now past stands) made kept

pub returns-in-One-clause-pages : goal.returns-in-One-clause-pages
returns-in-One-clause-pages g c =
    let t = c.args.tid in
    let may = may_end g.S.Stamp.MAX t (Ret t c.args.target) _ _ c.self.view_is c.requires c.requires.formed.0.0 in
    let one = subst (λ (r : Returned). IsReturned t c.args.target c.self.inside.threads c.return_to.new.self r) c.in-One.is c.return_to.ensures in
    let e = one.1 in
    let x = c.in-One.ended in
    threads_alike c.self.view_is refl refl (λ u w. ap (λ xs. covers (pages_of xs u) w) e.threads ∙ with_alike c.self.inside.threads.threads t _ may.can.lives (λ v. refl) u w)

pub returns-in-Many-clause-others : goal.returns-in-Many-clause-others
returns-in-Many-clause-others g c =
    let t = c.args.tid in
    let many = subst (λ (r : Returned). IsReturned t c.args.target c.self.inside.threads c.return_to.new.self r) c.in-Many.is c.return_to.ensures in
    ap (λ n. n == 1) (ap (λ (k : State). returned_by c.args.target (calls_of k.live.threads t)) (sym c.self.view_is) ∙ sym many.1) ∙ many.0

pub returns-in-Many-clause-same : goal.returns-in-Many-clause-same
returns-in-Many-clause-same g c =
    let t = c.args.tid in
    let many = subst (λ (r : Returned). IsReturned t c.args.target c.self.inside.threads c.return_to.new.self r) c.in-Many.is c.return_to.ensures in
    as_before _ _ c.self.view_is c.return_to.new.self many.2

pub returns-in-Many-clause-pages : goal.returns-in-Many-clause-pages
returns-in-Many-clause-pages g c =
    let t = c.args.tid in
    let many = subst (λ (r : Returned). IsReturned t c.args.target c.self.inside.threads c.return_to.new.self r) c.in-Many.is c.return_to.ensures in
    threads_alike c.self.view_is refl refl (λ u w. ap (λ (l : Live). covers (pages_of l.threads u) w) many.2)

pub invariant_of-self : goal.invariant_of-self
invariant_of-self g c =
    whole_still g.S.Stamp.MAX (Ret c.args.tid c.args.target) _ _ _ c.self.view_is c.requires c.self.invariant tt (returns-in-One-clause-table g c) refl c.self.invariant.marked

pub invariant_of-self-in-Many : goal.invariant_of-self-in-Many
invariant_of-self-in-Many g c =
    let many = subst (λ (r : Returned). IsReturned c.args.tid c.args.target c.self.inside.threads c.return_to.new.self r) c.in-Many.is c.return_to.ensures in
    whole_as_before _ c.args.self.now _ c.self.view_is c.self.invariant (left_as_before _ _ c.self.view_is c.return_to.new.self many.2) refl c.self.invariant.marked

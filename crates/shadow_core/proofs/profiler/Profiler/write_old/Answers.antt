use Rattle.std.proofs.Common.{◌≡◌, ◌∙◌, ℕ, ap, cond, subst, sym, refl}
use Rattle.trace_model.specs.declared.event_kinds.Event.TheVariants.{Write}
use Rattle.shadow_pages.specs.Pages.{HasPlace, in_range, stamp_at}
use Rattle.stamp_renumber.specs.Threads.{pages_of}
use Rattle.stamp_table.specs.Renewal.{bounded_tick}
use Rattle.shadow_core.specs.State.{State, table_of_state}
use Rattle.stamp_table.specs.Ticks.{table_after}
use Rattle.shadow_core.proofs.Accessed.{written}
use Rattle.shadow_core.proofs.Profiled.{advance_here, alive_here, lives_here}
use Rattle.shadow_core.proofs.Reading.{not_changed}
use Rattle.shadow_core.proofs.SamePages.{changed_alike, seen_same}
use Rattle.shadow_core.proofs.Settled.{whole_still}
use Rattle.shadow_core.proofs.profiler.Profiler.write_old.Goals as goal

pub from_number-now-requires : goal.from_number-now-requires
from_number-now-requires g c = (advance_here g.S.Stamp.MAX (Write c.args.tid c.args.w 1) _ _ c.self.view_is c.requires.may).within

pub write_at-requires-clause-lives : goal.write_at-requires-clause-lives
write_at-requires-clause-lives g c =
    lives_here _ c.args.tid (alive_here g.S.Stamp.MAX (Write c.args.tid c.args.w 1) c.args.tid _ _ c.self.view_is c.requires.may c.requires.may.formed.0.0.0)

pub write_at-requires-clause-own : goal.write_at-requires-clause-own
write_at-requires-clause-own g c = subst (λ (k : State). HasPlace (pages_of k.live.threads c.args.tid) c.args.w c.args.own) (sym c.self.view_is) c.requires.own

pub write_at-requires-clause-written : goal.write_at-requires-clause-written
write_at-requires-clause-written g c = subst (λ (k : State). HasPlace k.writes c.args.w c.args.place) (sym c.self.view_is) c.requires.written

pub write_at-requires-clause-marked : goal.write_at-requires-clause-marked
write_at-requires-clause-marked g c = subst (λ (k : State). HasPlace k.marks c.args.w c.args.place) (sym c.self.view_is) c.requires.marked

pub returns-clause-table : goal.returns-clause-table
returns-clause-table g c =
    let w = c.args.w in
    let t = c.args.tid in
    let a = alive_here g.S.Stamp.MAX (Write t w 1) t _ _ c.self.view_is c.requires.may c.requires.may.formed.0.0.0 in
    let fits = (advance_here g.S.Stamp.MAX (Write t w 1) _ _ c.self.view_is c.requires.may).within in
    let number : g.S.Stamp.number_of c.from_number-now.result ≡ c.self.inside.counter =
    ap g.S.Stamp.number_of c.from_number-now.ensures ∙ g.met.S.Stamp.number_back c.self.inside.counter fits in
    written g.S.Stamp.MAX t w 1 _ a.was c.self.inside.threads c.write_at.new.threads c.self.inside.writes.pages c.self.inside.marks.pages
    c.write_at.new.writes.pages c.write_at.new.marks.pages a.has (not_changed c.self.inside.threads t (lives_here _ t a)) (λ l. refl) (λ l. refl) (λ l. refl) c.write_at.ensures.changed
    (λ l. c.write_at.ensures.access.stamps l ∙ ap (λ (n : ℕ). cond (in_range w 1 l) n (stamp_at (pages_of c.self.inside.threads.threads t) l)) number)
    (λ l. c.write_at.ensures.writes.stamps l ∙ ap (λ (n : ℕ). cond (in_range w 1 l) n (stamp_at c.self.inside.writes.pages l)) number)
    c.write_at.ensures.marks.stamps
    ∙ ap (λ (k : State). table_after (bounded_tick g.S.Stamp.MAX) (Write t w 1) (table_of_state k)) c.self.view_is

pub returns-clause-pages : goal.returns-clause-pages
returns-clause-pages g c =
    let w = c.args.w in
    let t = c.args.tid in
    let lives = lives_here _ t (alive_here g.S.Stamp.MAX (Write t w 1) t _ _ c.self.view_is c.requires.may c.requires.may.formed.0.0.0) in
    seen_same c.self.view_is (record {
      writes = λ l. c.write_at.ensures.writes.covered l;
      marks = λ l. c.write_at.ensures.marks.covered l;
      accesses = λ u l. changed_alike c.self.inside.threads c.write_at.new.threads t _ _ lives c.write_at.ensures.changed c.write_at.ensures.access.covered u l;
    })

pub invariant_of-self : goal.invariant_of-self
invariant_of-self g c =
    whole_still g.S.Stamp.MAX (Write c.args.tid c.args.w 1) _ _ _ c.self.view_is c.requires.may c.self.invariant tt (returns-clause-table g c) refl
    (λ w h. c.write_at.ensures.marks.covered w ∙ c.self.invariant.marked w (sym (c.write_at.ensures.writes.covered w) ∙ h))

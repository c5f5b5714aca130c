use Rattle.std.proofs.Common.{◌≡◌, ◌∙◌, ℕ, ap, cond, subst, sym, refl}
use Rattle.trace_model.specs.declared.event_kinds.Event.TheVariants.{Write}
use Rattle.shadow_pages.specs.Pages.{AreCovered, covers, in_range, stamp_at}
use Rattle.stamp_renumber.specs.Threads.{pages_of}
use Rattle.stamp_table.specs.Renewal.{bounded_tick}
use Rattle.shadow_core.specs.State.{State, table_of_state}
use Rattle.stamp_table.specs.Ticks.{table_after}
use Rattle.shadow_core.proofs.Accessed.{all_room, own_room, written}
use Rattle.shadow_core.proofs.Profiled.{advance_here, alive_here, lives_here, on_err}
use Rattle.shadow_core.proofs.Reading.{lives_changed}
use Rattle.shadow_core.proofs.SamePages.{changed_alike, seen_same}
use Rattle.shadow_core.proofs.Settled.{whole_as_before, whole_still}
use Rattle.shadow_core.proofs.profiler.Profiler.write_anew.Goals as goal

pub cover_own-requires-clause-lives : goal.cover_own-requires-clause-lives
cover_own-requires-clause-lives g c =
    let a = alive_here g.S.Stamp.MAX (Write c.args.tid c.args.first c.args.count) c.args.tid _ _ c.self.view_is c.requires c.requires.formed.0.0.0 in
    lives_here _ c.args.tid a

pub returns-in_err-cover_own-clause-refused : goal.returns-in_err-cover_own-clause-refused
returns-in_err-cover_own-clause-refused g c =
    let a = alive_here g.S.Stamp.MAX (Write c.args.tid c.args.first c.args.count) c.args.tid _ _ c.self.view_is c.requires c.requires.formed.0.0.0 in
    on_err c.from_residual.result
    (own_room _ c.args.tid a.was c.cover_own.new.threads a.has c.in_err-cover_own.ensures.changed c.in_err-cover_own.ensures.stamps
    ∙ ap table_of_state c.self.view_is)

pub returns-in_err-cover-clause-refused : goal.returns-in_err-cover-clause-refused
returns-in_err-cover-clause-refused g c =
    let a = alive_here g.S.Stamp.MAX (Write c.args.tid c.args.first c.args.count) c.args.tid _ _ c.self.view_is c.requires c.requires.formed.0.0.0 in
    on_err c.from_residual-in_err-cover.result
    (all_room _ c.args.tid a.was c.cover_own.new.threads c.cover.new.writes.pages c.cover.new.marks.pages a.has
    c.in_ok-cover_own.ensures.changed c.in_ok-cover_own.ensures.stamps c.in_err-cover.ensures.stamps c.in_err-cover.ensures.kinds
    ∙ ap table_of_state c.self.view_is)

pub from_number-now-requires : goal.from_number-now-requires
from_number-now-requires g c = (advance_here g.S.Stamp.MAX (Write c.args.tid c.args.first c.args.count) _ _ c.self.view_is c.requires).within

pub returns-clause-table : goal.returns-clause-table
returns-clause-table g c =
    let first = c.args.first in
    let count = c.args.count in
    let t = c.args.tid in
    let a = alive_here g.S.Stamp.MAX (Write t first count) t _ _ c.self.view_is c.requires c.requires.formed.0.0.0 in
    let fits = (advance_here g.S.Stamp.MAX (Write t first count) _ _ c.self.view_is c.requires).within in
    let number : g.S.Stamp.number_of c.from_number-now.result ≡ c.self.inside.counter =
    ap g.S.Stamp.number_of c.from_number-now.ensures ∙ g.met.S.Stamp.number_back c.self.inside.counter fits in
    let own = c.in_ok-cover_own.ensures in
    let covered = c.in_ok-cover.ensures in
    written g.S.Stamp.MAX t first count _ a.was c.cover_own.new.threads c.write.new.threads c.cover.new.writes.pages c.cover.new.marks.pages
    c.write.new.writes.pages c.write.new.marks.pages a.has own.changed own.stamps covered.stamps covered.kinds c.write.ensures.changed
    (λ w. c.write.ensures.access.stamps w ∙ ap (λ (n : ℕ). cond (in_range first count w) n (stamp_at (pages_of c.cover_own.new.threads.threads t) w)) number)
    (λ w. c.write.ensures.writes.stamps w ∙ ap (λ (n : ℕ). cond (in_range first count w) n (stamp_at c.cover.new.writes.pages w)) number)
    c.write.ensures.marks.stamps
    ∙ ap (λ (k : State). table_after (bounded_tick g.S.Stamp.MAX) (Write t first count) (table_of_state k)) c.self.view_is

pub returns-clause-pages : goal.returns-clause-pages
returns-clause-pages g c = λ own all.
    let first = c.args.first in
    let count = c.args.count in
    let t = c.args.tid in
    let a = alive_here g.S.Stamp.MAX (Write t first count) t _ _ c.self.view_is c.requires c.requires.formed.0.0.0 in
    let lives = lives_here _ t a in
    let old = c.self.inside.threads in
    let mid = c.cover_own.new.threads in
    let roomy = c.in_ok-cover_own.ensures.changed in
    let kept = c.in_ok-cover_own.ensures.same (subst (λ (k : State). AreCovered (pages_of k.live.threads t) first count) (sym c.self.view_is) own) in
    let same = c.in_ok-cover.ensures.same (subst (λ (k : State). AreCovered k.writes first count) (sym c.self.view_is) all) in
    seen_same c.self.view_is (record {
      writes = λ w. c.write.ensures.writes.covered w ∙ ap (λ ps. covers ps w) same.0;
      marks = λ w. c.write.ensures.marks.covered w ∙ ap (λ ps. covers ps w) same.1;
      accesses = λ u w.
          changed_alike mid c.write.new.threads t _ _ (lives_changed old mid t _ _ lives roomy) c.write.ensures.changed c.write.ensures.access.covered u w
          ∙ changed_alike old mid t _ _ lives roomy (λ v. ap (λ ps. covers ps v) kept) u w;
    })

pub invariant_of-self-2 : goal.invariant_of-self-2
invariant_of-self-2 g c =
    whole_still g.S.Stamp.MAX (Write c.args.tid c.args.first c.args.count) _ _ _ c.self.view_is c.requires c.self.invariant tt (returns-clause-table g c) refl
    (λ w h. c.write.ensures.marks.covered w ∙ c.in_ok-cover.ensures.marked w (sym (c.write.ensures.writes.covered w) ∙ h))

pub invariant_of-self : goal.invariant_of-self
invariant_of-self g c =
    let a = alive_here g.S.Stamp.MAX (Write c.args.tid c.args.first c.args.count) c.args.tid _ _ c.self.view_is c.requires c.requires.formed.0.0.0 in
    whole_as_before _ c.args.self.now _ c.self.view_is c.self.invariant
    (own_room _ c.args.tid a.was c.cover_own.new.threads a.has c.in_err-cover_own.ensures.changed c.in_err-cover_own.ensures.stamps ∙ ap table_of_state c.self.view_is) refl c.self.invariant.marked

pub invariant_of-self-in_err-cover : goal.invariant_of-self-in_err-cover
invariant_of-self-in_err-cover g c =
    let a = alive_here g.S.Stamp.MAX (Write c.args.tid c.args.first c.args.count) c.args.tid _ _ c.self.view_is c.requires c.requires.formed.0.0.0 in
    whole_as_before _ c.args.self.now _ c.self.view_is c.self.invariant
    (all_room _ c.args.tid a.was c.cover_own.new.threads c.cover.new.writes.pages c.cover.new.marks.pages a.has
    c.in_ok-cover_own.ensures.changed c.in_ok-cover_own.ensures.stamps c.in_err-cover.ensures.stamps c.in_err-cover.ensures.kinds
    ∙ ap table_of_state c.self.view_is) refl c.in_err-cover.ensures.marked

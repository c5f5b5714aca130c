use Rattle.std.proofs.Common.{◌≡◌, ◌∙◌, ℕ, ap, cond, subst, sym, true, ◌+◌, ◌*◌, length, arith, refl}
use Rattle.trace_model.specs.declared.event_kinds.Event.TheVariants.{Fill}
use Rattle.shadow_pages.specs.Pages.{AreCovered, covers, in_range, stamp_at}
use Rattle.stamp_table.specs.Renewal.{bounded_tick}
use Rattle.shadow_core.specs.State.{State, table_of_state}
use Rattle.stamp_table.specs.Ticks.{table_after}
use Rattle.shadow_core.proofs.Accessed.{filled}
use Rattle.shadow_core.proofs.Profiled.{advance_here}
use Rattle.shadow_core.proofs.SamePages.{advanced_alike, seen_same}
use Rattle.std.specs.Prelude.{nat_lt, sum_by}
use Rattle.stamp_renumber.specs.Costs.{stamps_in, stamps_of}
use Rattle.shadow_core.specs.Costs.{most_ticked}
use Rattle.shadow_core.proofs.Costs.{ticked_more}
use Rattle.shadow_core.proofs.Settled.{whole_as_before, whole_anew}
use Rattle.shadow_core.proofs.StateTold.{pages_are_not_told}
use Rattle.shadow_core.proofs.profiler.Profiler.fill.Goals as goal

pub advance-requires-clause-within : goal.advance-requires-clause-within
advance-requires-clause-within g c = (advance_here g.S.Stamp.MAX (Fill c.args.first c.args.count) _ _ c.self.view_is c.requires).within

pub advance-requires-clause-room : goal.advance-requires-clause-room
advance-requires-clause-room g c = (advance_here g.S.Stamp.MAX (Fill c.args.first c.args.count) _ _ c.self.view_is c.requires).room

pub advance-requires-clause-rising : goal.advance-requires-clause-rising
advance-requires-clause-rising g c = (advance_here g.S.Stamp.MAX (Fill c.args.first c.args.count) _ _ c.self.view_is c.requires).rising

pub advance-requires-clause-few : goal.advance-requires-clause-few
advance-requires-clause-few g c = (advance_here g.S.Stamp.MAX (Fill c.args.first c.args.count) _ _ c.self.view_is c.requires).few

pub returns-clause-table : goal.returns-clause-table
returns-clause-table g c =
    let first = c.args.first in
    let count = c.args.count in
    let s : State = record { counter = c.self.inside.counter; writes = c.self.inside.writes.pages; marks = c.self.inside.marks.pages; live = c.self.inside.threads; last = c.self.inside.last; greatest = c.self.inside.greatest; weight = c.self.inside.weight; renumbered = c.self.inside.renumbered; settled = c.self.inside.settled } in
    let covered = c.cover.ensures in
    let number : g.S.Stamp.number_of c.from_number-now.result ≡ c.advance.new.counter =
    ap g.S.Stamp.number_of c.from_number-now.ensures ∙ g.met.S.Stamp.number_back c.advance.new.counter c.advance.ensures.advanced.within in
    filled g.S.Stamp.MAX first count s c.cover.new.writes.pages c.cover.new.marks.pages _ c.fill.new.writes.pages c.fill.new.marks.pages
    covered.stamps covered.kinds c.advance.ensures.advanced
    (λ w. c.fill.ensures.writes.stamps w ∙ ap (λ (n : ℕ). cond (in_range first count w) n (stamp_at c.advance.new.writes.pages w)) number)
    c.fill.ensures.marks.stamps
    ∙ ap (λ (k : State). table_after (bounded_tick g.S.Stamp.MAX) (Fill first count) (table_of_state k)) c.self.view_is

pub returns-clause-pages : goal.returns-clause-pages
returns-clause-pages g c = λ all.
    let same = c.cover.ensures.same (subst (λ (k : State). AreCovered k.writes c.args.first c.args.count) (sym c.self.view_is) all) in
    seen_same c.self.view_is (record {
      writes = λ w. c.fill.ensures.writes.covered w ∙ c.advance.ensures.advanced.covered w ∙ ap (λ ps. covers ps w) same.0;
      marks = λ w. c.fill.ensures.marks.covered w ∙ ap (λ ps. covers ps w) same.1;
      accesses = advanced_alike g.S.Stamp.MAX true _ _ c.advance.ensures.advanced;
    })

pub returns-clause-cost : goal.returns-clause-cost
returns-clause-cost g c = λ digits fits.
    let most = g.S.Stamp.MAX in
    let n = c.args.count in
    let s = c.self.inside in
    let few = ticked_more (nat_lt s.counter most) (sum_by (λ x. stamps_of x.1) s.threads.threads) (length s.writes.pages) (length c.cover.new.writes.pages) n c.cover.ensures.few in
    let is : cond (nat_lt s.counter most) 0 (stamps_in s.threads s.writes.pages + 1024 * n) ≡ most_ticked most (Fill c.args.first n) c.args.self.now = ap (λ (k : State). most_ticked most (Fill c.args.first n) k) c.self.view_is in
    omega (arith, few, is, c.advance.ensures.cost, c.count.ensures, c.from.ensures)

pub invariant_of-self : goal.invariant_of-self
invariant_of-self g c =
    let s : State = record { counter = c.self.inside.counter; writes = c.self.inside.writes.pages; marks = c.self.inside.marks.pages; live = c.self.inside.threads; last = c.self.inside.last; greatest = c.self.inside.greatest; weight = c.self.inside.weight; renumbered = c.self.inside.renumbered; settled = c.self.inside.settled } in
    whole_as_before _ c.args.self.now _ c.self.view_is c.self.invariant
    (pages_are_not_told s c.cover.new.writes.pages c.cover.new.marks.pages c.in_err-cover.ensures.stamps c.in_err-cover.ensures.kinds ∙ ap table_of_state c.self.view_is) refl c.in_err-cover.ensures.marked

pub invariant_of-self-2 : goal.invariant_of-self-2
invariant_of-self-2 g c =
    whole_anew g.S.Stamp.MAX (Fill c.args.first c.args.count) c.args.self.now _ c.requires (returns-clause-table g c) refl
    (λ w h. c.fill.ensures.marks.covered w ∙ c.in_ok-cover.ensures.marked w (sym (c.advance.ensures.advanced.covered w) ∙ sym (c.fill.ensures.writes.covered w) ∙ h))

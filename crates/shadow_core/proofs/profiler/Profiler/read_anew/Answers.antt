use Rattle.std.proofs.Common.{◌≡◌, ◌≤◌, ◌∙◌, ap, refl, subst, sym, arith, ◌+◌, ◌*◌}
use Rattle.trace_model.specs.declared.event_kinds.Event.TheVariants.{Read}
use Rattle.shadow_pages.specs.Pages.{AreCovered, covers, stamp_at}
use Rattle.stamp_lanes.specs.Plain.{is_by_kernel, is_by_thread}
use Rattle.stamp_renumber.specs.Threads.{pages_of, frames_of}
use Rattle.shadow_core.specs.State.{State, table_of_state}
use Rattle.shadow_core.proofs.Accessed.{own_room}
use Rattle.shadow_core.proofs.PartReads.{count_few}
use Rattle.shadow_core.proofs.Profiled.{advance_here, alive_here, lives_here, on_err}
use Rattle.shadow_core.proofs.ReadEvents.{found_fits, found_lives, may_read_there, read_whole}
use Rattle.shadow_core.proofs.Reading.{lives_changed, frames_changed}
use Rattle.shadow_core.proofs.SamePages.{calls_alike, changed_alike, threads_alike}
use Rattle.shadow_core.specs.Private.Reading.{IsReadWithin}
use Rattle.shadow_core.proofs.Costs.{within_alone, within_before, within_same}
use Rattle.shadow_core.proofs.Settled.{whole_as_before, whole_still}
use Rattle.shadow_core.proofs.profiler.Profiler.read_anew.Goals as goal

pub cover_own-requires-clause-lives : goal.cover_own-requires-clause-lives
cover_own-requires-clause-lives g c =
    let a = alive_here g.S.Stamp.MAX (Read c.args.tid c.args.first c.args.count) c.args.tid _ _ c.self.view_is c.requires c.requires.formed.0.0.0 in
    lives_here _ c.args.tid a

pub returns-in_err-cover_own-clause-refused : goal.returns-in_err-cover_own-clause-refused
returns-in_err-cover_own-clause-refused g c =
    let a = alive_here g.S.Stamp.MAX (Read c.args.tid c.args.first c.args.count) c.args.tid _ _ c.self.view_is c.requires c.requires.formed.0.0.0 in
    on_err c.from_residual.result
    (own_room _ c.args.tid a.was c.cover_own.new.threads a.has c.in_err-cover_own.ensures.changed c.in_err-cover_own.ensures.stamps
    ∙ ap table_of_state c.self.view_is)

pub from_number-now-requires : goal.from_number-now-requires
from_number-now-requires g c = (advance_here g.S.Stamp.MAX (Read c.args.tid c.args.first c.args.count) _ _ c.self.view_is c.requires).within

pub read-found-requires-clause-lives : goal.read-found-requires-clause-lives
read-found-requires-clause-lives g c =
    (may_read_there g.S.Stamp.MAX c.args.tid c.args.first c.args.count _ _ c.cover_own.new.threads c.self.view_is c.requires c.in_ok-cover_own.ensures.changed c.in_ok-cover_own.ensures.stamps).lives

pub read-found-requires-clause-depth : goal.read-found-requires-clause-depth
read-found-requires-clause-depth g c =
    (may_read_there g.S.Stamp.MAX c.args.tid c.args.first c.args.count _ _ c.cover_own.new.threads c.self.view_is c.requires c.in_ok-cover_own.ensures.changed c.in_ok-cover_own.ensures.stamps).depth

pub read-found-requires-clause-starts : goal.read-found-requires-clause-starts
read-found-requires-clause-starts g c =
    (may_read_there g.S.Stamp.MAX c.args.tid c.args.first c.args.count _ _ c.cover_own.new.threads c.self.view_is c.requires c.in_ok-cover_own.ensures.changed c.in_ok-cover_own.ensures.stamps).starts

pub read-found-requires-clause-sums : goal.read-found-requires-clause-sums
read-found-requires-clause-sums g c =
    (may_read_there g.S.Stamp.MAX c.args.tid c.args.first c.args.count _ _ c.cover_own.new.threads c.self.view_is c.requires c.in_ok-cover_own.ensures.changed c.in_ok-cover_own.ensures.stamps).sums

pub add_found-requires-clause-lives : goal.add_found-requires-clause-lives
add_found-requires-clause-lives g c =
    found_lives g.S.Stamp.MAX c.args.tid c.args.first c.args.count _ _ c.cover_own.new.threads c.self.view_is c.requires c.in_ok-cover_own.ensures.changed c.in_ok-cover_own.ensures.stamps
    c.read-found.new.threads c.read-found.result.thread c.read-found.result.kernel _ c.read-found.ensures.read

pub add_found-requires-clause-thread : goal.add_found-requires-clause-thread
add_found-requires-clause-thread g c =
    let own = stamp_at (pages_of c.cover_own.new.threads.threads c.args.tid) in
    let write = stamp_at c.self.inside.writes.pages in
    let marks = stamp_at c.self.inside.marks.pages in
    let few : c.read-found.result.thread ≤ c.args.count = omega (arith, c.read-found.ensures.thread, count_few is_by_thread own write marks c.args.first c.args.count) in
    let few' : c.read-found.result.kernel ≤ c.args.count = omega (arith, c.read-found.ensures.kernel, count_few is_by_kernel own write marks c.args.first c.args.count) in
    (found_fits g.S.Stamp.MAX c.args.tid c.args.first c.args.count _ _ c.cover_own.new.threads c.self.view_is c.requires c.in_ok-cover_own.ensures.changed c.in_ok-cover_own.ensures.stamps
    c.read-found.new.threads c.read-found.result.thread c.read-found.result.kernel _ c.read-found.ensures.read few few').0

pub add_found-requires-clause-kernel : goal.add_found-requires-clause-kernel
add_found-requires-clause-kernel g c =
    let own = stamp_at (pages_of c.cover_own.new.threads.threads c.args.tid) in
    let write = stamp_at c.self.inside.writes.pages in
    let marks = stamp_at c.self.inside.marks.pages in
    let few : c.read-found.result.thread ≤ c.args.count = omega (arith, c.read-found.ensures.thread, count_few is_by_thread own write marks c.args.first c.args.count) in
    let few' : c.read-found.result.kernel ≤ c.args.count = omega (arith, c.read-found.ensures.kernel, count_few is_by_kernel own write marks c.args.first c.args.count) in
    (found_fits g.S.Stamp.MAX c.args.tid c.args.first c.args.count _ _ c.cover_own.new.threads c.self.view_is c.requires c.in_ok-cover_own.ensures.changed c.in_ok-cover_own.ensures.stamps
    c.read-found.new.threads c.read-found.result.thread c.read-found.result.kernel _ c.read-found.ensures.read few few').1

pub returns-clause-table : goal.returns-clause-table
returns-clause-table g c =
    let number : g.S.Stamp.number_of c.from_number-now.result ≡ c.self.inside.counter =
    ap g.S.Stamp.number_of c.from_number-now.ensures
    ∙ g.met.S.Stamp.number_back c.self.inside.counter (advance_here g.S.Stamp.MAX (Read c.args.tid c.args.first c.args.count) _ _ c.self.view_is c.requires).within in
    read_whole g.S.Stamp.MAX c.args.tid c.args.first c.args.count _ _ c.cover_own.new.threads c.self.view_is c.requires c.in_ok-cover_own.ensures.changed c.in_ok-cover_own.ensures.stamps
    c.read-found.new.threads c.read-found.result.thread c.read-found.result.kernel _ c.read-found.ensures.read
    c.add_found.new.self _ number c.read-found.ensures.thread c.read-found.ensures.kernel c.add_found.ensures (omega (arith, c.from.ensures))

pub returns-clause-pages : goal.returns-clause-pages
returns-clause-pages g c = λ own.
    let t = c.args.tid in
    let a = alive_here g.S.Stamp.MAX (Read t c.args.first c.args.count) t _ _ c.self.view_is c.requires c.requires.formed.0.0.0 in
    let lives = lives_here _ t a in
    let old = c.self.inside.threads in
    let mid = c.cover_own.new.threads in
    let roomy = c.in_ok-cover_own.ensures.changed in
    let kept = c.in_ok-cover_own.ensures.same (subst (λ (k : State). AreCovered (pages_of k.live.threads t) c.args.first c.args.count) (sym c.self.view_is) own) in
    let read = c.read-found.ensures.read in
    threads_alike c.self.view_is refl refl (λ u w.
    calls_alike c.read-found.new.threads c.add_found.new.self t _ (lives_changed mid c.read-found.new.threads t _ _ (lives_changed old mid t _ _ lives roomy) read.changed) c.add_found.ensures u w
    ∙ changed_alike mid c.read-found.new.threads t _ _ (lives_changed old mid t _ _ lives roomy) read.changed read.covered u w
    ∙ changed_alike old mid t _ _ lives roomy (λ v. ap (λ ps. covers ps v) kept) u w)

pub returns-in_err-cover_own-clause-cost : goal.returns-in_err-cover_own-clause-cost
returns-in_err-cover_own-clause-cost g c =
    let n = c.args.count in
    within_alone (4 + 24 * n) c.args.self.now.live c.args.tid c.args.first n c.args.steps.now c.count.new.self (omega (arith, c.count.ensures))

pub returns-clause-cost : goal.returns-clause-cost
returns-clause-cost g c =
    let t = c.args.tid in
    let first = c.args.first in
    let n = c.args.count in
    let before = c.args.steps.now in
    let after = c.read-found.new.steps in
    let old = c.self.inside.threads in
    let mid = c.cover_own.new.threads in
    let lives = lives_here _ t (alive_here g.S.Stamp.MAX (Read t first n) t _ _ c.self.view_is c.requires c.requires.formed.0.0.0) in
    let frames = frames_changed old mid t (frames_of old.threads t) (pages_of mid.threads t) lives c.in_ok-cover_own.ensures.changed in
    subst (λ (k : State). IsReadWithin (4 + 24 * n) k.live t first n before after) c.self.view_is
    (within_same (4 + 24 * n) old mid t first n before after frames c.in_ok-cover_own.ensures.stamps
    (within_before (4 + n) (23 * n) (4 + 24 * n) mid t first n before c.count.new.self after (omega (arith, c.count.ensures)) (omega arith) c.read-found.ensures.cost))

pub invariant_of-self : goal.invariant_of-self
invariant_of-self g c =
    let a = alive_here g.S.Stamp.MAX (Read c.args.tid c.args.first c.args.count) c.args.tid _ _ c.self.view_is c.requires c.requires.formed.0.0.0 in
    whole_as_before _ c.args.self.now _ c.self.view_is c.self.invariant
    (own_room _ c.args.tid a.was c.cover_own.new.threads a.has c.in_err-cover_own.ensures.changed c.in_err-cover_own.ensures.stamps ∙ ap table_of_state c.self.view_is) refl c.self.invariant.marked

pub invariant_of-self-2 : goal.invariant_of-self-2
invariant_of-self-2 g c =
    whole_still g.S.Stamp.MAX (Read c.args.tid c.args.first c.args.count) _ _ _ c.self.view_is c.requires c.self.invariant tt (returns-clause-table g c) refl c.self.invariant.marked

use Rattle.std.proofs.Common.{◌≡◌, ◌∙◌, ap, sym, ℕ, List, refl}
use Rattle.shadow_core.proofs.Started.{advance_came, first_above, lives_started, room_started, start_above, started_here}
use Rattle.shadow_core.proofs.Settled.{whole_anew, whole_as_before}
use Rattle.trace_model.specs.declared.event_kinds.Event.TheVariants.{Start}
use Rattle.stamp_renumber.specs.Threads.{Stamped}
use Rattle.shadow_core.specs.State.{table_of_state}
use Rattle.shadow_core.proofs.profiler.Profiler.start.Goals as goal

pub add_with_room-requires : goal.add_with_room-requires
add_with_room-requires g c = record { above = start_above g.S.Stamp.MAX c.args.tid c.args.entry _ _ c.self.view_is c.requires }

pub advance-requires-clause-within : goal.advance-requires-clause-within
advance-requires-clause-within g c =
    (advance_came g.S.Stamp.MAX c.args.tid c.args.entry _ _ c.add_with_room.new.threads c.self.view_is c.requires c.in_ok-add_with_room.ensures.ok).within

pub advance-requires-clause-room : goal.advance-requires-clause-room
advance-requires-clause-room g c =
    (advance_came g.S.Stamp.MAX c.args.tid c.args.entry _ _ c.add_with_room.new.threads c.self.view_is c.requires c.in_ok-add_with_room.ensures.ok).room

pub advance-requires-clause-rising : goal.advance-requires-clause-rising
advance-requires-clause-rising g c =
    (advance_came g.S.Stamp.MAX c.args.tid c.args.entry _ _ c.add_with_room.new.threads c.self.view_is c.requires c.in_ok-add_with_room.ensures.ok).rising

pub advance-requires-clause-few : goal.advance-requires-clause-few
advance-requires-clause-few g c =
    (advance_came g.S.Stamp.MAX c.args.tid c.args.entry _ _ c.add_with_room.new.threads c.self.view_is c.requires c.in_ok-add_with_room.ensures.ok).few

pub begin-requires-clause-lives : goal.begin-requires-clause-lives
begin-requires-clause-lives g c =
    lives_started g.S.Stamp.MAX c.args.tid c.args.entry _ _ c.add_with_room.new.threads _ c.self.view_is c.requires c.in_ok-add_with_room.ensures.ok c.advance.ensures.advanced

pub begin-requires-clause-above : goal.begin-requires-clause-above
begin-requires-clause-above g c =
    first_above g.S.Stamp.MAX c.args.tid c.args.entry (g.S.Stamp.number_of c.from_number-now.result) _ _ c.add_with_room.new.threads _ c.self.view_is c.requires
    c.in_ok-add_with_room.ensures.ok c.advance.ensures.advanced

pub begin-requires-clause-room : goal.begin-requires-clause-room
begin-requires-clause-room g c =
    room_started g.S.Stamp.MAX c.args.tid c.args.entry _ _ c.add_with_room.new.threads _ c.self.view_is c.requires c.in_ok-add_with_room.ensures.ok c.advance.ensures.advanced
    c.in_ok-add_with_room.ensures.room

pub returns-clause-table : goal.returns-clause-table
returns-clause-table g c =
    let number : g.S.Stamp.number_of c.from_number-now.result ≡ c.advance.new.counter =
    ap g.S.Stamp.number_of c.from_number-now.ensures ∙ g.met.S.Stamp.number_back c.advance.new.counter c.advance.ensures.advanced.within in
    let came = c.in_ok-add_with_room.ensures in
    let begun = c.begin.ensures in
    started_here g.S.Stamp.MAX c.args.tid c.args.entry _ _ c.add_with_room.new.threads _ c.self.view_is c.requires c.in_ok-add_with_room.ensures.ok c.advance.ensures.advanced
    (g.S.Stamp.number_of c.from_number-now.result) c.number-self-inside.result c.begin.new.self
    number c.number-self-inside.ensures.same came.list came.counts begun.threads begun.list begun.counts

pub invariant_of-self-2 : goal.invariant_of-self-2
invariant_of-self-2 g c =
    whole_anew g.S.Stamp.MAX (Start c.args.tid c.args.entry) c.args.self.now _ c.requires (returns-clause-table g c) refl (λ w h. c.self.invariant.marked w (sym (c.advance.ensures.advanced.covered w) ∙ h))

pub invariant_of-self : goal.invariant_of-self
invariant_of-self g c =
    whole_as_before _ c.args.self.now _ c.self.view_is c.self.invariant
    (ap (λ (xs : List (ℕ × Stamped)). table_of_state (record { counter = c.self.inside.counter; writes = c.self.inside.writes.pages; marks = c.self.inside.marks.pages; live = record c.add_with_room.new.threads { threads = xs }; last = c.self.inside.last; greatest = c.self.inside.greatest; weight = c.self.inside.weight; renumbered = c.self.inside.renumbered; settled = c.self.inside.settled })) c.in_err-add_with_room.ensures.err ∙ ap table_of_state c.self.view_is) refl c.self.invariant.marked

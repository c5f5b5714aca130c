use Rattle.std.proofs.Common.{◌∙◌, ap}
use Rattle.std.specs.Prelude.{is_some}
use Rattle.shadow_core.proofs.Profiled.{on_err, on_ok}
use Rattle.shadow_core.proofs.Started.{added_here, room_came, taken_out}
use Rattle.shadow_core.proofs.cover.add_with_room.Goals as goal

pub reserve-reserved-requires : goal.reserve-reserved-requires
reserve-reserved-requires g c =
    record { lives = ap is_some (added_here c.args.threads.now.threads c.add.new.self.threads c.args.tid _ c.requires.above c.in_ok-add.ensures.ok) }

pub returns-then-is_err-clause-err : goal.returns-then-is_err-clause-err
returns-then-is_err-clause-err g c =
    on_err c.reserve-reserved.result
    (taken_out c.args.threads.now.threads c.add.new.self.threads c.reserve-reserved.new.self.threads c.remove.new.self.threads c.args.tid c.requires.above
    c.in_ok-add.ensures.ok c.reserve-reserved.ensures.threads c.remove.ensures.threads)

pub returns-else-is_err-clause-ok : goal.returns-else-is_err-clause-ok
returns-else-is_err-clause-ok g c =
    on_ok c.reserve-reserved.result
    (room_came c.args.threads.now.threads c.add.new.self.threads c.reserve-reserved.new.self.threads c.args.tid c.requires.above c.in_ok-add.ensures.ok c.reserve-reserved.ensures.threads)

pub returns-else-is_err-clause-list : goal.returns-else-is_err-clause-list
returns-else-is_err-clause-list g c = on_ok c.reserve-reserved.result (c.reserve-reserved.ensures.list ∙ c.in_ok-add.ensures.list)

pub returns-else-is_err-clause-counts : goal.returns-else-is_err-clause-counts
returns-else-is_err-clause-counts g c = on_ok c.reserve-reserved.result (c.reserve-reserved.ensures.counts ∙ c.in_ok-add.ensures.counts)

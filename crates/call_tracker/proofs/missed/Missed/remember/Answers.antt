use Rattle.std.proofs.Common.{refl}
use Rattle.call_tracker.proofs.Searched.{missed-known}
use Rattle.call_tracker.proofs.missed.Missed.remember.Goals as goal

pub returns : goal.returns
returns c = λ backs are all missed.
    missed-known backs c.settle.new.self _ c.place_of.result c.args.target c.args.depth c.settle.ensures.settled all refl refl missed (c.settle.ensures.missed backs are)

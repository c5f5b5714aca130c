use Rattle.std.proofs.lemmas.Result.{IfOk-weaker}
use Rattle.trace_model.specs.Depth.{is_within}
use Rattle.trace_model.proofs.Feeding.{observes_after}
use Rattle.run_profile.specs.Profile.{IsProfileOf}
use Rattle.run_profile.proofs.profile.Profile.observe_both.Goals as goal

pub returns : goal.returns
returns g c =
    let old = c.args.self.now in
    let mid = c.observe_steps.new.self in
    let new = c.observe.new.self in
    let Stands = IsProfileOf g.S.Stamp.MAX g.K.Keeper.holds in
    record {
      observed =
          IfOk-weaker c.observe.result _ _
          (λ observed h. observes_after Stands (is_within g.S.Stamp.MAX) c.args.tid c.args.count c.args.e old mid c.in_ok-observe_steps.ensures.stepped new observed h)
          c.observe.ensures.observed;
    }

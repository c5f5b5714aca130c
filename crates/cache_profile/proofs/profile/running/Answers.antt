use Rattle.std.proofs.Common.{ap, sym, ◌∙◌}
use Rattle.std.specs.Prelude.{Option}
use Rattle.std.specs.Option.{option_map_or}
use Rattle.call_tracker.specs.declared.open_calls.OpenCall.{OpenCall}
use Rattle.cache_profile.proofs.Following.{innermost_is}
use Rattle.cache_profile.proofs.profile.running.Goals as goal

pub returns-in-Some : goal.returns-in-Some
returns-in-Some c = λ past stands.
    sym (ap (λ (o : Option OpenCall). option_map_or (λ (call : OpenCall). call.entry) o 0) c.in-Some.is)
    ∙ innermost_is past c.args.tid c.top.result (c.top.ensures.stands past stands)

pub returns-in-None : goal.returns-in-None
returns-in-None c = λ past stands.
    sym (ap (λ (o : Option OpenCall). option_map_or (λ (call : OpenCall). call.entry) o 0) c.in-None.is)
    ∙ innermost_is past c.args.tid c.top.result (c.top.ensures.stands past stands)

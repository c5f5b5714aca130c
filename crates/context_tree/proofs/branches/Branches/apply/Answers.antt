use Rattle.std.proofs.Common.{◌∙◌, ◌∷◌, sym, ap, subst}
use Rattle.trace_model.specs.declared.event_kinds.Event.{Event}
use Rattle.trace_model.specs.Profile.{ended}
use Rattle.context_tree.specs.Branches.{BranchesStandFor}
use Rattle.context_tree.specs.Private.Taking.{Takes}
use Rattle.context_tree.specs.Trees.{HasTooMany}
use Rattle.context_tree.proofs.branches.Branches.apply.Goals as goal

pub start-requires-clause-above : goal.start-requires-clause-above
start-requires-clause-above c = subst (λ (e : Event). Takes c.args.self.now e c.args.ends.now) c.in-Start.is c.requires.takes

pub call-requires-clause-lives : goal.call-requires-clause-lives
call-requires-clause-lives c = let takes = subst (λ (e : Event). Takes c.args.self.now e c.args.ends.now) c.in-Call.is c.requires.takes in takes.0

pub call-requires-clause-within : goal.call-requires-clause-within
call-requires-clause-within c = let takes = subst (λ (e : Event). Takes c.args.self.now e c.args.ends.now) c.in-Call.is c.requires.takes in takes.1

pub return_from-requires-clause-lives : goal.return_from-requires-clause-lives
return_from-requires-clause-lives c = let takes = subst (λ (e : Event). Takes c.args.self.now e c.args.ends.now) c.in-Ret.is c.requires.takes in takes.0

pub return_from-requires-clause-way : goal.return_from-requires-clause-way
return_from-requires-clause-way c = let takes = subst (λ (e : Event). Takes c.args.self.now e c.args.ends.now) c.in-Ret.is c.requires.takes in takes.1

pub end-requires-clause-way : goal.end-requires-clause-way
end-requires-clause-way c = subst (λ (e : Event). Takes c.args.self.now e c.args.ends.now) c.in-End.is c.requires.takes

pub returns-in-Call-clause-too_many : goal.returns-in-Call-clause-too_many
returns-in-Call-clause-too_many c = λ past stands told. subst (λ (e : Event). HasTooMany e past) (sym c.in-Call.is) (c.call.ensures.too_many past c.in-Call.back stands told)

pub returns-in-Call-clause-always_too_many : goal.returns-in-Call-clause-always_too_many
returns-in-Call-clause-always_too_many c = λ past stands many. c.call.ensures.always_too_many past c.in-Call.back stands (subst (λ (e : Event). HasTooMany e past) c.in-Call.is many)

pub returns-in_ok-return_from-in-Ret-clause-stands : goal.returns-in_ok-return_from-in-Ret-clause-stands
returns-in_ok-return_from-in-Ret-clause-stands c = λ past stands are.
    subst (λ (e : Event). BranchesStandFor c.return_from.new.self (e ∷ past)) (sym c.in-Ret.is)
    (c.in_ok-return_from-in-Ret.ensures.stands past c.in-Ret.target stands (are ∙ ap (λ (e : Event). ended e past) c.in-Ret.is))

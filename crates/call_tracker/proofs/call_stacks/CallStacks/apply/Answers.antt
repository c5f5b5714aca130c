use Rattle.std.proofs.Common.{◌≡◌, ◌∷◌, sym, subst}
use Rattle.std.proofs.Math.Logic.{∥∥₁_elim}
use Rattle.std.proofs.Props.{props}
use Rattle.trace_model.specs.declared.event_kinds.Event.{Event}
use Rattle.trace_model.specs.Depth.{count_ended}
use Rattle.trace_model.specs.Events.{thread_of}
use Rattle.trace_model.specs.WellFormed.{MayFollow}
use Rattle.call_tracker.specs.CallStacks.{StacksStandFor}
use Rattle.call_tracker.proofs.Followed.{above_all, ended-return, few_calls, few_pending, running_kept, stands-call, stands-end, stands-return, stands-start}
use Rattle.call_tracker.proofs.call_stacks.CallStacks.apply.Goals as goal

pub start-requires-clause-few : goal.start-requires-clause-few
start-requires-clause-few c = ∥∥₁_elim c.requires (hlevel props) (λ may. few_pending c.args.self.now may.past c.args.e may.now may.formed.1)

pub start-requires-clause-above : goal.start-requires-clause-above
start-requires-clause-above c = ∥∥₁_elim c.requires (hlevel props)
    (λ may. above_all c.args.self.now may.past c.in-Start.tid c.in-Start.entry (subst (λ (e : Event). MayFollow e may.past) c.in-Start.is may.formed.0) may.now)

pub call-requires-clause-few : goal.call-requires-clause-few
call-requires-clause-few c = ∥∥₁_elim c.requires (hlevel props) (λ may. few_pending c.args.self.now may.past c.args.e may.now may.formed.1)

pub call-requires-clause-lives : goal.call-requires-clause-lives
call-requires-clause-lives c = ∥∥₁_elim c.requires (hlevel props)
    (λ may. running_kept c.args.self.now may.past c.in-Call.tid (subst (λ (e : Event). MayFollow e may.past) c.in-Call.is may.formed.0) may.now)

pub return_to-requires-clause-few : goal.return_to-requires-clause-few
return_to-requires-clause-few c = ∥∥₁_elim c.requires (hlevel props) (λ may. few_calls c.args.self.now may.past c.in-Ret.tid may.now)

pub return_to-requires-clause-lives : goal.return_to-requires-clause-lives
return_to-requires-clause-lives c = ∥∥₁_elim c.requires (hlevel props)
    (λ may. running_kept c.args.self.now may.past c.in-Ret.tid (subst (λ (e : Event). MayFollow e may.past) c.in-Ret.is may.formed.0) may.now)

pub end-requires : goal.end-requires
end-requires c = record { few = ∥∥₁_elim c.requires (hlevel props) (λ may. few_calls c.args.self.now may.past c.in-End.tid may.now) }

pub returns-in_ok-start-in-Start-clause-stands : goal.returns-in_ok-start-in-Start-clause-stands
returns-in_ok-start-in-Start-clause-stands c = λ past stands.
    subst (λ (e : Event). StacksStandFor c.start.new.self (e ∷ past)) (sym c.in-Start.is)
    (stands-start c.args.self.now c.start.new.self past c.in-Start.tid c.in-Start.entry c.in_ok-start-in-Start.ensures.threads c.in_ok-start-in-Start.ensures.pending
    (∥∥₁_elim c.requires (hlevel props)
    (λ may. above_all c.args.self.now may.past c.in-Start.tid c.in-Start.entry (subst (λ (e : Event). MayFollow e may.past) c.in-Start.is may.formed.0) may.now)) stands)

pub returns-in_ok-call-in-Call-clause-stands : goal.returns-in_ok-call-in-Call-clause-stands
returns-in_ok-call-in-Call-clause-stands c = λ past stands.
    subst (λ (e : Event). StacksStandFor c.call.new.self (e ∷ past)) (sym c.in-Call.is)
    (stands-call c.args.self.now c.call.new.self past c.in-Call.tid c.in-Call.entry c.in-Call.back
    (∥∥₁_elim c.requires (hlevel props)
    (λ may. running_kept c.args.self.now may.past c.in-Call.tid (subst (λ (e : Event). MayFollow e may.past) c.in-Call.is may.formed.0) may.now))
    c.in_ok-call-in-Call.ensures.threads c.in_ok-call-in-Call.ensures.pending stands)

pub returns-in-Ret-clause-stands : goal.returns-in-Ret-clause-stands
returns-in-Ret-clause-stands c = λ past stands.
    subst (λ (e : Event). StacksStandFor c.return_to.new.self (e ∷ past)) (sym c.in-Ret.is)
    (stands-return c.args.self.now c.return_to.new.self past c.in-Ret.tid c.in-Ret.target c.return_to.result
    (∥∥₁_elim c.requires (hlevel props)
    (λ may. running_kept c.args.self.now may.past c.in-Ret.tid (subst (λ (e : Event). MayFollow e may.past) c.in-Ret.is may.formed.0) may.now))
    c.return_to.ensures.count c.return_to.ensures.threads c.return_to.ensures.pending stands)

pub returns-in-Ret-clause-ended : goal.returns-in-Ret-clause-ended
returns-in-Ret-clause-ended c = λ past stands.
    subst (λ (e : Event). c.return_to.result ≡ count_ended e past (thread_of e)) (sym c.in-Ret.is)
    (ended-return c.args.self.now past c.in-Ret.tid c.in-Ret.target c.return_to.result c.return_to.ensures.count stands)

pub returns-in-End-clause-stands : goal.returns-in-End-clause-stands
returns-in-End-clause-stands c = λ past stands.
    subst (λ (e : Event). StacksStandFor c.end.new.self (e ∷ past)) (sym c.in-End.is)
    (stands-end c.args.self.now c.end.new.self past c.in-End.tid c.end.result c.end.ensures.count c.end.ensures.threads c.end.ensures.pending stands)

use Rattle.std.proofs.Common.{inl, inr, ◌≡◌, List, [], ◌++◌, append_assoc, ap, refl, subst, sym, ◌∙◌}
use Rattle.std.proofs.lemmas.Result.{err_from_is_err_and}
use Rattle.trace_file.specs.declared.errors.TraceError.TheVariants.{Memory}
use Rattle.trace_file.specs.Reading.{HasReadBy, IsTraceRefused}
use Rattle.trace_file.proofs.ReadBytes.{stays}
use Rattle.trace_model.specs.declared.event_kinds.Event.{Event}
use Rattle.trace_model.specs.Cut.{cut, past_after}
use Rattle.trace_model.specs.Depth.{is_within}
use Rattle.trace_model.specs.Observing.{is_taken}
use Rattle.trace_model.specs.WellFormed.{IsWellFormed}
use Rattle.trace_model.proofs.Cut.{cut-fits, within_closed}
use Rattle.run_profile.specs.Points.{HoldsPoints}
use Rattle.run_profile.specs.Profile.{IsProfileOf}
use Rattle.stored_traces.specs.Replays.{Going, HasReplayed}
use Rattle.stored_traces.proofs.Cuts.{cut_stays, formed_read, not_err, not_refused}
use Rattle.stored_traces.proofs.replaying.TraceProfile.feed.Goals as goal

pub returns-in_err-feed-clause-err : goal.returns-in_err-feed-clause-err
returns-in_err-feed-clause-err g c = λ bytes more has.
    let was = subst (λ (k : Going). HasReplayed g.S.Stamp.MAX k bytes) (sym c.self.view_is) has in
    let p = err_from_is_err_and c.from_residual.result c.from_residual.ensures.1 in
    let piece = c.args.piece.now in
    let e = c.in_err-feed.field-0.0 in
    let fed = c.in_err-feed.ensures.fed in
    let past = past_after was.past fed.more in
    let refused = subst (λ refusal. HasReadBy refusal c.feed.new.self (bytes ++ piece) past) c.in_err-feed.ensures.answer (fed.read bytes was.past was.read) in
    rw (p.1, p.2) (past, subst (λ bs. IsTraceRefused bs past e) (append_assoc bytes piece more) (stays (bytes ++ piece) more past e refused.0 refused.1))

pub returns-in_err-feed-clause-memory : goal.returns-in_err-feed-clause-memory
returns-in_err-feed-clause-memory g c = λ bytes has going told.
    let was = subst (λ (k : Going). HasReplayed g.S.Stamp.MAX k bytes) (sym c.self.view_is) has in
    let p = err_from_is_err_and c.from_residual.result c.from_residual.ensures.1 in
    let none = ap (λ (k : Going). k.reader.refusal) c.self.view_is ∙ going in
    let memory : c.in_err-feed.field-0.0 ≡ Memory = cc (p.1, p.2, told) in
    let wants = c.in_err-feed.ensures.memory none memory in
    (past_after was.past wants.more, inr (wants.next bytes was.past was.read))

pub returns-in_err-feed-2-clause-memory : goal.returns-in_err-feed-2-clause-memory
returns-in_err-feed-2-clause-memory g c = λ bytes has going told.
    let was = subst (λ (k : Going). HasReplayed g.S.Stamp.MAX k bytes) (sym c.self.view_is) has in
    let fed = c.in_ok-feed.ensures.fed in
    (past_after was.past fed.more, inl (fed.read bytes was.past was.read, c.in_ok-feed.ensures.answer))

-- the events of the piece, and that they may come
pub feed-requires-then-self : goal.feed-requires-then-self
feed-requires-then-self g c =
    let was = subst (λ (k : Going). HasReplayed g.S.Stamp.MAX k c.requires.0) (sym c.self.view_is) c.requires.1 in
    let fed = c.in_ok-feed.ensures.fed in
    let fits = sym was.whole ∙ c.if-self.true in
    let events = c.list.ensures ∙ fed.appended ∙ ap (λ (es : List Event). es ++ fed.more) c.clear.ensures.list in
    let formed = formed_read c.feed.new.self (c.requires.0 ++ c.args.piece.now) (past_after was.past fed.more) c.in_ok-feed.ensures.answer (fed.read c.requires.0 was.past was.read) in
    record {
      past = was.past;
      now = subst (λ past. IsProfileOf g.S.Stamp.MAX HoldsPoints c.self.inside.profile past) (cut-fits (is_within g.S.Stamp.MAX) was.past fits) was.profile;
      fitting = fits;
      formed = subst (λ (es : List Event). IsWellFormed (past_after was.past es)) (sym events) formed;
    }

pub returns-in-Taken-clause-ok : goal.returns-in-Taken-clause-ok
returns-in-Taken-clause-ok g c = λ bytes has.
    let was = subst (λ (k : Going). HasReplayed g.S.Stamp.MAX k bytes) (sym c.self.view_is) has in
    let fed = c.in_ok-feed.ensures.fed in
    let fits = sym was.whole ∙ c.if-self.true in
    let now = subst (λ past. IsProfileOf g.S.Stamp.MAX HoldsPoints c.self.inside.profile past) (cut-fits (is_within g.S.Stamp.MAX) was.past fits) was.profile in
    let events = c.list.ensures ∙ fed.appended ∙ ap (λ (es : List Event). es ++ fed.more) c.clear.ensures.list in
    let taken = subst (λ (es : List Event). IsProfileOf g.S.Stamp.MAX HoldsPoints c.feed-then-self.new.observer (cut (is_within g.S.Stamp.MAX) (past_after was.past es)) × (is_within g.S.Stamp.MAX (past_after was.past es) ≡ is_taken c.in_ok-feed-2.field-0)) events
    (c.in_ok-feed-2.ensures.observed was.past now fits) in
    record {
      past = past_after was.past fed.more;
      read = fed.read bytes was.past was.read;
      profile = taken.0;
      whole = c.if-self.true ∙ sym (ap is_taken c.in-Taken.is) ∙ sym taken.1;
    }

pub returns-in-Refused-clause-ok : goal.returns-in-Refused-clause-ok
returns-in-Refused-clause-ok g c = λ bytes has.
    let was = subst (λ (k : Going). HasReplayed g.S.Stamp.MAX k bytes) (sym c.self.view_is) has in
    let fed = c.in_ok-feed.ensures.fed in
    let fits = sym was.whole ∙ c.if-self.true in
    let now = subst (λ past. IsProfileOf g.S.Stamp.MAX HoldsPoints c.self.inside.profile past) (cut-fits (is_within g.S.Stamp.MAX) was.past fits) was.profile in
    let events = c.list.ensures ∙ fed.appended ∙ ap (λ (es : List Event). es ++ fed.more) c.clear.ensures.list in
    let taken = subst (λ (es : List Event). IsProfileOf g.S.Stamp.MAX HoldsPoints c.feed-then-self.new.observer (cut (is_within g.S.Stamp.MAX) (past_after was.past es)) × (is_within g.S.Stamp.MAX (past_after was.past es) ≡ is_taken c.in_ok-feed-2.field-0)) events
    (c.in_ok-feed-2.ensures.observed was.past now fits) in
    record {
      past = past_after was.past fed.more;
      read = fed.read bytes was.past was.read;
      profile = taken.0;
      whole = sym (ap is_taken c.in-Refused.is) ∙ sym taken.1;
    }

pub returns-else-self-clause-ok : goal.returns-else-self-clause-ok
returns-else-self-clause-ok g c = λ bytes has.
    let was = subst (λ (k : Going). HasReplayed g.S.Stamp.MAX k bytes) (sym c.self.view_is) has in
    let fed = c.in_ok-feed.ensures.fed in
    let stays = cut_stays (is_within g.S.Stamp.MAX) (within_closed g.S.Stamp.MAX) was.past fed.more (sym was.whole ∙ c.if-self.false) in
    record {
      past = past_after was.past fed.more;
      read = fed.read bytes was.past was.read;
      profile = subst (λ past. IsProfileOf g.S.Stamp.MAX HoldsPoints c.self.inside.profile past) (sym stays.0) was.profile;
      whole = c.if-self.false ∙ sym stays.1;
    }

pub returns-in_err-feed-2-clause-err : goal.returns-in_err-feed-2-clause-err
returns-in_err-feed-2-clause-err g c = λ bytes more has.
    let p = err_from_is_err_and c.from_residual-in_err-feed-2.result c.from_residual-in_err-feed-2.ensures.1 in
    rw (p.1, p.2) ([], inl refl)

pub returns-in_err-feed-2-clause-refused : goal.returns-in_err-feed-2-clause-refused
returns-in_err-feed-2-clause-refused g c = λ e is. absurd (not_refused _ c.in_ok-feed.ensures.answer e is)

pub returns-in-Taken-clause-refused : goal.returns-in-Taken-clause-refused
returns-in-Taken-clause-refused g c = λ e is. absurd (not_refused _ c.in_ok-feed.ensures.answer e is)

pub returns-in-Refused-clause-refused : goal.returns-in-Refused-clause-refused
returns-in-Refused-clause-refused g c = λ e is. absurd (not_refused _ c.in_ok-feed.ensures.answer e is)

pub returns-else-self-clause-refused : goal.returns-else-self-clause-refused
returns-else-self-clause-refused g c = λ e is. absurd (not_refused _ c.in_ok-feed.ensures.answer e is)

pub returns-in-Taken-clause-err : goal.returns-in-Taken-clause-err
returns-in-Taken-clause-err g c = λ bytes more has. tt

pub returns-in-Refused-clause-err : goal.returns-in-Refused-clause-err
returns-in-Refused-clause-err g c = λ bytes more has. tt

pub returns-else-self-clause-err : goal.returns-else-self-clause-err
returns-else-self-clause-err g c = λ bytes more has. tt

pub returns-in-Taken-clause-memory : goal.returns-in-Taken-clause-memory
returns-in-Taken-clause-memory g c = λ bytes has going told. absurd (not_err _ told)

pub returns-in-Refused-clause-memory : goal.returns-in-Refused-clause-memory
returns-in-Refused-clause-memory g c = λ bytes has going told. absurd (not_err _ told)

pub returns-else-self-clause-memory : goal.returns-else-self-clause-memory
returns-else-self-clause-memory g c = λ bytes has going told. absurd (not_err _ told)

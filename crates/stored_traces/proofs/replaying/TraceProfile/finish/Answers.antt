use Rattle.std.proofs.Common.{◌∙◌, [], ap, inl, refl, subst, sym}
use Rattle.std.proofs.lemmas.Result.{err_from_is_err_and}
use Rattle.trace_model.specs.Cut.{cut}
use Rattle.trace_model.specs.Depth.{is_within}
use Rattle.stored_traces.specs.Replays.{Going, HasReplayed}
use Rattle.stored_traces.proofs.Cuts.{cut_formed}
use Rattle.stored_traces.proofs.replaying.TraceProfile.finish.Goals as goal

pub returns-in_err-names-clause-replays : goal.returns-in_err-names-clause-replays
returns-in_err-names-clause-replays g c = λ bytes has.
    let was = subst (λ (k : Going). HasReplayed g.S.Stamp.MAX k bytes) (sym c.self.view_is) has in
    let p = err_from_is_err_and c.from_residual.result c.from_residual.ensures.1 in
    rw (p.1, p.2) (was.past, c.in_err-names.ensures.err bytes was.past was.read)

pub into_kept-requires : goal.into_kept-requires
into_kept-requires g c =
    let was = subst (λ (k : Going). HasReplayed g.S.Stamp.MAX k c.requires.0) (sym c.self.view_is) c.requires.1 in
    record {
      past = cut (is_within g.S.Stamp.MAX) was.past;
      now = was.profile;
      formed = cut_formed (is_within g.S.Stamp.MAX) was.past (c.in_ok-names.ensures.ok c.requires.0 was.past was.read).told.formed;
    }

pub returns-clause-replays : goal.returns-clause-replays
returns-clause-replays g c = λ bytes has.
    let was = subst (λ (k : Going). HasReplayed g.S.Stamp.MAX k bytes) (sym c.self.view_is) has in
    record {
      past = was.past;
      trace = c.in_ok-names.ensures.ok bytes was.past was.read;
      totals =
          let past = cut (is_within g.S.Stamp.MAX) was.past in
          c.in_ok-totals.ensures g.S.Stamp.MAX past (c.in_ok-points.ensures.kept past was.profile) (c.in_ok-points.ensures.counts past was.profile);
      whole = was.whole;
    }

pub returns-in_err-names-clause-refused : goal.returns-in_err-names-clause-refused
returns-in_err-names-clause-refused g c = λ e is.
    let p = err_from_is_err_and c.from_residual.result c.from_residual.ensures.1 in
    let told = c.in_err-names.ensures.stays e (ap (λ (k : Going). k.reader.refusal) c.self.view_is ∙ is) in
    rw (p.1, p.2) (cc)

pub returns-in_err-points-clause-refused : goal.returns-in_err-points-clause-refused
returns-in_err-points-clause-refused g c = λ e is.
    let no = c.in_ok-names.ensures.stays e (ap (λ (k : Going). k.reader.refusal) c.self.view_is ∙ is) in
    absurd (cc)

pub returns-in_err-totals-clause-replays : goal.returns-in_err-totals-clause-replays
returns-in_err-totals-clause-replays g c = λ bytes has.
    let p = err_from_is_err_and c.from_residual-in_err-totals.result c.from_residual-in_err-totals.ensures.1 in
    rw (p.1, p.2) ([], inl refl)

pub returns-in_err-totals-clause-refused : goal.returns-in_err-totals-clause-refused
returns-in_err-totals-clause-refused g c = λ e is.
    let no = c.in_ok-names.ensures.stays e (ap (λ (k : Going). k.reader.refusal) c.self.view_is ∙ is) in
    absurd (cc)

pub returns-clause-refused : goal.returns-clause-refused
returns-clause-refused g c = λ e is.
    let no = c.in_ok-names.ensures.stays e (ap (λ (k : Going). k.reader.refusal) c.self.view_is ∙ is) in
    absurd (cc)

pub returns-in_err-points-clause-replays : goal.returns-in_err-points-clause-replays
returns-in_err-points-clause-replays g c = λ bytes has.
    let p = err_from_is_err_and c.from_residual-in_err-points.result c.from_residual-in_err-points.ensures.1 in
    rw (p.1, p.2) ([], inl refl)

pub returns-in_err-names-clause-short : goal.returns-in_err-names-clause-short
returns-in_err-names-clause-short g c = λ going none.
    let p = err_from_is_err_and c.from_residual.result c.from_residual.ensures.1 in
    let told = c.in_err-names.ensures.short (ap (λ (k : Going). k.reader.refusal) c.self.view_is ∙ going) (ap (λ (k : Going). k.reader.finish) c.self.view_is ∙ none) in
    rw (p.1, p.2) (cc)

pub returns-in_err-points-clause-short : goal.returns-in_err-points-clause-short
returns-in_err-points-clause-short g c = λ going none.
    let no = c.in_ok-names.ensures.short (ap (λ (k : Going). k.reader.refusal) c.self.view_is ∙ going) (ap (λ (k : Going). k.reader.finish) c.self.view_is ∙ none) in
    absurd (cc)

pub returns-in_err-totals-clause-short : goal.returns-in_err-totals-clause-short
returns-in_err-totals-clause-short g c = λ going none.
    let no = c.in_ok-names.ensures.short (ap (λ (k : Going). k.reader.refusal) c.self.view_is ∙ going) (ap (λ (k : Going). k.reader.finish) c.self.view_is ∙ none) in
    absurd (cc)

pub returns-clause-short : goal.returns-clause-short
returns-clause-short g c = λ going none.
    let no = c.in_ok-names.ensures.short (ap (λ (k : Going). k.reader.refusal) c.self.view_is ∙ going) (ap (λ (k : Going). k.reader.finish) c.self.view_is ∙ none) in
    absurd (cc)

use Rattle.std.proofs.Common.{◌++◌, ◌∷◌, [], ◌∙◌, ap, sym, take}
use Rattle.std.proofs.lemmas.List.{take_more}
use Rattle.profile_report.specs.ReportText.{routine_text}
use Rattle.guest_words.proofs.Pieces.{one_more}
use Rattle.profile_report.proofs.writer.push_routines.Goals as goal

pub loop-routine-preserved : goal.loop-routine-preserved
loop-routine-preserved c =
    let routines = c.args.routines.now in
    let i = c.loop-routine.routine-index in
    let item = c.routine-item.result in
    one_more routine_text (take i routines) _ item c.args.text.now.items c.loop-routine.text.items c.push_routine.new.text.items
    (take_more routines i item c.loop-routine-test.true ∙ ap (λ v. take i routines ++ v ∷ []) (sym c.routine-item.is)) c.loop-routine.invariant c.in_ok-push_routine.ensures

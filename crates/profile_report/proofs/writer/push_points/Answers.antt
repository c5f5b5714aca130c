use Rattle.std.proofs.lemmas.List.{take_more}
use Rattle.std.proofs.lemmas.Result.{IfOk-at_ok}
use Rattle.profile_report.specs.LineForms.{ended, point_line}
use Rattle.guest_words.proofs.Pieces.{one_more}
use Rattle.profile_report.proofs.Texts.{passed}
use Rattle.profile_report.proofs.writer.push_points.Goals as goal

pub loop-point-preserved : goal.loop-point-preserved
loop-point-preserved c =
    one_more (λ p. ended (point_line p)) _ _ _ c.args.text.now.items c.loop-point.text.items c.or_cut_back.new.text.items
    (take_more c.args.points.now c.loop-point.point-index _ c.loop-point-test.true) c.loop-point.invariant
    (IfOk-at_ok _ c.in_ok-or_cut_back.was (passed _ _ _ c.push_point_line.new.text.items c.or_cut_back.new.text.items c.or_cut_back.ensures.same c.or_cut_back.ensures.ok c.push_point_line.ensures.ok))

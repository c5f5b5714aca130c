use Rattle.std.proofs.Common.{◌≡◌, ◌∙◌, ◌++◌, ℕ, List, ap, subst, sym}
use Rattle.std.specs.Prelude.{OnOk}
use Rattle.std.specs.List.{flat_map}
use Rattle.cost_points.specs.declared.point.Point.{Point}
use Rattle.profile_report.specs.LineForms.{ended, point_line}
use Rattle.context_tree.specs.Contexts.{contexts}
use Rattle.context_tree.specs.Numbers.{numbered}
use Rattle.context_tree.specs.Trees.{IsShown}
use Rattle.guest_words.proofs.Texts.{keeps_further}
use Rattle.profile_report.proofs.Texts.{keeps_either}
use Rattle.profile_report.proofs.ToldContexts.{lines_of}
use Rattle.profile_report.proofs.context_writer.push_context.Goals as goal

pub returns-clause-ok : goal.returns-clause-ok
returns-clause-ok c = λ past stands.
    let context = numbered (contexts past) c.args.n in
    let shown = subst (λ (ps : List Point). IsShown past context c.in_ok-depth.depth c.in_ok-depth.entry ps) (sym c.deref.ensures.value) (c.in_ok-depth.ensures past stands) in
    subst (λ (us : List ℕ). OnOk c.push_points.result (c.push_points.new.text.items ≡ us))
    (ap (λ (us : List ℕ). us ++ flat_map (λ p. ended (point_line p)) c.deref.result.now) c.in_ok-push_context_line.ensures.ok
    ∙ lines_of past context c.in_ok-depth.depth c.in_ok-depth.entry c.deref.result.now shown c.args.text.now.items)
    c.push_points.ensures.ok

pub returns-clause-kept : goal.returns-clause-kept
returns-clause-kept c =
    keeps_further _ _ _ c.in_ok-push_context_line.ensures.kept
    (keeps_either c.push_points.result _ c.push_points.new.text.items (flat_map (λ p. ended (point_line p)) c.deref.result.now) c.push_points.ensures.ok c.push_points.ensures.err)

use Rattle.std.proofs.Common.{◌≡◌, ◌∙◌, true, refl, sym, ap, subst}
use Rattle.std.specs.Prelude.{is_some}
use Rattle.guest_words.specs.ByThread.{value_of}
use Rattle.context_tree.specs.Contexts.{contexts}
use Rattle.context_tree.specs.Branches.{KeptBranches, BranchesStandFor, current_of}
use Rattle.context_tree.proofs.Following.{stands-call}
use Rattle.context_tree.proofs.branches.Branches.call.Goals as goal

pub returns-clause-stands : goal.returns-clause-stands
returns-clause-stands c = λ past back stands.
    let s = subst (λ (k : KeptBranches). BranchesStandFor k past) (sym c.self.view_is) stands in
    let lives = subst (λ (k : KeptBranches). is_some (value_of k.threads c.args.tid) ≡ true) (sym c.self.view_is) c.requires.lives in
    stands-call _ _ past c.args.tid c.args.entry back c.current-above.result c.in_ok-number.number (c.current-above.ensures ∙ ap (λ (k : KeptBranches). current_of k c.args.tid) (sym c.self.view_is)) lives refl s (record {
      linked = c.in_ok-number.ensures.linked;
      places = c.in_ok-number.ensures.stands (contexts past) s.contexts_are;
      few = c.in_ok-number.ensures.few;
      points = c.in_ok-number.ensures.points (contexts past) s.contexts_are;
      number = c.in_ok-number.ensures.number (contexts past) s.contexts_are;
    })

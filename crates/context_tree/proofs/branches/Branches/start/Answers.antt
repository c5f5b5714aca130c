use Rattle.std.proofs.Common.{◌∙◌, ◌<◌, ◌++◌, ◌∷◌, [], ℕ, List, All, sym, ap, subst}
use Rattle.guest_words.specs.ByThread.{numbers}
use Rattle.context_tree.specs.Contexts.{contexts}
use Rattle.context_tree.specs.Numbers.{IsBeyond}
use Rattle.context_tree.specs.Branches.{KeptBranches, BranchesStandFor}
use Rattle.std.proofs.lemmas.Bool.{true≢false}
use Rattle.context_tree.proofs.Following.{ok_of, own-start, stands-start}
use Rattle.context_tree.proofs.branches.Branches.start.Goals as goal

pub returns-then-is_beyond-clause-too_many : goal.returns-then-is_beyond-clause-too_many
returns-then-is_beyond-clause-too_many c = λ past stands told.
    let s = subst (λ (k : KeptBranches). BranchesStandFor k past) (sym c.self.view_is) stands in
    let above = subst (λ (k : KeptBranches). All (λ n. n < c.args.tid) (numbers k.threads)) (sym c.self.view_is) c.requires.above in
    subst (IsBeyond (contexts past)) (sym (own-start _ past c.args.tid c.args.entry above s)) (c.is_beyond.ensures.yes (contexts past) s.contexts_are c.if-is_beyond.true)

pub returns-in_err-reserve-clause-always_too_many : goal.returns-in_err-reserve-clause-always_too_many
returns-in_err-reserve-clause-always_too_many c = λ past stands beyond.
    let s = subst (λ (k : KeptBranches). BranchesStandFor k past) (sym c.self.view_is) stands in
    let above = subst (λ (k : KeptBranches). All (λ n. n < c.args.tid) (numbers k.threads)) (sym c.self.view_is) c.requires.above in
    let yes = c.is_beyond.ensures.no (contexts past) s.contexts_are (subst (IsBeyond (contexts past)) (own-start _ past c.args.tid c.args.entry above s) beyond) in
    let no = c.if-is_beyond.false in
    absurd (true≢false (sym yes ∙ no))

pub returns-in_err-number-clause-always_too_many : goal.returns-in_err-number-clause-always_too_many
returns-in_err-number-clause-always_too_many c = λ past stands beyond.
    let s = subst (λ (k : KeptBranches). BranchesStandFor k past) (sym c.self.view_is) stands in
    let above = subst (λ (k : KeptBranches). All (λ n. n < c.args.tid) (numbers k.threads)) (sym c.self.view_is) c.requires.above in
    let yes = c.is_beyond.ensures.no (contexts past) s.contexts_are (subst (IsBeyond (contexts past)) (own-start _ past c.args.tid c.args.entry above s) beyond) in
    let no = c.if-is_beyond.false in
    absurd (true≢false (sym yes ∙ no))

pub returns-clause-always_too_many : goal.returns-clause-always_too_many
returns-clause-always_too_many c = λ past stands beyond.
    let s = subst (λ (k : KeptBranches). BranchesStandFor k past) (sym c.self.view_is) stands in
    let above = subst (λ (k : KeptBranches). All (λ n. n < c.args.tid) (numbers k.threads)) (sym c.self.view_is) c.requires.above in
    let yes = c.is_beyond.ensures.no (contexts past) s.contexts_are (subst (IsBeyond (contexts past)) (own-start _ past c.args.tid c.args.entry above s) beyond) in
    let no = c.if-is_beyond.false in
    absurd (true≢false (sym yes ∙ no))

pub returns-clause-stands : goal.returns-clause-stands
returns-clause-stands c = λ past stands.
    let s = subst (λ (k : KeptBranches). BranchesStandFor k past) (sym c.self.view_is) stands in
    let above = subst (λ (k : KeptBranches). All (λ n. n < c.args.tid) (numbers k.threads)) (sym c.self.view_is) c.requires.above in
    stands-start _ _ past c.args.tid c.args.entry c.in_ok-number.number above s
    (ok_of c.insert.result _ (c.insert.ensures.room c.in_ok-reserve.ensures.room) c.insert.ensures.ok ∙ ap (λ (xs : List (ℕ × ℕ)). xs ++ (c.args.tid, c.in_ok-number.number) ∷ []) c.in_ok-reserve.ensures.list) (record {
      linked = c.in_ok-number.ensures.linked;
      places = c.in_ok-number.ensures.stands (contexts past) s.contexts_are;
      few = c.in_ok-number.ensures.few;
      points = c.in_ok-number.ensures.points (contexts past) s.contexts_are;
      number = c.in_ok-number.ensures.number (contexts past) s.contexts_are;
    })

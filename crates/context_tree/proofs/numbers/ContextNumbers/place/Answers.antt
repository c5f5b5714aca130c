use Rattle.std.proofs.Common.{◌≤◌, ℕ, List, length, ap, sym, ◌∙◌, subst}
use Rattle.std.specs.Option.{option_copied}
use Rattle.context_tree.specs.Numbers.{NumbersStandFor}
use Rattle.context_tree.proofs.Numbering.{above_is}
use Rattle.context_tree.proofs.numbers.ContextNumbers.place.Goals as goal

pub returns-clause-context : goal.returns-clause-context
returns-clause-context c = λ contexts stands.
    let s = subst (λ (ps : List (ℕ × ℕ)). NumbersStandFor ps contexts) (sym c.self.view_is) stands in
    let within : c.args.n ≤ length c.self.inside.places.keys = subst (λ (ps : List (ℕ × ℕ)). c.args.n ≤ length ps) (sym c.self.view_is) c.requires.within in
    (above_is c.self.inside.places.keys contexts c.args.n c.unwrap.result.now s c.requires.some within (sym (ap option_copied c.unwrap.ensures) ∙ c.get_index.ensures.key)).1

use Rattle.std.proofs.Common.{◌≡◌, ◌≤◌, ℕ, List, length, Bool, true, false, ap, sym, ◌∙◌, subst, arith, not, refl}
use Rattle.std.specs.List.{list_any}
use Rattle.context_tree.specs.Numbers.{NumbersStandFor, same_place}
use Rattle.context_tree.proofs.Numbering.{any_is}
use Rattle.context_tree.proofs.numbers.ContextNumbers.is_beyond.Goals as goal

turned : (b : Bool) → not b ≡ true → b ≡ false
turned false is = refl
turned true is = absurd (cc)

pub returns-then-len-ge-CONTEXTS-clause-yes : goal.returns-then-len-ge-CONTEXTS-clause-yes
returns-then-len-ge-CONTEXTS-clause-yes c = λ contexts stands is.
    let s = subst (λ (ps : List (ℕ × ℕ)). NumbersStandFor ps contexts) (sym c.self.view_is) stands in
    let inside : c.args.above ≤ length contexts = omega (arith, c.requires, stands.long) in
    let agree = any_is c.self.inside.places.keys contexts s c.args.above c.args.entry inside in
    let there : c.contains.result ≡ list_any (same_place (c.args.above, c.args.entry)) c.self.inside.places.keys = c.contains.ensures in
    record {
      full = omega (arith, c.if-len-ge-CONTEXTS.true, c.len.ensures.len, s.long, c.self.invariant);
      absent = agree ∙ sym there ∙ turned c.contains.result is;
    }

pub returns-then-len-ge-CONTEXTS-clause-no : goal.returns-then-len-ge-CONTEXTS-clause-no
returns-then-len-ge-CONTEXTS-clause-no c = λ contexts stands beyond.
    let s = subst (λ (ps : List (ℕ × ℕ)). NumbersStandFor ps contexts) (sym c.self.view_is) stands in
    let inside : c.args.above ≤ length contexts = omega (arith, c.requires, stands.long) in
    let agree = any_is c.self.inside.places.keys contexts s c.args.above c.args.entry inside in
    let there : c.contains.result ≡ list_any (same_place (c.args.above, c.args.entry)) c.self.inside.places.keys = c.contains.ensures in
    ap not (there ∙ sym agree ∙ beyond.absent)

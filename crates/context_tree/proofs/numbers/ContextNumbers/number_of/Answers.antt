use Rattle.std.proofs.Common.{rules, ◌≡◌, ◌≤◌, ◌<◌, ◌+◌, ℕ, List, ◌∷◌, ◌++◌, [], length, false, sym, ◌∙◌, subst, arith, refl}
use Rattle.std.specs.List.{list_any}
use Rattle.guest_words.specs.declared.limits.TheConstants.{CONTEXTS}
use Rattle.context_tree.specs.Contexts.{with_context}
use Rattle.context_tree.specs.Numbers.{IsNumberOf, NumbersStandFor, numbered, same_place}
use Rattle.context_tree.proofs.Numbering.{any_is, if_err_is, if_ok_is, number_with, on_err_is, on_ok_is, stands_with, still_few}
use Rattle.context_tree.proofs.numbers.ContextNumbers.number_of.Goals as goal
use Rattle.context_tree.proofs.numbers.ContextNumbers.number_of.Goals.{in-Ok, in-Err}
use Rattle.context_tree.proofs.numbers.ContextNumbers.number_of.Goals.{else-len-ge-CONTEXTS-via-then-len-ge-CONTEXTS+else-not-contains, else-len-ge-CONTEXTS-via-else-len-ge-CONTEXTS}

pub overflow_cast-result : goal.overflow_cast-result
overflow_cast-result c =
    let room : list_any (same_place (c.args.above, c.args.entry)) c.self.inside.places.keys ≡ false → length c.self.inside.places.keys < CONTEXTS =
    elim c.else-len-ge-CONTEXTS.branch [
      | else-len-ge-CONTEXTS-via-then-len-ge-CONTEXTS+else-not-contains v ↦ λ none.
          let there : v.contains.result ≡ list_any (same_place (c.args.above, c.args.entry)) c.self.inside.places.keys = v.contains.ensures in
          let yes = v.if-not-contains.false in
          absurd (cc)
      | else-len-ge-CONTEXTS-via-else-len-ge-CONTEXTS v ↦ λ none. omega (arith, v.if-len-ge-CONTEXTS.false, c.len.ensures.len)
    ] in
    let few : length c.insert_full.new.self.keys ≤ CONTEXTS =
    still_few c.self.inside.places.keys c.insert_full.new.self.keys (c.args.above, c.args.entry) CONTEXTS c.in-Ok.ensures.keys c.self.invariant room in
    omega (arith, c.in-Ok.ensures.within, few)

pub returns-clause-stands : goal.returns-clause-stands
returns-clause-stands c = λ contexts stands.
    let s = subst (λ (ps : List (ℕ × ℕ)). NumbersStandFor ps contexts) (sym c.self.view_is) stands in
    let inside : c.args.above ≤ length contexts = omega (arith, c.requires, stands.long) in
    elim c.match-insert_full.branch [
      | in-Ok w ↦
          on_ok_is c.match-insert_full.result _ _ w.result-is
          (stands_with c.self.inside.places.keys contexts s c.args.above c.args.entry inside c.insert_full.new.self.keys w.in-Ok.ensures.keys)
      | in-Err w ↦ on_err_is c.match-insert_full.result _ _ w.result-is
    ]

pub returns-clause-number : goal.returns-clause-number
returns-clause-number c = λ contexts stands.
    let s = subst (λ (ps : List (ℕ × ℕ)). NumbersStandFor ps contexts) (sym c.self.view_is) stands in
    let inside : c.args.above ≤ length contexts = omega (arith, c.requires, stands.long) in
    elim c.match-insert_full.branch [
      | in-Ok w ↦
          if_ok_is c.match-insert_full.result _ (λ n. IsNumberOf (with_context contexts (numbered contexts c.args.above ++ c.args.entry ∷ [])) n (numbered contexts c.args.above ++ c.args.entry ∷ [])) w.result-is
          (number_with c.self.inside.places.keys contexts s c.args.above c.args.entry inside w.in-Ok.index (w.in-Ok.index + 1) w.in-Ok.ensures.index refl)
      | in-Err w ↦ if_err_is c.match-insert_full.result _ (λ n. IsNumberOf (with_context contexts (numbered contexts c.args.above ++ c.args.entry ∷ [])) n (numbered contexts c.args.above ++ c.args.entry ∷ [])) w.result-is
    ]

pub returns-clause-always_too_many : goal.returns-clause-always_too_many
returns-clause-always_too_many c = λ contexts stands beyond.
    let s = subst (λ (ps : List (ℕ × ℕ)). NumbersStandFor ps contexts) (sym c.self.view_is) stands in
    let inside : c.args.above ≤ length contexts = omega (arith, c.requires, stands.long) in
    let agree = any_is c.self.inside.places.keys contexts s c.args.above c.args.entry inside in
    elim c.else-len-ge-CONTEXTS.branch [
      | else-len-ge-CONTEXTS-via-then-len-ge-CONTEXTS+else-not-contains v ↦
          let there : v.contains.result ≡ list_any (same_place (c.args.above, c.args.entry)) c.self.inside.places.keys = v.contains.ensures in
          let yes = v.if-not-contains.false in
          let no = beyond.absent in
          absurd (cc)
      | else-len-ge-CONTEXTS-via-else-len-ge-CONTEXTS v ↦ absurd (omega (arith, v.if-len-ge-CONTEXTS.false, c.len.ensures.len, s.long, beyond.full))
    ]

pub returns-then-not-contains-clause-too_many : goal.returns-then-not-contains-clause-too_many
returns-then-not-contains-clause-too_many c = λ contexts stands is.
    let s = subst (λ (ps : List (ℕ × ℕ)). NumbersStandFor ps contexts) (sym c.self.view_is) stands in
    let inside : c.args.above ≤ length contexts = omega (arith, c.requires, stands.long) in
    let agree = any_is c.self.inside.places.keys contexts s c.args.above c.args.entry inside in
    let there : c.contains.result ≡ list_any (same_place (c.args.above, c.args.entry)) c.self.inside.places.keys = c.contains.ensures in
    let no : c.contains.result ≡ false = search rules in
    record {
      full = omega (arith, c.if-len-ge-CONTEXTS.true, c.len.ensures.len, s.long, c.self.invariant);
      absent = agree ∙ sym there ∙ no;
    }

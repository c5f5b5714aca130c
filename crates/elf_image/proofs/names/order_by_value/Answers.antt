use Rattle.std.proofs.Common.{◌≡◌, ℕ, not, ◌&&◌, eqb, sym, ◌∙◌, arith, rules}
use Rattle.std.specs.List.Sorted.{ties}
use Rattle.std.specs.Ordering.{is_lt, nat_cmp}
use Rattle.std.proofs.lemmas.Bool.Decides.{nat_tests}
use Rattle.std.proofs.lemmas.List.Elements.{filter_agree}
use Rattle.std.proofs.lemmas.List.Sorted.{IsNonDecreasingBy-from_sort_by_key, answers_always}
use Rattle.elf_image.specs.declared.names.Entry.{Entry}
use Rattle.elf_image.proofs.names.order_by_value.Goals as goal

-- neither value is below the other where they are the same
tied : (at : ℕ) (e : Entry) → ties (λ (x y : Entry). is_lt (nat_cmp x.value y.value)) (record { value = at; index = 0 }) e ≡ eqb e.value at
tied at e = numbers at e.value
  where
    numbers : (a b : ℕ) → (not (is_lt (nat_cmp a b)) && not (is_lt (nat_cmp b a))) ≡ eqb b a
    numbers a b = grind (arith, nat_tests)

pub returns-clause-rising : goal.returns-clause-rising
returns-clause-rising c = IsNonDecreasingBy-from_sort_by_key (λ (e : Entry). e.value) _ c.in_ok-sort_by_key.ensures.sorted (λ a r f called. search rules)

pub returns-clause-same : goal.returns-clause-same
returns-clause-same c = λ at.
    let kept = c.in_ok-sort_by_key.ensures.stable (λ (e : Entry). e.value) (answers_always _ _ _ (λ f a r g called. search rules)) (record { value = at; index = 0 }) in
    sym (filter_agree _ _ (tied at) _) ∙ (kept ∙ filter_agree _ _ (tied at) _)

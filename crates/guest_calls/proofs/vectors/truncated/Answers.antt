use Rattle.std.proofs.Common.{◌≤◌, List, ap, sym, subst, ◌∙◌}
use Rattle.std.proofs.lemmas.List.{with_items_is}
use Rattle.guest_kernel.specs.declared.parts.IoVec.{IoVec}
use Rattle.guest_kernel.specs.Parts.{total}
use Rattle.guest_calls.specs.Vectors.{carried}
use Rattle.guest_calls.proofs.PartLists.{total_carried}
use Rattle.guest_calls.proofs.vectors.truncated.Goals as goal

pub returns-clause-cut : goal.returns-clause-cut
returns-clause-cut c =
    with_items_is c.args.parts c.truncate_parts.new.parts (c.truncate_parts.auto.parts ∙ c.deref_mut.ensures.len)
    ∙ c.truncate_parts.ensures ∙ ap (λ (ps : List IoVec). carried c.args.most ps) c.deref_mut.ensures.value

pub returns-clause-few : goal.returns-clause-few
returns-clause-few c = subst (λ (ps : List IoVec). total ps ≤ c.args.most) (sym (returns-clause-cut c)) (total_carried c.args.most c.args.parts.items)

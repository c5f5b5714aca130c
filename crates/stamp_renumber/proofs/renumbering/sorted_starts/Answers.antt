use Rattle.std.proofs.Common.{◌∙◌, ℕ, List, map, ap, sym, subst}
use Rattle.std.specs.List.Sorted.{IsPermutation}
use Rattle.std.specs.Ordering.{is_lt}
use Rattle.std.proofs.lemmas.List.Sorted.{IsNonDecreasingBy-from_sort, IsPermutation-map}
use Rattle.stamp_renumber.proofs.renumbering.sorted_starts.Goals as goal

pub returns-clause-sorted : goal.returns-clause-sorted
returns-clause-sorted g c =
    IsNonDecreasingBy-from_sort g.S.Stamp.number_of c.sort_unstable.new.self.items (λ k d low high. ap is_lt (sym (g.met.S.Stamp.ordered _ _)) ∙ c.sort_unstable.ensures.sorted k d low high)

pub returns-clause-same : goal.returns-clause-same
returns-clause-same g c =
    subst (λ (xs : List ℕ). IsPermutation xs (map g.S.Stamp.number_of c.sort_unstable.new.self.items)) c.gather_starts.ensures.items
    (IsPermutation-map g.S.Stamp.number_of c.gather_starts.new.starts.items c.sort_unstable.new.self.items c.sort_unstable.ensures.permutation)

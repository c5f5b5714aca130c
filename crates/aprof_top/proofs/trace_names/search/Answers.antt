use Rattle.std.proofs.Common.{ℕ, List, rules}
use Rattle.std.proofs.lemmas.List.Sorted.{answers_always}
use Rattle.aprof_top.proofs.NameSearch.{searched}
use Rattle.aprof_top.proofs.trace_names.search.Goals as goal

pub returns : goal.returns
returns c =
    let facts = c.binary_search_by_key.ensures in
    let found = searched c.args.names.now c.requires c.args.entry _ facts.bound
    (facts.position (λ (s : ℕ × List ℕ). s.0) (answers_always _ _ _ (λ f a r g called. search rules))) in
    rw c.ok.ensures.value found

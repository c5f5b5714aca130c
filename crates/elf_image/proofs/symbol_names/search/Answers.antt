use Rattle.std.proofs.Common.{rules}
use Rattle.std.proofs.lemmas.List.Sorted.{answers_always}
use Rattle.elf_image.specs.declared.symbols.SymbolPlace.{SymbolPlace}
use Rattle.elf_image.proofs.Searched.{searched}
use Rattle.elf_image.proofs.symbol_names.search.Goals as goal

pub returns : goal.returns
returns c =
    let facts = c.binary_search_by_key.ensures in
    let found = searched c.args.places.now c.requires c.args.value _ facts.bound
    (facts.position (λ (s : SymbolPlace). s.value) (answers_always _ _ _ (λ f a r g called. search rules))) in
    rw c.ok.ensures.value found

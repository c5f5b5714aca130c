use Rattle.std.proofs.Common.{◌≡◌, ◌<◌, List, Some, get_or, length, map, ap, sym, subst, ◌∙◌, refl}
use Rattle.std.specs.List.{AllPairs}
use Rattle.std.proofs.lemmas.List.{get_or_read_under}
use Rattle.elf_image.specs.Image.{name_beside}
use Rattle.elf_image.specs.Private.Places.{placed}
use Rattle.elf_image.specs.Symbols.{Symbol}
use Rattle.elf_image.proofs.Placed.{named_by, no_place, unnamed, values_rise}
use Rattle.elf_image.proofs.symbol_names.SymbolNames.name_of.Goals as goal

pub search-requires : goal.search-requires
search-requires c =
    let strings = c.self.inside.strings.items in
    let items = c.self.inside.places.items in
    rw c.deref.ensures.value (values_rise strings items (subst (λ symbols. AllPairs (λ (s t : Symbol). s.value < t.value) symbols) (sym c.self.view_is) c.requires))

pub returns-in_default-clause-name : goal.returns-in_default-clause-name
returns-in_default-clause-name c =
    let strings = c.self.inside.strings.items in
    let items = c.self.inside.places.items in
    rw (← c.self.view_is) (unnamed strings items c.args.value (rw c.deref.ensures.value at c.in_default.ensures))

pub returns-in-Ok-clause-name : goal.returns-in-Ok-clause-name
returns-in-Ok-clause-name c =
    let strings = c.self.inside.strings.items in
    let items = c.self.inside.places.items in
    let here : c.index.result.now ≡ get_or items c.in-Some.index no_place =
    get_or_read_under items c.in-Some.index (length items) _ no_place c.index.ensures (rw c.deref.ensures.value at c.in-Some.ensures.0) refl in
    let name : c.in-Ok.name ≡ (placed strings c.index.result.now).name =
    c.in-Ok.ensures.ok ∙ c.name_of.ensures ∙ ap (λ bytes. (placed bytes c.index.result.now).name) c.deref-2.ensures.value in
    rw (← c.self.view_is) (ap Some name ∙ named_by strings items c.args.value c.in-Some.index c.index.result.now
    (rw c.deref.ensures.value at c.in-Some.ensures.0) (rw c.deref.ensures.value at c.in-Some.ensures.1) here)

-- the address has a name
pub returns-in-Err-Memory-clause-no_allocation : goal.returns-in-Err-Memory-clause-no_allocation
returns-in-Err-Memory-clause-no_allocation c = λ none.
    let strings = c.self.inside.strings.items in
    let items = c.self.inside.places.items in
    let here : c.index.result.now ≡ get_or items c.in-Some.index no_place =
    get_or_read_under items c.in-Some.index (length items) _ no_place c.index.ensures (rw c.deref.ensures.value at c.in-Some.ensures.0) refl in
    let named = named_by strings items c.args.value c.in-Some.index c.index.result.now
    (rw c.deref.ensures.value at c.in-Some.ensures.0) (rw c.deref.ensures.value at c.in-Some.ensures.1) here in
    let none_there = ap (λ (symbols : List Symbol). name_beside (map (λ (s : Symbol). (s.value, s.name)) symbols) c.args.value) c.self.view_is ∙ none in
    absurd (cc (named ∙ none_there))

use Rattle.std.proofs.Common.{◌≡◌, length, map, Option, None, ap, ◌∙◌}
use Rattle.std.specs.List.{All}
use Rattle.std.specs.Option.{option_map}
use Rattle.std.proofs.lemmas.Result.{err_from_is_err_and}
use Rattle.elf_image.specs.Symbols.{Symbol}
use Rattle.elf_image.specs.Image.{Executable, name_of}
use Rattle.elf_image.specs.Private.Layout.{IsLoadable}
use Rattle.elf_image.specs.Reading.{names_of}
use Rattle.elf_image.proofs.Executables.{filled_from, image_is, names_from}
use Rattle.elf_image.specs.Tests.{first_of, header_tests, layout_tests, segment_tests}
use Rattle.elf_image.proofs.FirstTests.{in_first, in_second, in_third, of_file}
use Rattle.elf_image.proofs.NameLists.{name_of-symbols, named}
use Rattle.elf_image.proofs.Sound.{loadable_from}
use Rattle.elf_image.proofs.Values.{values_fit}
use Rattle.elf_image.proofs.reader.read_image.Goals as goal

pub returns-in_err-header-clause-refused : goal.returns-in_err-header-clause-refused
returns-in_err-header-clause-refused c =
    let p = err_from_is_err_and c.from_residual.result c.from_residual.ensures.1 in
    rw (p.1, p.2) (λ _. of_file c.args.file.now ∙ in_first (first_of (header_tests c.args.file.now)) (first_of (segment_tests c.args.file.now)) (first_of (layout_tests c.args.file.now)) _ c.in_err-header.ensures.refused)

pub returns-in_err-headers-clause-refused : goal.returns-in_err-headers-clause-refused
returns-in_err-headers-clause-refused c =
    let p = err_from_is_err_and c.from_residual-in_err-headers.result c.from_residual-in_err-headers.ensures.1 in
    rw (p.1, p.2) (λ other. of_file c.args.file.now ∙ in_second _ _ _ _ c.in_ok-header.ensures.passed (c.in_err-headers.ensures.refused other))

pub returns-in_err-segments-clause-refused : goal.returns-in_err-segments-clause-refused
returns-in_err-segments-clause-refused c =
    let p = err_from_is_err_and c.from_residual-in_err-segments.result c.from_residual-in_err-segments.ensures.1 in
    rw (p.1, p.2) (λ other. of_file c.args.file.now ∙ in_third _ _ _ _ c.in_ok-header.ensures.passed c.in_ok-headers.ensures.passed (c.in_err-segments.ensures.refused other))

pub load-requires-clause-loadable : goal.load-requires-clause-loadable
load-requires-clause-loadable c =
    let all : All (IsLoadable (length c.args.file.now)) c.deref.result.now =
    rw (c.deref.ensures.value, c.in_ok-headers.ensures.occupied) (loadable_from c.args.file.now c.in_ok-headers.ensures.passed) in
    all

pub header_place-requires-clause-loadable : goal.header_place-requires-clause-loadable
header_place-requires-clause-loadable c =
    let all : All (IsLoadable (length c.args.file.now)) c.deref-2.result.now =
    rw (c.deref-2.ensures.value, c.in_ok-headers.ensures.occupied) (loadable_from c.args.file.now c.in_ok-headers.ensures.passed) in
    all

pub new-requires : goal.new-requires
new-requires c =
    filled_from c.args.file.now c.in_ok-header.header c.header_place.result c.in_ok-segments.pages c.in_ok-segments.segments.items c.in_ok-symbols.symbols
    c.in_ok-header.ensures.header c.in_ok-segments.ensures.segments c.in_ok-segments.ensures.pages
    c.in_ok-headers.ensures.passed c.in_ok-segments.ensures.passed c.header_place.ensures.range c.in_ok-header.ensures.count c.in_ok-symbols.ensures.rising

pub returns-clause-accepted : goal.returns-clause-accepted
returns-clause-accepted c = of_file c.args.file.now ∙ in_third _ _ _ None c.in_ok-header.ensures.passed c.in_ok-headers.ensures.passed c.in_ok-segments.ensures.passed

pub returns-clause-image : goal.returns-clause-image
returns-clause-image c =
    let file = c.args.file.now in
    let listed : map named c.in_ok-symbols.symbols ≡ names_of file =
    names_from file c.in_ok-symbols.symbols c.in_ok-symbols.ensures (values_fit file (λ i. (c.type_inv.file i).fits)) in
    c.new.ensures ∙ image_is file c.in_ok-header.header c.header_place.result c.in_ok-segments.segments.items (map named c.in_ok-symbols.symbols)
    c.in_ok-header.ensures.header c.header_place.ensures.value c.in_ok-segments.ensures.segments listed

pub returns-clause-names : goal.returns-clause-names
returns-clause-names c = λ at.
    let named_by = λ (o : Option Symbol). option_map (λ (s : Symbol). s.name) o in
    ap (λ (e : Executable). name_of e at) c.new.ensures ∙ (name_of-symbols c.in_ok-symbols.symbols at
    ∙ ap named_by (c.in_ok-symbols.ensures.found at))

use Rattle.std.proofs.Common.{◌≡◌, Some, length, ap, sym, ◌∙◌}
use Rattle.elf_image.specs.Symbols.{name_in}
use Rattle.elf_image.proofs.NameTexts.{name_there}
use Rattle.elf_image.proofs.Placed.{symbol_is}
use Rattle.elf_image.proofs.symbols.symbol_at.Goals as goal

pub returns-in-Some-clause-symbol : goal.returns-in-Some-clause-symbol
returns-in-Some-clause-symbol c =
    let is : name_in c.args.strings.now c.word_at-start.result ≡ Some c.in-Some.name = sym c.in_ok-name_in.ensures ∙ c.in-Some.is in
    let there = name_there c.args.strings.now c.word_at-start.result c.in-Some.name is in
    let size = ap length c.bytes.ensures.same in
    rw (size, there.0) (symbol_is c.args.file.now c.args.strings.now c.args.at c.word_at-value.result c.rank_of.result c.word_at-start.result c.half_at.result c.in-Some.name
    c.if-info-ne-STT_FUNC.false c.half_at.ensures c.if-half_at-eq-SHN_UNDEF.false c.word_at-value.ensures c.rank_of.ensures c.word_at-start.ensures is)

pub returns-in-Some-clause-named : goal.returns-in-Some-clause-named
returns-in-Some-clause-named c =
    let is : name_in c.args.strings.now c.word_at-start.result ≡ Some c.in-Some.name = sym c.in_ok-name_in.ensures ∙ c.in-Some.is in
    let there = name_there c.args.strings.now c.word_at-start.result c.in-Some.name is in
    let size = ap length c.bytes.ensures.same in
    record { within = rw size there.1; named = rw (size, there.0) there.2 }

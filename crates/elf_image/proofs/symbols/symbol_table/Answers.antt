use Rattle.std.proofs.Common.{◌≡◌, ◌<◌, true, eqb, Some, refl, ap, sym, ◌∙◌, arith}
use Rattle.std.proofs.lemmas.Bool.{eq-eqb}
use Rattle.elf_image.specs.declared.headers.FileHeader.{FileHeader}
use Rattle.elf_image.specs.declared.headers.SectionHeader.{SectionHeader}
use Rattle.elf_image.specs.Headers.{file_header, section_header}
use Rattle.elf_image.specs.Symbols.{has_sections}
use Rattle.elf_image.proofs.Tables.{found_no_table, found_table}
use Rattle.elf_image.proofs.symbols.symbol_table.Goals as goal

pub returns-then-section-eq-SHT_SYMTAB : goal.returns-then-section-eq-SHT_SYMTAB
returns-then-section-eq-SHT_SYMTAB c =
    let file = c.args.file.now in
    let i = c.loop-i.i in
    let there : has_sections file ≡ true = sym c.has_sections.ensures ∙ c.if-not-has_sections.false in
    let count : c.args.header.now.e_shnum ≡ (file_header file).e_shnum = ap (λ (h : FileHeader). h.e_shnum) c.requires in
    let inside : i < (file_header file).e_shnum = omega (arith, count, c.loop-i-test.true) in
    let it : eqb (section_header file i).sh_type 2 ≡ true = ap (λ (s : SectionHeader). eqb s.sh_type 2) (sym c.section_header-section.ensures) ∙ eq-eqb _ _ c.if-section-eq-SHT_SYMTAB.true in
    rw (there, found_table file i inside c.loop-i.invariant it) (ap Some c.section_header-section.ensures)

pub returns : goal.returns
returns c =
    let file = c.args.file.now in
    let there : has_sections file ≡ true = sym c.has_sections.ensures ∙ c.if-not-has_sections.false in
    let count : c.args.header.now.e_shnum ≡ (file_header file).e_shnum = ap (λ (h : FileHeader). h.e_shnum) c.requires in
    rw (there, found_no_table file (λ k inside. c.loop-i.invariant k (omega (arith, count, inside, c.loop-i-test.false)))) refl

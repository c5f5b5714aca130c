use Rattle.std.proofs.Common.{None, sym, ◌∙◌}
use Rattle.std.proofs.lemmas.Result.{err_from_is_err_and}
use Rattle.elf_image.specs.Tests.{first_of, kind_tests, table_tests}
use Rattle.elf_image.proofs.FirstTests.{in_first, in_second, in_third, of_header, passed_by, refused_by}
use Rattle.elf_image.proofs.header_checks.check_header.Goals as goal

pub returns-in_err-check_format-clause-refused : goal.returns-in_err-check_format-clause-refused
returns-in_err-check_format-clause-refused c =
    let p = err_from_is_err_and c.from_residual.result c.from_residual.ensures.1 in
    rw (p.1, p.2) (of_header c.args.file.now c.if-file-lt52.false
    ∙ in_first _ (first_of (kind_tests c.args.file.now)) (first_of (table_tests c.args.file.now)) _ (refused_by _ _ (sym c.check_format.ensures ∙ c.in_err-check_format.was)))

pub returns-in_err-check_kind-clause-refused : goal.returns-in_err-check_kind-clause-refused
returns-in_err-check_kind-clause-refused c =
    let p = err_from_is_err_and c.from_residual-in_err-check_kind.result c.from_residual-in_err-check_kind.ensures.1 in
    rw (p.1, p.2) (of_header c.args.file.now c.if-file-lt52.false
    ∙ in_second _ _ _ _ (passed_by _ (sym c.check_format.ensures ∙ c.in_ok-check_format.was))
    (refused_by _ _ (sym c.check_kind.ensures ∙ c.in_err-check_kind.was)))

pub returns-in_err-check_table-clause-refused : goal.returns-in_err-check_table-clause-refused
returns-in_err-check_table-clause-refused c =
    let p = err_from_is_err_and c.from_residual-in_err-check_table.result c.from_residual-in_err-check_table.ensures.1 in
    rw (p.1, p.2) (of_header c.args.file.now c.if-file-lt52.false
    ∙ in_third _ _ _ _ (passed_by _ (sym c.check_format.ensures ∙ c.in_ok-check_format.was))
    (passed_by _ (sym c.check_kind.ensures ∙ c.in_ok-check_kind.was))
    (refused_by _ _ (sym c.check_table.ensures ∙ c.in_err-check_table.was)))

pub returns-clause-passed : goal.returns-clause-passed
returns-clause-passed c =
    of_header c.args.file.now c.if-file-lt52.false
    ∙ in_third _ _ _ None (passed_by _ (sym c.check_format.ensures ∙ c.in_ok-check_format.was))
    (passed_by _ (sym c.check_kind.ensures ∙ c.in_ok-check_kind.was))
    (passed_by _ (sym c.check_table.ensures ∙ c.in_ok-check_table.was))

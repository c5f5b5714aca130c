use Rattle.std.proofs.Common.{◌≡◌, true, false, sym, ◌∙◌, map, subst, List, Some, None, string_bytes}
use Rattle.std.proofs.lemmas.Result.{IfErr-weaker, IfOk-weaker}
use Rattle.std.specs.List.{list_any}
use Rattle.clap.specs.Words.{Row, Text, found_of, rows_of}
use Rattle.clap.proofs.WalkLemmas.{list_any-map}
use Rattle.command_line.specs.Options.{AsksFor, has_zero}
use Rattle.command_line.proofs.Refusals.{rows_ask, untaken_is_refused, zero_is_refused}
use Rattle.command_line.proofs.commands.read_command.Goals as goal

pub returns-then-some_has_zero-clause-refused : goal.returns-then-some_has_zero-clause-refused
returns-then-some_has_zero-clause-refused c h =
    zero_is_refused (map string_bytes c.args.words.now)
    (sym (list_any-map has_zero string_bytes c.args.words.now) ∙ (sym c.some_has_zero.ensures ∙ c.if-some_has_zero.true))

pub returns-in-Err-2-clause-refused : goal.returns-in-Err-2-clause-refused
returns-in-Err-2-clause-refused c h = untaken_is_refused (map string_bytes c.args.words.now) (λ taken.
    let is = c.kind.ensures ∙ c.in-Err.ensures.passes taken in
    let no : false ≡ true = rw is at c.if-eq.ensures in
    cc)

pub returns-in-Some-clause-asked : goal.returns-in-Some-clause-asked
returns-in-Some-clause-asked c =
    let words = map string_bytes c.args.words.now in
    let none : list_any has_zero words ≡ false = sym (list_any-map has_zero string_bytes c.args.words.now) ∙ (sym c.some_has_zero.ensures ∙ c.if-some_has_zero.false) in
    let found : Text × List Row = (c.in-Some.name.now, rows_of (found_of c.in-Some.found.now)) in
    IfOk-weaker c.command_of.result _ _
    (λ command is. subst (AsksFor words) is (rows_ask words (Some found) none (c.in-Some.ensures ∙ c.in-Ok.ensures.rows)))
    c.command_of.ensures.asked

pub returns-in-Some-clause-refused : goal.returns-in-Some-clause-refused
returns-in-Some-clause-refused c =
    let words = map string_bytes c.args.words.now in
    let none : list_any has_zero words ≡ false = sym (list_any-map has_zero string_bytes c.args.words.now) ∙ (sym c.some_has_zero.ensures ∙ c.if-some_has_zero.false) in
    let found : Text × List Row = (c.in-Some.name.now, rows_of (found_of c.in-Some.found.now)) in
    IfErr-weaker c.command_of.result _ _
    (λ e is refused. subst (AsksFor words) (is refused) (rows_ask words (Some found) none (c.in-Some.ensures ∙ c.in-Ok.ensures.rows)))
    c.command_of.ensures.refused

pub returns-clause-refused : goal.returns-clause-refused
returns-clause-refused c h =
    let words = map string_bytes c.args.words.now in
    let none : list_any has_zero words ≡ false = sym (list_any-map has_zero string_bytes c.args.words.now) ∙ (sym c.some_has_zero.ensures ∙ c.if-some_has_zero.false) in
    rows_ask words None none (c.in-None.ensures ∙ c.in-Ok.ensures.rows)

pub returns-in-Err-clause-zero : goal.returns-in-Err-clause-zero
returns-in-Err-clause-zero c memory =
    sym (list_any-map has_zero string_bytes c.args.words.now) ∙ (sym c.some_has_zero.ensures ∙ c.if-some_has_zero.false)

pub returns-in-Some-clause-zero : goal.returns-in-Some-clause-zero
returns-in-Some-clause-zero c =
    let none : list_any has_zero (map string_bytes c.args.words.now) ≡ false = sym (list_any-map has_zero string_bytes c.args.words.now) ∙ (sym c.some_has_zero.ensures ∙ c.if-some_has_zero.false) in
    IfErr-weaker c.command_of.result _ _ (λ e is memory. none) c.command_of.ensures.refused

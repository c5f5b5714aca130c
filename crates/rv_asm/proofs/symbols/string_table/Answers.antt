use Rattle.std.proofs.Common.{◌++◌, ◌∷◌, [], ◌∙◌, ap, sym, take}
use Rattle.std.proofs.lemmas.List.{take_more}
use Rattle.rv_asm.specs.Executable.{string_of}
use Rattle.guest_words.proofs.Pieces.{one_more}
use Rattle.rv_asm.proofs.symbols.string_table.Goals as goal

pub loop-symbol-preserved : goal.loop-symbol-preserved
loop-symbol-preserved c =
    let symbols = c.args.symbols.now in
    let i = c.loop-symbol.symbol-index in
    let item = c.symbol-item.result in
    one_more string_of (take i symbols) _ item (0 ∷ []) c.loop-symbol.strings.items c.push_string.new.strings.items
    (take_more symbols i item c.loop-symbol-test.true ∙ ap (λ v. take i symbols ++ v ∷ []) (sym c.symbol-item.is)) c.loop-symbol.invariant c.in_ok-push_string.ensures

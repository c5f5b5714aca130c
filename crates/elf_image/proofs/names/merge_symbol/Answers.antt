use Rattle.std.proofs.Common.{◌≡◌, ◌≢◌, ◌-◌, ◌<◌, false, true, length, get_or, refl, ap, sym, ◌∙◌, arith, rules}
use Rattle.std.proofs.lemmas.List.{get_or_read_under}
use Rattle.std.proofs.lemmas.List.Elements.{All-push, All-set}
use Rattle.elf_image.specs.declared.symbols.SymbolPlace.{SymbolPlace}
use Rattle.elf_image.specs.Private.Places.{IsNamed, placed}
use Rattle.elf_image.specs.Symbols.{goes_before}
use Rattle.elf_image.proofs.Placed.{no_place, placed_kept, placed_pushed, placed_replaced}
use Rattle.elf_image.proofs.names.merge_symbol.Goals.{then-len-eq0-via-then-len-eq0, then-len-eq0-via-else-len-eq0+then-index-symbol}
use Rattle.elf_image.proofs.names.merge_symbol.Goals as goal

pub returns-then-len-eq0-clause-first : goal.returns-then-len-eq0-clause-first
returns-then-len-eq0-clause-first c = λ seen before below.
    let items = c.args.first.now.items in
    let size : c.len-len.result ≡ length items = search rules in
    let fresh : 0 < length items → (get_or items (length items - 1) no_place).value ≢ c.args.symbol.value = λ some. elim c.then-len-eq0.branch [
      | then-len-eq0-via-then-len-eq0 w ↦ absurd (omega (arith, size, some, w.if-len-eq0.true))
      | then-len-eq0-via-else-len-eq0+then-index-symbol w ↦
          let last : w.index.result.now ≡ get_or items (length items - 1) no_place =
          get_or_read_under items (length items - 1) (length items) _ no_place (rw size at w.index.ensures) (omega (arith, some)) refl in
          λ same. w.if-index-symbol.true (ap (λ (s : SymbolPlace). s.value) last ∙ same)
    ] in
    rw c.in_ok-push.ensures.items (placed_pushed c.args.strings.now items seen c.args.symbol before below fresh)

pub returns-then-len-eq0-clause-named : goal.returns-then-len-eq0-clause-named
returns-then-len-eq0-clause-named c =
    rw c.in_ok-push.ensures.items (All-push (IsNamed c.args.strings.now) c.args.first.now.items c.args.symbol c.requires.named c.requires.symbol)

pub returns-then-goes_before-clause-first : goal.returns-then-goes_before-clause-first
returns-then-goes_before-clause-first c = λ seen before below.
    let items = c.args.first.now.items in
    let strings = c.args.strings.now in
    let size : c.len-len.result ≡ length items = search rules in
    let some : 0 < length items = omega (arith, size, c.if-len-eq0.false) in
    let last : c.index.result.now ≡ get_or items (length items - 1) no_place =
    get_or_read_under items (length items - 1) (length items) _ no_place (rw size at c.index.ensures) (omega (arith, some)) refl in
    let tied : (get_or items (length items - 1) no_place).value ≡ c.args.symbol.value = ap (λ (s : SymbolPlace). s.value) (sym last) ∙ c.if-index-symbol.false in
    let best : c.index-2.result.now ≡ get_or items (length items - 1) no_place =
    get_or_read_under items (length items - 1) (length items) _ no_place (rw size at c.index-2.ensures) (omega (arith, some)) refl in
    let sooner : goes_before (placed strings c.args.symbol) (placed strings (get_or items (length items - 1) no_place)) ≡ true =
    ap (λ p. goes_before (placed strings c.args.symbol) (placed strings p)) (sym best) ∙ (sym c.goes_before.ensures ∙ c.if-goes_before.true) in
    rw size (placed_replaced strings items seen c.args.symbol before below some tied sooner)

pub returns-then-goes_before-clause-named : goal.returns-then-goes_before-clause-named
returns-then-goes_before-clause-named c = All-set (IsNamed c.args.strings.now) c.args.first.now.items (c.len-len.result - 1) c.args.symbol c.requires.symbol c.requires.named

pub returns-else-goes_before-clause-first : goal.returns-else-goes_before-clause-first
returns-else-goes_before-clause-first c = λ seen before below.
    let items = c.args.first.now.items in
    let strings = c.args.strings.now in
    let size : c.len-len.result ≡ length items = search rules in
    let some : 0 < length items = omega (arith, size, c.if-len-eq0.false) in
    let last : c.index.result.now ≡ get_or items (length items - 1) no_place =
    get_or_read_under items (length items - 1) (length items) _ no_place (rw size at c.index.ensures) (omega (arith, some)) refl in
    let tied : (get_or items (length items - 1) no_place).value ≡ c.args.symbol.value = ap (λ (s : SymbolPlace). s.value) (sym last) ∙ c.if-index-symbol.false in
    let best : c.index-2.result.now ≡ get_or items (length items - 1) no_place =
    get_or_read_under items (length items - 1) (length items) _ no_place (rw size at c.index-2.ensures) (omega (arith, some)) refl in
    let later : goes_before (placed strings c.args.symbol) (placed strings (get_or items (length items - 1) no_place)) ≡ false =
    ap (λ p. goes_before (placed strings c.args.symbol) (placed strings p)) (sym best) ∙ (sym c.goes_before.ensures ∙ c.if-goes_before.false) in
    placed_kept strings items seen c.args.symbol before below some tied later

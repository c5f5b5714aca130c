use Rattle.std.proofs.Common.{◌≡◌, ◌+◌, ◌*◌, ◌/◌, ◌%◌, ◌^◌, ◌<◌, Option, None, IfSome, ap, arith, get_or, length, map, subst, sym, ◌∙◌}
use Rattle.std.proofs.lemmas.List.{get_or-map}
use Rattle.rv_isa.specs.declared.instruction.Instr.{Instr}
use Rattle.guest_memory.specs.Code.{IsInstructionAt, known_of}
use Rattle.guest_memory.proofs.code_page.find_word.Goals as goal

pub returns : goal.returns
returns c = λ m known.
    let words = c.args.code.now in
    let word = c.args.word in
    let d = c.index-code-word.result in
    let low : word < 1024 = omega (arith, c.if-word-ge-PAGE_WORDS.false) in
    let at = (c.args.first + 4 * word) % 2 ^ 32 in
    let page : at / 4096 ≡ c.args.first / 4096 = omega (arith, low, c.requires.first, c.ranges.first) in
    let place : at / 4 % 1024 ≡ word = omega (arith, low, c.requires.first, c.ranges.first) in
    let even : at % 4 ≡ 0 = omega (arith, c.requires.first) in
    let inside : word < length words = omega (arith, low, c.requires.whole) in
    let is : known_of d ≡ get_or (map known_of words) (at / 4 % 1024) None =
    ap known_of c.index-code-word.is ∙ sym (get_or-map known_of words word d None inside)
    ∙ ap (λ n. get_or (map known_of words) n None) (sym place) in
    subst (λ (o : Option Instr). IfSome o (IsInstructionAt m at)) (sym is) (known at even page)

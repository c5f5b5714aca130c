-- `1 << n` less one is the mask of the lowest n bits.
use Rattle.std.proofs.Common.{◌+◌, ◌-◌, ◌/◌, ◌^◌, bit_and, ap, ◌∙◌, arith}
use Rattle.std.proofs.lemmas.Nat.{one_shl, and_mask}
use Rattle.rv_isa.proofs.fields.bits.Goals as goal

pub returns : goal.returns
returns c =
    let word = c.args.word / 2 ^ c.args.low in
    let width = c.args.high - c.args.low + 1 in
    record { field = ap (λ n. bit_and word (n - 1)) (one_shl width 32 (omega arith)) ∙ and_mask word width }

use Rattle.std.proofs.Common.{ℕ, ◌/◌, ◌%◌, List, get_or, ap, arith}
use Rattle.profile_report.specs.LineForms.{hex_address}
use Rattle.profile_report.proofs.Digits.{by_digits}
use Rattle.profile_report.proofs.addresses.hex_number.Goals as goal

pub returns : goal.returns
unfolding hex_address
returns c at fits is =
    let digit = λ (i : ℕ). ap (λ (gs : List ℕ). get_or gs i 0) is in
    let a = c.hex_digit.ensures.read (at / 0x1000_0000 % 16) (omega arith) (digit 0) in
    let b = c.hex_digit-2.ensures.read (at / 0x100_0000 % 16) (omega arith) (digit 1) in
    let c' = c.hex_digit-3.ensures.read (at / 0x10_0000 % 16) (omega arith) (digit 2) in
    let d = c.hex_digit-4.ensures.read (at / 0x1_0000 % 16) (omega arith) (digit 3) in
    let e = c.hex_digit-5.ensures.read (at / 0x1000 % 16) (omega arith) (digit 4) in
    let f = c.hex_digit-6.ensures.read (at / 0x100 % 16) (omega arith) (digit 5) in
    let g = c.hex_digit-7.ensures.read (at / 0x10 % 16) (omega arith) (digit 6) in
    let h = c.hex_digit-8.ensures.read (at % 16) (omega arith) (digit 7) in
    omega (arith, by_digits at fits)

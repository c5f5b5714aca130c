-- Digits in base 16.
use Rattle.std.proofs.Common.{◌≡◌, ℕ, ◌+◌, ◌*◌, ◌/◌, ◌%◌, ◌<◌, ◌^◌, eqb, true, false, refl, arith}
use Rattle.std.proofs.lemmas.Bool.{agree_below, agree_below_at, and_from, not_from_false}
use Rattle.guest_words.specs.Separators.{lacks}
use Rattle.profile_report.specs.LineForms.{hex_address, hex_glyph}

-- a number of 32 bits by its eight digits in base 16
pub by_digits : (n : ℕ) → n < 2 ^ 32 →
    n / 0x1000_0000 % 16 * 0x1000_0000 + n / 0x100_0000 % 16 * 0x100_0000 + n / 0x10_0000 % 16 * 0x10_0000 + n / 0x1_0000 % 16 * 0x1_0000
    + n / 0x1000 % 16 * 0x1000 + n / 0x100 % 16 * 0x100 + n / 0x10 % 16 * 0x10 + n % 16 ≡ n
by_digits n fits =
    let a : n / 0x100 ≡ n / 0x10 / 16 = omega arith in
    let b : n / 0x1000 ≡ n / 0x100 / 16 = omega arith in
    let c : n / 0x1_0000 ≡ n / 0x1000 / 16 = omega arith in
    let d : n / 0x10_0000 ≡ n / 0x1_0000 / 16 = omega arith in
    let e : n / 0x100_0000 ≡ n / 0x10_0000 / 16 = omega arith in
    let f : n / 0x1000_0000 ≡ n / 0x100_0000 / 16 = omega arith in
    omega arith

-- the digits of an address have no byte that is no such digit
pub lacks_address : (c at : ℕ) → agree_below (λ d. eqb (hex_glyph d) c) (λ d. false) 16 ≡ true → lacks c (hex_address at) ≡ true
unfolding hex_address
lacks_address c at other =
    let glyph = λ (d : ℕ). λ (below : d < 16). not_from_false _ (agree_below_at (λ d. eqb (hex_glyph d) c) (λ d. false) 16 d other below) in
    and_from _ _ (glyph (at / 0x1000_0000 % 16) (omega arith))
    (and_from _ _ (glyph (at / 0x100_0000 % 16) (omega arith))
    (and_from _ _ (glyph (at / 0x10_0000 % 16) (omega arith))
    (and_from _ _ (glyph (at / 0x1_0000 % 16) (omega arith))
    (and_from _ _ (glyph (at / 0x1000 % 16) (omega arith))
    (and_from _ _ (glyph (at / 0x100 % 16) (omega arith))
    (and_from _ _ (glyph (at / 0x10 % 16) (omega arith))
    (and_from _ _ (glyph (at % 16) (omega arith)) refl)))))))

-- Words in a row lie in lines in a row.
use Rattle.std.proofs.Common.{◌≡◌, ℕ, zero, suc, ◌+◌, ◌-◌, ◌*◌, ◌/◌, ◌<◌, ◌≤◌, ◌⊎◌, inl, inr, ◌∷◌, sym, ap, ap₂, ◌∙◌, arith}
use Rattle.std.specs.List.{range_with_len}
use Rattle.std.proofs.lemmas.Bool.{cases_lt}
use Rattle.std.proofs.lemmas.Nat.{le-div}
use Rattle.std.proofs.Math.Nat.{add-div_right, div-mul-le_self}
use Rattle.cost_points.specs.Keys.{insert_rising}
use Rattle.cost_points.proofs.Rising.{insert_below, insert_same}
use Rattle.cache_lines.specs.Shapes.{Dimensions}
use Rattle.cache_profile.specs.LineAccesses.{line_of, lines_over}

quotients-rise : (a b n : ℕ) → 0 < n → a ≤ b → a / n ≤ b / n
quotients-rise a b n some le = le-div (a / n) b n some (omega (arith, div-mul-le_self a n, le))

module _ (shape : Dimensions) (wide : 4 ≤ shape.line) where
  some_byte : 0 < shape.line
  some_byte = omega (arith, wide)

  lines-rise : (v w : ℕ) → v ≤ w → line_of shape v ≤ line_of shape w
  lines-rise v w le = quotients-rise (4 * v) (4 * w) shape.line some_byte (omega (arith, le))

  next-near : (w : ℕ) → line_of shape (w + 1) ≤ line_of shape w + 1
  next-near w =
      let near : 4 * (w + 1) / shape.line ≤ (4 * w + shape.line) / shape.line = quotients-rise (4 * (w + 1)) (4 * w + shape.line) shape.line some_byte (omega (arith, wide)) in
      let next : (4 * w + shape.line) / shape.line ≡ 4 * w / shape.line + 1 = add-div_right (4 * w) some_byte in
      omega (arith, near, next)

  -- the same line, or the next one
  step : (w : ℕ) → (line_of shape w ≡ line_of shape (w + 1)) ⊎ (line_of shape w + 1 ≡ line_of shape (w + 1))
  step w = elim (cases_lt (line_of shape w) (line_of shape (w + 1))) [
    | inl below ↦ inr (omega (arith, below, next-near w))
    | inr above ↦ inl (omega (arith, above, lines-rise w (w + 1) (omega arith)))
  ]

  from : (a b n : ℕ) → a ≡ b → range_with_len a n ≡ range_with_len b n
  from a b n is = ap (λ k. range_with_len k n) is

  long : (a m n : ℕ) → m ≡ n → range_with_len a m ≡ range_with_len a n
  long a m n is = ap (range_with_len a) is

  -- from the first word's line to that of the word n further
  in_row : (first n : ℕ) → lines_over shape first (suc n) ≡ range_with_len (line_of shape first) (suc (line_of shape (first + n) - line_of shape first))
  in_row first zero =
      let here : first + 0 ≡ first = omega arith in
      let one : suc (line_of shape first - line_of shape first) ≡ 1 = omega arith in
      let none : suc (line_of shape (first + 0) - line_of shape first) ≡ 1 = ap (λ w. suc (line_of shape w - line_of shape first)) here ∙ one in
      sym (long (line_of shape first) (suc (line_of shape (first + 0) - line_of shape first)) 1 none)
  in_row first (suc n) =
      let x = line_of shape first in
      let y = line_of shape (first + 1) in
      let z = line_of shape (first + suc n) in
      let k = line_of shape (first + 1 + n) - line_of shape (first + 1) in
      let rest : lines_over shape (first + 1) (suc n) ≡ range_with_len (line_of shape (first + 1)) (suc (line_of shape (first + 1 + n) - line_of shape (first + 1))) = in_row (first + 1) n in
      let there : first + 1 + n ≡ first + suc n = omega arith in
      let last : line_of shape (first + 1 + n) ≡ line_of shape (first + suc n) = ap (line_of shape) there in
      let up : line_of shape (first + 1) ≤ line_of shape (first + suc n) = lines-rise (first + 1) (first + suc n) (omega arith) in
      ap (insert_rising x) rest ∙ elim (step first) [
        | inl same ↦
            insert_same x y (range_with_len (y + 1) k) same
            ∙ sym (from x y (suc k) same)
            ∙ long x (suc k) (suc (z - x)) (omega (arith, same, last))
        | inr next ↦
            insert_below x y (range_with_len (y + 1) k) (omega (arith, next))
            ∙ ap (λ ls. x ∷ ls) (sym (from (x + 1) y (suc k) next))
            ∙ long x (suc (suc k)) (suc (z - x)) (omega (arith, next, last, up))
      ]

  lines_are : (first count : ℕ) → 1 ≤ count →
      lines_over shape first count ≡ range_with_len (line_of shape first) (line_of shape (first + (count - 1)) - line_of shape first + 1)
  lines_are first zero some = absurd (omega (arith, some))
  lines_are first (suc n) some =
      let there : first + n ≡ first + (suc n - 1) = omega arith in
      let last : line_of shape (first + n) ≡ line_of shape (first + (suc n - 1)) = ap (line_of shape) there in
      in_row first n
      ∙ long (line_of shape first) (suc (line_of shape (first + n) - line_of shape first)) (line_of shape (first + (suc n - 1)) - line_of shape first + 1) (omega (arith, last))

  -- the lines from that of the first word to that of the last
  pub covered : (first count a b : ℕ) → 1 ≤ count → a ≡ line_of shape first → b ≡ line_of shape (first + (count - 1)) →
      range_with_len a (b - a + 1) ≡ lines_over shape first count
  covered first count a b some first_is last_is =
      ap₂ (λ m n. range_with_len m (n - m + 1)) first_is last_is ∙ sym (lines_are first count some)

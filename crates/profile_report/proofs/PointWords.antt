-- The words of a point, one by one.
use Rattle.std.proofs.Common.{◌≡◌, ℕ, ◌<◌, ◌^◌, true, codes, List, ◌∷◌, ◌++◌, Option, Some, None, refl, sym, ap, ap₂, ◌∙◌, subst, arith}
use Rattle.std.specs.Fmt.{decimal}
use Rattle.std.specs.Option.{IfSome}
use Rattle.std.specs.Str.Parse.{digits_value}
use Rattle.std.proofs.lemmas.Fmt.{decimal_is_IsNumeral_wide}
use Rattle.std.proofs.lemmas.List.{append_assoc, append-nil}
use Rattle.cost_points.specs.declared.point.Point.{Point}
use Rattle.cost_points.specs.declared.point.Split.{Split}
use Rattle.profile_report.specs.Fits.{FitsPoint, FitsSplit}
use Rattle.profile_report.specs.LineForms.{point_line, split_words}
use Rattle.guest_words.specs.Separators.{lacks}
use Rattle.guest_words.proofs.Cuts.{cut_once, lacks_decimal, lacks_not}

pub number_same : (m n : ℕ) → m < 2 ^ 128 → n < 2 ^ 128 → decimal m ≡ decimal n → m ≡ n
number_same m n fm fn is = sym (decimal_is_IsNumeral_wide m (omega arith)).1 ∙ ap (digits_value 10) is ∙ (decimal_is_IsNumeral_wide n (omega arith)).1

-- the first of two numbers, and what stands behind them
pub words_same : (m n : ℕ) (a b : List ℕ) → m < 2 ^ 128 → n < 2 ^ 128 → decimal m ++ 32 ∷ a ≡ decimal n ++ 32 ∷ b → (m ≡ n) × (a ≡ b)
words_same m n a b fm fn is =
    let parts = cut_once 32 (decimal m) (decimal n) a b (lacks_decimal 32 m (λ r. omega arith) fm) (lacks_decimal 32 n (λ r. omega arith) fn) is in
    (number_same m n fm fn parts.0, parts.1)

four : (a b c d : List ℕ) → a ++ b ++ c ++ d ≡ a ++ (b ++ (c ++ d))
four a b c d = simp append_assoc

part_words : (s : Split) → split_words (Some s) ≡ 32 ∷ (decimal s.plain ++ 32 ∷ (decimal s.thread ++ 32 ∷ (decimal s.kernel ++ 32 ∷ decimal s.bare)))
part_words s = four (codes " " ++ decimal s.plain) (codes " " ++ decimal s.thread) (codes " " ++ decimal s.kernel) (codes " " ++ decimal s.bare)

parts_same : (s t : Split) → FitsSplit s → FitsSplit t → decimal s.plain ++ 32 ∷ (decimal s.thread ++ 32 ∷ (decimal s.kernel ++ 32 ∷ decimal s.bare))
    ≡ decimal t.plain ++ 32 ∷ (decimal t.thread ++ 32 ∷ (decimal t.kernel ++ 32 ∷ decimal t.bare)) → s ≡ t
parts_same s t fs ft is =
    let plain = words_same s.plain t.plain _ _ fs.plain ft.plain is in
    let thread = words_same s.thread t.thread _ _ fs.thread ft.thread plain.1 in
    let kernel = words_same s.kernel t.kernel _ _ fs.kernel ft.kernel thread.1 in
    let bare : s.bare ≡ t.bare = number_same s.bare t.bare fs.bare ft.bare kernel.1 in
    ap (λ n. record s { plain = n }) plain.0 ∙ ap (λ n. record s { plain = t.plain; thread = n }) thread.0
    ∙ ap (λ n. record t { kernel = n; bare = s.bare }) kernel.0 ∙ ap (λ n. record t { bare = n }) bare

-- a number with nothing behind it is none with a space behind it
alone : (m n : ℕ) (rest : List ℕ) → m < 2 ^ 128 → decimal m ≡ decimal n ++ 32 ∷ rest → ⊥
alone m n rest fits is = lacks_not 32 (decimal n) rest (subst (λ t. lacks 32 t ≡ true) is (lacks_decimal 32 m (λ r. omega arith) fits))

-- a sum, and the parts behind it, where they are told
sum_same : (m n : ℕ) (s t : Option Split) → m < 2 ^ 128 → n < 2 ^ 128 → IfSome s FitsSplit → IfSome t FitsSplit → decimal m ++ split_words s ≡ decimal n ++ split_words t → (m ≡ n) × (s ≡ t)
sum_same m n None None fm fn fs ft is = (number_same m n fm fn (sym (append-nil (decimal m)) ∙ is ∙ append-nil (decimal n)), refl)
sum_same m n None (Some t) fm fn fs ft is = absurd (alone m n _ fm (sym (append-nil (decimal m)) ∙ is ∙ ap (λ w. decimal n ++ w) (part_words t)))
sum_same m n (Some s) None fm fn fs ft is = absurd (alone n m _ fn (sym (append-nil (decimal n)) ∙ sym is ∙ ap (λ w. decimal m ++ w) (part_words s)))
sum_same m n (Some s) (Some t) fm fn fs ft is =
    let words = words_same m n _ _ fm fn (sym (ap (λ w. decimal m ++ w) (part_words s)) ∙ is ∙ ap (λ w. decimal n ++ w) (part_words t)) in
    (words.0, ap Some (parts_same s t fs ft words.1))

-- a sum with a space behind it has the parts there
pub told : (word rest : List ℕ) (n : ℕ) (o : Option Split) → lacks 32 word ≡ true → n < 2 ^ 128 → word ++ 32 ∷ rest ≡ decimal n ++ split_words o
    → (s : Split) × (o ≡ Some s) × (word ≡ decimal n) × (codes " " ++ rest ≡ split_words (Some s))
told word rest n None lack fits is =
    absurd (lacks_not 32 word rest (subst (λ t. lacks 32 t ≡ true) (sym (is ∙ append-nil (decimal n))) (lacks_decimal 32 n (λ r. omega arith) fits)))
told word rest n (Some s) lack fits is =
    let parts = cut_once 32 word (decimal n) rest _ lack (lacks_decimal 32 n (λ r. omega arith) fits) (is ∙ ap (λ w. decimal n ++ w) (part_words s)) in
    (s, refl, parts.0, ap (λ w. 32 ∷ w) parts.1 ∙ sym (part_words s))

pub point_words : (p : Point) → point_line p ≡ decimal p.size ++ 32 ∷ (decimal p.calls ++ 32 ∷ (decimal p.least ++ 32 ∷ (decimal p.most ++ 32 ∷ (decimal p.sum ++ split_words p.split))))
point_words p = simp append_assoc

-- points with the same numbers are one
pub same_numbers : (p q : Point) → p.size ≡ q.size → p.calls ≡ q.calls → p.least ≡ q.least → p.most ≡ q.most → p.sum ≡ q.sum → p.split ≡ q.split → p ≡ q
same_numbers p q size calls least most sum split =
    ap (λ n. record p { size = n }) size ∙ ap (λ n. record p { size = q.size; calls = n }) calls ∙ ap (λ n. record p { size = q.size; calls = q.calls; least = n }) least
    ∙ ap (λ n. record q { most = n; sum = p.sum; split = p.split }) most ∙ ap₂ (λ n s. record q { sum = n; split = s }) sum split

pub point_same : (p q : Point) → FitsPoint p → FitsPoint q → point_line p ≡ point_line q → p ≡ q
point_same p q fp fq is =
    let size = words_same p.size q.size _ _ (omega (arith, fp.size)) (omega (arith, fq.size)) (sym (point_words p) ∙ is ∙ point_words q) in
    let calls = words_same p.calls q.calls _ _ (omega (arith, fp.calls)) (omega (arith, fq.calls)) size.1 in
    let least = words_same p.least q.least _ _ (omega (arith, fp.least)) (omega (arith, fq.least)) calls.1 in
    let most = words_same p.most q.most _ _ (omega (arith, fp.most)) (omega (arith, fq.most)) least.1 in
    let sum = sum_same p.sum q.sum p.split q.split fp.sum fq.sum fp.split fq.split most.1 in
    same_numbers p q size.0 calls.0 least.0 most.0 sum.0 sum.1

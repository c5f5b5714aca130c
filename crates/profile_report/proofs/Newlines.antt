-- No line has the byte that ends it.
use Rattle.std.proofs.Common.{◌≡◌, ℕ, ◌<◌, ◌^◌, true, codes, not, eqb, List, [], ◌∷◌, ◌++◌, Option, Some, None, refl, ◌∙◌, arith}
use Rattle.std.specs.Option.{IfSome}
use Rattle.std.specs.Fmt.{decimal}
use Rattle.std.specs.List.{list_all}
use Rattle.std.proofs.lemmas.Bool.{and_from, and_parts}
use Rattle.std.proofs.lemmas.Bool.Decides.{nat_tests}
use Rattle.std.proofs.lemmas.List.Folds.{list_all-append}
use Rattle.guest_words.specs.Names.{is_visible}
use Rattle.guest_words.specs.declared.endings.Finish.TheVariants.{Exit, Fault, Budget, Deadlock, Deep, Schedule}
use Rattle.guest_words.specs.Endings.{kind_number}
use Rattle.guest_words.specs.declared.endings.FaultKind.{FaultKind}
use Rattle.cost_points.specs.declared.point.Point.{Point}
use Rattle.cost_points.specs.declared.point.Split.{Split}
use Rattle.profile_report.specs.declared.line.Line.{Line}
use Rattle.profile_report.specs.declared.line.Line.TheVariants.{First, End, Steps, Open, OfRoutine, OfPoint, Done}
use Rattle.profile_report.specs.declared.report.ReportVersion.TheVariants.{One, Two}
use Rattle.profile_report.specs.Fits.{FitsName, FitsPoint, FitsSplit}
use Rattle.profile_report.specs.Grammar.{FitsLine, line_text}
use Rattle.profile_report.specs.LineForms.{hex_address, labelled, name_word, point_line, split_words}
use Rattle.guest_words.specs.Separators.{lacks}
use Rattle.guest_words.proofs.Cuts.{lacks_decimal}
use Rattle.guest_words.proofs.FaultKinds.{kind_in_range}
use Rattle.profile_report.proofs.Digits.{lacks_address}

-- two parts without the byte
both : (a b : List ℕ) → lacks 10 a ≡ true → lacks 10 b ≡ true → lacks 10 (a ++ b) ≡ true
both a b ha hb = list_all-append (λ x. not (eqb x 10)) a b ∙ and_from _ _ ha hb

number : (n : ℕ) → n < 2 ^ 128 → lacks 10 (decimal n) ≡ true
number n fits = lacks_decimal 10 n (λ r. omega arith) fits

visible : (xs : List ℕ) → list_all is_visible xs ≡ true → lacks 10 xs ≡ true
visible [] h = refl
visible (x ∷ xs) h =
    let parts = and_parts (is_visible x) (list_all is_visible xs) h in
    let rest : lacks 10 xs ≡ true = visible xs parts.1 in
    let here : is_visible x ≡ true = parts.0 in
    grind (arith, nat_tests)

name : (n : Option (List ℕ)) → FitsName n → lacks 10 (name_word n) ≡ true
name None fits = refl
name (Some bytes) fits = visible bytes (and_parts _ _ fits).1

split : (o : Option Split) → IfSome o FitsSplit → lacks 10 (split_words o) ≡ true
split None fits = refl
split (Some s) fits =
    let plain = labelled (codes " ") s.plain in
    let thread = labelled (codes " ") s.thread in
    let kernel = labelled (codes " ") s.kernel in
    both (plain ++ thread ++ kernel) (labelled (codes " ") s.bare)
    (both (plain ++ thread) kernel
    (both plain thread (number s.plain fits.plain) (number s.thread fits.thread))
    (number s.kernel fits.kernel)) (number s.bare fits.bare)

point : (p : Point) → FitsPoint p → lacks 10 (point_line p) ≡ true
point p fits =
    let calls = labelled (codes " ") p.calls in
    let least = labelled (codes " ") p.least in
    let most = labelled (codes " ") p.most in
    let sum = labelled (codes " ") p.sum in
    both (decimal p.size ++ calls ++ least ++ most ++ sum) (split_words p.split)
    (both (decimal p.size ++ calls ++ least ++ most) sum
    (both (decimal p.size ++ calls ++ least) most
    (both (decimal p.size ++ calls) least
    (both (decimal p.size) calls (number p.size (omega (arith, fits.size))) (number p.calls (omega (arith, fits.calls))))
    (number p.least (omega (arith, fits.least)))) (number p.most (omega (arith, fits.most)))) (number p.sum fits.sum)) (split p.split fits.split)

pub kind_small : (k : FaultKind) → kind_number k < 2 ^ 128
kind_small k = omega (arith, (kind_in_range k).1)

pub line_lacks : (l : Line) → FitsLine l → lacks 10 (line_text l) ≡ true
line_lacks (First One) fits = refl
line_lacks (First Two) fits = refl
line_lacks (End (Exit s)) fits = number s (omega arith)
line_lacks (End (Fault k t a)) fits = both (decimal (kind_number k) ++ labelled (codes " ") t ++ codes " ") (hex_address a) (both (decimal (kind_number k) ++ labelled (codes " ") t) (codes " ") (both (decimal (kind_number k)) (labelled (codes " ") t) (number (kind_number k) (kind_small k)) (number t (omega arith))) refl) (lacks_address 10 a refl)
line_lacks (End Budget) fits = refl
line_lacks (End Deadlock) fits = refl
line_lacks (End Deep) fits = refl
line_lacks (End (Schedule s)) fits = number s (omega arith)
line_lacks (Steps n) fits = number n (omega arith)
line_lacks (Open n) fits = number n (omega arith)
line_lacks (OfRoutine entry n) fits = both (codes "routine " ++ hex_address entry ++ codes " ") (name_word n) (both (codes "routine " ++ hex_address entry) (codes " ") (lacks_address 10 entry refl) refl) (name n fits.1)
line_lacks (OfPoint p) fits = point p fits
line_lacks (Done n) fits = number n (omega arith)

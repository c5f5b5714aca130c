-- The first byte of a line tells its form.
use Rattle.std.proofs.Common.{◌≡◌, ℕ, ◌<◌, ◌≤◌, ◌^◌, eqb, leb, cond, codes, Some, List, [], ◌∷◌, ◌++◌, length, get_or, Option, Result, refl, sym, ap, ◌∙◌, subst, arith}
use Rattle.std.specs.Bool.{MatchBool}
use Rattle.std.specs.Result.{MatchResult}
use Rattle.std.specs.Fmt.{decimal}
use Rattle.std.specs.Str.Parse.{AllDigits}
use Rattle.std.proofs.lemmas.Bool.{cond-true, le-leb}
use Rattle.std.proofs.lemmas.Fmt.{decimal_is_IsNumeral_wide}
use Rattle.std.proofs.lemmas.List.{append_assoc, append_cancel_left}
use Rattle.std.proofs.lemmas.Str.Parse.{tells_digits}
use Rattle.guest_words.specs.declared.endings.Finish.{Finish}
use Rattle.guest_words.specs.declared.endings.Finish.TheVariants.{Exit, Fault, Budget, Deadlock, Deep, Schedule}
use Rattle.cost_points.specs.declared.point.Point.{Point}
use Rattle.profile_report.specs.declared.line.Line.{Line}
use Rattle.profile_report.specs.declared.line.Line.TheVariants.{First, End, Steps, Open, OfRoutine, OfPoint, Done}
use Rattle.profile_report.specs.declared.report.ReportVersion.{ReportVersion}
use Rattle.profile_report.specs.declared.report.ReportVersion.TheVariants.{One, Two}
use Rattle.profile_report.specs.declared.line.LineError.{LineError}
use Rattle.profile_report.specs.declared.line.LineError.TheVariants.{Memory}
use Rattle.profile_report.specs.Grammar.{FitsLine, line_text}
use Rattle.profile_report.specs.LineForms.{end_line, first_line, hex_address, labelled, name_word, point_line, split_words}
use Rattle.profile_report.specs.Fits.{FitsEnd}
use Rattle.guest_words.proofs.Found.{same}

-- the letter that a form begins with, or 0 for a digit
abbrev pub letter : Line → ℕ
letter (First version) = 97
letter (End finish) = 101
letter (Steps n) = 115
letter (Open n) = 111
letter (OfRoutine entry name) = 114
letter (OfPoint p) = 0
letter (Done n) = 100

abbrev letter_of : ℕ → ℕ
letter_of byte = cond (leb byte 57) 0 byte

-- what begins with a letter
abbrev pub Form : ℕ → Line → Type 0
Form byte l =
    MatchBool (eqb byte 97) ((v : ReportVersion) × (l ≡ First v))
    (MatchBool (eqb byte 101) ((f : Finish) × (l ≡ End f))
    (MatchBool (eqb byte 115) ((n : ℕ) × (l ≡ Steps n))
    (MatchBool (eqb byte 111) ((n : ℕ) × (l ≡ Open n))
    (MatchBool (eqb byte 114) ((entry : ℕ) × (name : Option (List ℕ)) × (l ≡ OfRoutine entry name))
    (MatchBool (eqb byte 100) ((n : ℕ) × (l ≡ Done n))
    ((p : Point) × (l ≡ OfPoint p)))))))

form : (l : Line) → Form (letter l) l
form (First version) = (version, refl)
form (End finish) = (finish, refl)
form (Steps n) = (n, refl)
form (Open n) = (n, refl)
form (OfRoutine entry name) = (entry, name, refl)
form (OfPoint p) = (p, refl)
form (Done n) = (n, refl)

-- the first byte of a number is a digit
first_digit : (ds rest : List ℕ) → 0 < length ds → AllDigits 10 ds → get_or (ds ++ rest) 0 0 ≤ 57
first_digit [] rest some all = absurd (omega arith)
first_digit (d ∷ ds) rest some all = (tells_digits.parts d ds all).0.1

point_parts : (p : Point) → point_line p ≡ decimal p.size ++ (labelled (codes " ") p.calls ++ (labelled (codes " ") p.least ++ (labelled (codes " ") p.most ++ (labelled (codes " ") p.sum ++ split_words p.split))))
point_parts p = simp append_assoc

point_first : (p : Point) → p.size < 2 ^ 64 → get_or (point_line p) 0 0 ≤ 57
point_first p fits =
    let numeral = (decimal_is_IsNumeral_wide p.size (omega arith)).0 in
    rw (point_parts p) (first_digit (decimal p.size) _ numeral.0 numeral.1)

-- each version begins with the same letter
version_first : (v : ReportVersion) → (rest : List ℕ) × (first_line v ≡ 97 ∷ rest)
version_first One = (_, refl)
version_first Two = (_, refl)

-- each end begins with the same letter
end_first : (f : Finish) → (rest : List ℕ) × (end_line f ≡ 101 ∷ rest)
end_first (Exit s) = (_, refl)
end_first _ = (_, refl)

begins : (l : Line) → FitsLine l → letter_of (get_or (line_text l) 0 0) ≡ letter l
begins (First One) fits = refl
begins (First Two) fits = refl
begins (End (Exit s)) fits = refl
begins (End (Fault k t a)) fits = refl
begins (End Budget) fits = refl
begins (End Deadlock) fits = refl
begins (End Deep) fits = refl
begins (End (Schedule s)) fits = refl
begins (Steps n) fits = refl
begins (Open n) fits = refl
begins (OfRoutine entry name) fits = refl
begins (OfPoint p) fits = cond-true (leb (get_or (point_line p) 0 0) 57) 0 _ (le-leb _ _ (point_first p fits.size))
begins (Done n) fits = refl

-- a line with the text of another has its form
pub alike : (l k : Line) → FitsLine l → FitsLine k → line_text l ≡ line_text k → Form (letter l) k
alike l k fl fk is = subst (λ b. Form b k) (sym (begins k fk) ∙ ap (λ xs. letter_of (get_or xs 0 0)) (sym is) ∙ begins l fl) (form k)

-- the line whose text begins with the byte
pub begun_by : (l : Line) (byte : ℕ) (rest : List ℕ) → FitsLine l → line_text l ≡ byte ∷ rest → Form (letter_of byte) l
begun_by l byte rest fits e = subst (λ b. Form b l) (sym (begins l fits) ∙ ap (λ xs. letter_of (get_or xs 0 0)) e) (form l)

module _ (l : Line) (line : List ℕ) (fits : FitsLine l) (is : line ≡ line_text l) where
  pub only_first : (found : Option ReportVersion) (v : ReportVersion) → found ≡ Some v → line ≡ first_line v → ((w : ReportVersion) → line ≡ first_line w → found ≡ Some w) → Some (First v) ≡ Some l
  only_first found v here front only =
      let form = begun_by l 97 _ fits (sym is ∙ front ∙ (version_first v).1) in
      let there = only form.0 (is ∙ ap line_text form.1) in
      ap (λ w. Some (First w)) (same found v form.0 here there) ∙ ap Some (sym form.1)

  pub only_end : (found : Option Finish) (f : Finish) → found ≡ Some f → line ≡ end_line f → ((g : Finish) → FitsEnd g → line ≡ end_line g → found ≡ Some g) → Some (End f) ≡ Some l
  only_end found f here front only =
      let form = begun_by l 101 _ fits (sym is ∙ front ∙ (end_first f).1) in
      let there = only form.0 (subst FitsLine form.1 fits) (is ∙ ap line_text form.1) in
      ap (λ g. Some (End g)) (same found f form.0 here there) ∙ ap Some (sym form.1)

module _ (l : Line) (line word : List ℕ) (fits : FitsLine l) (is : line ≡ line_text l) (r : Option Line) where
  pub only_steps : line ≡ codes "steps " ++ word → ((n : ℕ) → n < 2 ^ 64 → word ≡ decimal n → r ≡ Some (Steps n)) → r ≡ Some l
  only_steps front only =
      let f = begun_by l 115 _ fits (sym is ∙ front) in
      only f.0 (subst FitsLine f.1 fits) (append_cancel_left (codes "steps ") word (decimal f.0) (sym front ∙ is ∙ ap line_text f.1)) ∙ ap Some (sym f.1)

  pub only_open : line ≡ codes "open " ++ word → ((n : ℕ) → n < 2 ^ 64 → word ≡ decimal n → r ≡ Some (Open n)) → r ≡ Some l
  only_open front only =
      let f = begun_by l 111 _ fits (sym is ∙ front) in
      only f.0 (subst FitsLine f.1 fits) (append_cancel_left (codes "open ") word (decimal f.0) (sym front ∙ is ∙ ap line_text f.1)) ∙ ap Some (sym f.1)

  pub only_done : line ≡ codes "done " ++ word → ((n : ℕ) → n < 2 ^ 64 → word ≡ decimal n → r ≡ Some (Done n)) → r ≡ Some l
  only_done front only =
      let f = begun_by l 100 _ fits (sym is ∙ front) in
      only f.0 (subst FitsLine f.1 fits) (append_cancel_left (codes "done ") word (decimal f.0) (sym front ∙ is ∙ ap line_text f.1)) ∙ ap Some (sym f.1)

module _ (l : Line) (line words : List ℕ) (fits : FitsLine l) (is : line ≡ line_text l) (r : Result Line LineError) where
  pub only_routine : line ≡ codes "routine " ++ words
      → ((entry : ℕ) (name : Option (List ℕ)) → FitsLine (OfRoutine entry name) → words ≡ hex_address entry ++ 32 ∷ name_word name → MatchResult r (λ x. x ≡ OfRoutine entry name) (λ e. e ≡ Memory))
      → MatchResult r (λ x. x ≡ l) (λ e. e ≡ Memory)
  only_routine front only =
      let f = begun_by l 114 _ fits (sym is ∙ front) in
      let whole : codes "routine " ++ words ≡ codes "routine " ++ (hex_address f.0 ++ 32 ∷ name_word f.1) = sym front ∙ is ∙ ap line_text f.2 ∙ simp append_assoc in
      subst (λ k. MatchResult r (λ x. x ≡ k) (λ e. e ≡ Memory)) (sym f.2) (only f.0 f.1 (subst FitsLine f.2 fits) (append_cancel_left (codes "routine ") words _ whole))

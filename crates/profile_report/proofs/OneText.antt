-- What a line says is told by its text.
use Rattle.std.proofs.Common.{◌≡◌, ℕ, ◌+◌, ◌*◌, ◌/◌, ◌%◌, ◌<◌, ◌^◌, ◌-◌, true, cond, eqb, leb, codes, List, [], ◌∷◌, ◌++◌, get_or, Option, Some, None, refl, sym, ap, ap₂, ◌∙◌, subst, arith}
use Rattle.std.specs.Bool.{MatchBool}
use Rattle.std.specs.Fmt.{decimal}
use Rattle.std.specs.List.{AllByRecursion}
use Rattle.std.proofs.lemmas.Bool.{agree_below_at, eqb-true, false≢true}
use Rattle.std.proofs.lemmas.List.{append_assoc, append_cancel_left}
use Rattle.guest_words.specs.Names.{is_name}
use Rattle.guest_words.specs.declared.endings.Finish.{Finish}
use Rattle.guest_words.specs.declared.endings.Finish.TheVariants.{Exit, Fault, Budget, Deadlock, Deep, Schedule}
use Rattle.guest_words.specs.declared.endings.FaultKind.{FaultKind}
use Rattle.guest_words.specs.Endings.{kind_number}
use Rattle.profile_report.specs.declared.line.Line.{Line}
use Rattle.profile_report.specs.declared.line.Line.TheVariants.{First, End, Steps, Open, OfRoutine, OfPoint, Done}
use Rattle.profile_report.specs.Fits.{FitsEnd, FitsName}
use Rattle.profile_report.specs.Grammar.{FitsLine, line_text}
use Rattle.profile_report.specs.LineForms.{end_line, fault_words, first_line, hex_address, hex_glyph, name_word, routine_line}
use Rattle.profile_report.specs.Reading.{led, lines_text, Says}
use Rattle.profile_report.specs.Reported.{Reported}
use Rattle.profile_report.specs.ReportText.{report_text}
use Rattle.profile_report.specs.declared.report.ReportVersion.{ReportVersion}
use Rattle.profile_report.specs.declared.report.ReportVersion.TheVariants.{One, Two}
use Rattle.guest_words.specs.Separators.{lacks}
use Rattle.profile_report.specs.Valid.{IsValid}
use Rattle.profile_report.specs.declared.parse_state.ParseState.TheVariants.{AtVersion, Over}
use Rattle.profile_report.proofs.Behind.{lines_first, next_line, no_line, over_one}
use Rattle.guest_words.proofs.Cuts.{cut_once}
use Rattle.profile_report.proofs.Digits.{lacks_address}
use Rattle.profile_report.proofs.Digits.{by_digits}
use Rattle.guest_words.proofs.FaultKinds.{kind_same}
use Rattle.guest_words.proofs.Found.{same}
use Rattle.profile_report.proofs.Letters.{alike}
use Rattle.profile_report.proofs.Newlines.{kind_small, line_lacks}
use Rattle.profile_report.proofs.PointWords.{number_same, point_same, words_same}
use Rattle.profile_report.proofs.Written.{lines_of, lines_of-fit, lines_of-lead, lines_of-text}

-- the digit of a glyph in base 16
abbrev digit_of : ℕ → ℕ
digit_of glyph = cond (leb glyph 57) (glyph - 48) (glyph - 87)

digit_back : (d : ℕ) → d < 16 → digit_of (hex_glyph d) ≡ d
digit_back d below = eqb-true _ d (agree_below_at (λ n. eqb (digit_of (hex_glyph n)) n) (λ n. true) 16 d refl below)

abbrev digit : List ℕ → ℕ → ℕ
digit glyphs i = digit_of (get_or glyphs i 0)

-- the number of eight digits in base 16
abbrev value : List ℕ → ℕ
value glyphs =
    digit glyphs 0 * 0x1000_0000 + digit glyphs 1 * 0x100_0000 + digit glyphs 2 * 0x10_0000 + digit glyphs 3 * 0x1_0000
    + digit glyphs 4 * 0x1000 + digit glyphs 5 * 0x100 + digit glyphs 6 * 0x10 + digit glyphs 7

value_back : (at : ℕ) → at < 2 ^ 32 → value (hex_address at) ≡ at
unfolding hex_address
value_back at fits =
    let a = digit_back (at / 0x1000_0000 % 16) (omega arith) in
    let b = digit_back (at / 0x100_0000 % 16) (omega arith) in
    let c = digit_back (at / 0x10_0000 % 16) (omega arith) in
    let d = digit_back (at / 0x1_0000 % 16) (omega arith) in
    let e = digit_back (at / 0x1000 % 16) (omega arith) in
    let f = digit_back (at / 0x100 % 16) (omega arith) in
    let g = digit_back (at / 0x10 % 16) (omega arith) in
    let h = digit_back (at % 16) (omega arith) in
    omega (arith, a, b, c, d, e, f, g, h, by_digits at fits)

address_same : (a b : ℕ) → a < 2 ^ 32 → b < 2 ^ 32 → hex_address a ≡ hex_address b → a ≡ b
address_same a b fa fb is = sym (value_back a fa) ∙ ap value is ∙ value_back b fb

no_dash : (bytes : List ℕ) → is_name bytes ≡ true → codes "-" ≡ bytes → ⊥
no_dash bytes fits is = false≢true (subst (λ b. is_name b ≡ true) (sym is) fits)

name_same : (m n : Option (List ℕ)) → FitsName m → FitsName n → name_word m ≡ name_word n → m ≡ n
name_same None None fm fn is = refl
name_same None (Some n) fm fn is = absurd (no_dash n fn is)
name_same (Some m) None fm fn is = absurd (no_dash m fm (sym is))
name_same (Some m) (Some n) fm fn is = ap Some is

-- the form of an end, by two of its bytes
abbrev end_form : Finish → ℕ
end_form (Exit s) = 0
end_form (Fault k t a) = 1
end_form Budget = 2
end_form Deadlock = 3
end_form Deep = 4
end_form (Schedule l) = 5

abbrev end_form_of : List ℕ → ℕ
end_form_of xs =
    let x = get_or xs 4 0 in
    cond (eqb x 101) 0 (cond (eqb x 102) 1 (cond (eqb x 98) 2 (cond (eqb x 115) 5 (cond (eqb (get_or xs 6 0) 97) 3 4))))

end_form_is : (f : Finish) → end_form_of (end_line f) ≡ end_form f
end_form_is (Exit s) = refl
end_form_is _ = refl

abbrev End_of : ℕ → Finish → Type 0
End_of n f =
    MatchBool (eqb n 0) ((s : ℕ) × (f ≡ Exit s))
    (MatchBool (eqb n 1) ((k : FaultKind) × (t : ℕ) × (a : ℕ) × (f ≡ Fault k t a))
    (MatchBool (eqb n 2) (f ≡ Budget)
    (MatchBool (eqb n 3) (f ≡ Deadlock)
    (MatchBool (eqb n 4) (f ≡ Deep) ((l : ℕ) × (f ≡ Schedule l))))))

end_of : (f : Finish) → End_of (end_form f) f
end_of (Exit s) = (s, refl)
end_of (Fault k t a) = (k, t, a, refl)
end_of (Schedule l) = (l, refl)
end_of _ = refl

ends_alike : (f g : Finish) → end_line f ≡ end_line g → End_of (end_form f) g
ends_alike f g is = subst (λ n. End_of n g) (sym (end_form_is g) ∙ ap end_form_of (sym is) ∙ end_form_is f) (end_of g)

fault_parts : (k : FaultKind) (t a : ℕ) → fault_words k t a ≡ decimal (kind_number k) ++ 32 ∷ (decimal t ++ 32 ∷ hex_address a)
fault_parts k t a = simp append_assoc

fault_same : (k j : FaultKind) (t u a b : ℕ) → FitsEnd (Fault k t a) → FitsEnd (Fault j u b) → fault_words k t a ≡ fault_words j u b → Fault k t a ≡ Fault j u b
fault_same k j t u a b ff fg is =
    let kind = words_same (kind_number k) (kind_number j) _ _ (kind_small k) (kind_small j) (sym (fault_parts k t a) ∙ is ∙ fault_parts j u b) in
    let tid = words_same t u _ _ (omega (arith, ff.1)) (omega (arith, fg.1)) kind.1 in
    ap (λ x. Fault x t a) (kind_same k j kind.0) ∙ ap₂ (λ x y. Fault j x y) tid.0 (address_same a b ff.2 fg.2 tid.1)

finish_same : (f g : Finish) → FitsEnd f → FitsEnd g → end_line f ≡ end_line g → f ≡ g
finish_same (Exit s) g ff fg is =
    let e = ends_alike (Exit s) g is in
    let fits : e.0 < 2 ^ 8 = subst FitsEnd e.1 fg in
    ap Exit (number_same s e.0 (omega arith) (omega arith) (append_cancel_left (codes "end exit ") (decimal s) (decimal e.0) (is ∙ ap end_line e.1))) ∙ sym e.1
finish_same (Fault k t a) g ff fg is =
    let e = ends_alike (Fault k t a) g is in
    fault_same k e.0 t e.1 a e.2 ff (subst FitsEnd e.3 fg) (append_cancel_left (codes "end fault ") (fault_words k t a) (fault_words e.0 e.1 e.2) (is ∙ ap end_line e.3)) ∙ sym e.3
finish_same Budget g ff fg is = sym (ends_alike Budget g is)
finish_same Deadlock g ff fg is = sym (ends_alike Deadlock g is)
finish_same Deep g ff fg is = sym (ends_alike Deep g is)
finish_same (Schedule l) g ff fg is =
    let e = ends_alike (Schedule l) g is in
    let fits : FitsEnd (Schedule e.0) = subst FitsEnd e.1 fg in
    ap Schedule (number_same l e.0 (omega (arith, ff.1)) (omega (arith, fits.1)) (append_cancel_left (codes "end schedule ") (decimal l) (decimal e.0) (is ∙ ap end_line e.1))) ∙ sym e.1

pub routine_words : (at : ℕ) (k : Option (List ℕ)) → routine_line at k ≡ codes "routine " ++ (hex_address at ++ 32 ∷ name_word k)
routine_words at k = simp append_assoc

routine_same : (a b : ℕ) (m n : Option (List ℕ)) → FitsLine (OfRoutine a m) → FitsLine (OfRoutine b n) → routine_line a m ≡ routine_line b n → OfRoutine a m ≡ OfRoutine b n
routine_same a b m n fa fb is =
    let words = append_cancel_left (codes "routine ") _ _ (sym (routine_words a m) ∙ is ∙ routine_words b n) in
    let parts = cut_once 32 (hex_address a) (hex_address b) (name_word m) (name_word n) (lacks_address 32 a refl) (lacks_address 32 b refl) words in
    ap₂ OfRoutine (address_same a b fa.0 fb.0 parts.0) (name_same m n fa.1 fb.1 parts.1)

-- the version of a first line
abbrev version_at : ℕ → ReportVersion
version_at glyph = cond (eqb glyph 49) One Two

version_back : (v : ReportVersion) → version_at (get_or (first_line v) 6 0) ≡ v
version_back One = refl
version_back Two = refl

version_same : (v w : ReportVersion) → first_line v ≡ first_line w → v ≡ w
version_same v w is = sym (version_back v) ∙ ap (λ xs. version_at (get_or xs 6 0)) is ∙ version_back w

-- lines with one text say the same
pub line_same : (l k : Line) → FitsLine l → FitsLine k → line_text l ≡ line_text k → l ≡ k
line_same (First v) k fl fk is =
    let e = alike (First v) k fl fk is in
    ap First (version_same v e.0 (is ∙ ap line_text e.1)) ∙ sym e.1
line_same (End f) k fl fk is =
    let e = alike (End f) k fl fk is in
    ap End (finish_same f e.0 fl (subst FitsLine e.1 fk) (is ∙ ap line_text e.1)) ∙ sym e.1
line_same (Steps n) k fl fk is =
    let e = alike (Steps n) k fl fk is in
    let fits : e.0 < 2 ^ 64 = subst FitsLine e.1 fk in
    ap Steps (number_same n e.0 (omega arith) (omega arith) (append_cancel_left (codes "steps ") (decimal n) (decimal e.0) (is ∙ ap line_text e.1))) ∙ sym e.1
line_same (Open n) k fl fk is =
    let e = alike (Open n) k fl fk is in
    let fits : e.0 < 2 ^ 64 = subst FitsLine e.1 fk in
    ap Open (number_same n e.0 (omega arith) (omega arith) (append_cancel_left (codes "open ") (decimal n) (decimal e.0) (is ∙ ap line_text e.1))) ∙ sym e.1
line_same (OfRoutine entry name) k fl fk is =
    let e = alike (OfRoutine entry name) k fl fk is in
    routine_same entry e.0 name e.1 fl (subst FitsLine e.2 fk) (is ∙ ap line_text e.2) ∙ sym e.2
line_same (OfPoint p) k fl fk is =
    let e = alike (OfPoint p) k fl fk is in
    ap OfPoint (point_same p e.0 fl (subst FitsLine e.1 fk) (is ∙ ap line_text e.1)) ∙ sym e.1
line_same (Done n) k fl fk is =
    let e = alike (Done n) k fl fk is in
    let fits : e.0 < 2 ^ 64 = subst FitsLine e.1 fk in
    ap Done (number_same n e.0 (omega arith) (omega arith) (append_cancel_left (codes "done ") (decimal n) (decimal e.0) (is ∙ ap line_text e.1))) ∙ sym e.1

-- bytes that say a line say no other
pub says_one : (bytes : List ℕ) (l : Line) → FitsLine l → bytes ≡ line_text l → Says bytes l
says_one bytes l fits is = record { fits = fits; text = is; alone = λ k fk also. line_same k l fk fits (sym also ∙ is) }

lines_same : (ls ks : List Line) → AllByRecursion FitsLine ls → AllByRecursion FitsLine ks → lines_text ls ≡ lines_text ks → ls ≡ ks
lines_same [] ks fl fk is = sym (no_line ks (subst (λ t. lacks 10 t ≡ true) is refl))
lines_same (l ∷ ls) ks fl fk is =
    let next = next_line ks (line_text l) (lines_text ls) fk (line_lacks l fl.0) (sym is ∙ lines_first l ls) in
    let rest : AllByRecursion FitsLine next.1 = (subst (AllByRecursion FitsLine) next.2 fk).1 in
    ap₂ (λ k xs. k ∷ xs) (line_same l next.0 fl.0 next.3 next.4) (lines_same ls next.1 fl.1 rest next.5) ∙ sym next.2

-- reports with one text are one
pub report_same : (r s : Reported) → IsValid r → IsValid s → report_text r ≡ report_text s → r ≡ s
report_same r s vr vs is =
    let lines = lines_same (lines_of r) (lines_of s) (lines_of-fit r vr) (lines_of-fit s vs) (lines_of-text r ∙ is ∙ sym (lines_of-text s)) in
    over_one r s (same (led AtVersion (lines_of r)) (Over r) (Over s) (lines_of-lead r vr) (ap (led AtVersion) lines ∙ lines_of-lead s vs))

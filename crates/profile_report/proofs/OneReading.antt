-- A text has one refusal, and none where it is a report's, as far as there is memory.
use Rattle.std.proofs.Common.{◌≡◌, ◌≢◌, ◌⊎◌, ℕ, ◌+◌, ◌&&◌, true, false, List, [], ◌∷◌, ◌++◌, length, Some, inl, inr, refl, sym, ap, ap₂, ◌∙◌, subst, arith}
use Rattle.std.proofs.lemmas.Bool.{false≢true}
use Rattle.std.specs.List.{AllByRecursion}
use Rattle.std.proofs.lemmas.List.{append_assoc, append_cancel_left, length-append}
use Rattle.profile_report.specs.declared.line.Line.{Line}
use Rattle.profile_report.specs.declared.parse_state.ParseState.{ParseState}
use Rattle.profile_report.specs.declared.parse_state.ParseState.TheVariants.{AtVersion, Over}
use Rattle.profile_report.specs.declared.reader.ReportError.{ReportError}
use Rattle.profile_report.specs.declared.reader.ReportError.TheVariants as errors
use Rattle.profile_report.specs.Grammar.{FitsLine, line_text, may_stand, rises, next}
use Rattle.profile_report.specs.Reading.{led, lines_text, HasRefusedLine, IsReportRefused, RefusesLine, RefusesRest}
use Rattle.profile_report.specs.Reported.{Reported}
use Rattle.profile_report.specs.ReportText.{report_text}
use Rattle.profile_report.specs.Valid.{IsValid}
use Rattle.guest_words.specs.Separators.{lacks}
use Rattle.guest_words.proofs.Cuts.{cut_once, lacks_not}
use Rattle.guest_words.proofs.Found.{same}
use Rattle.profile_report.proofs.Behind.{allowed, allowed_rest, chosen, led_first, lines_first}
use Rattle.profile_report.proofs.Newlines.{line_lacks}
use Rattle.profile_report.proofs.OneText.{line_same}
use Rattle.profile_report.proofs.Written.{lines_of, lines_of-fit, lines_of-lead, lines_of-text}

-- what stands behind the lines that lead furthest is refused
abbrev Stops : ℕ → ParseState → List ℕ → ReportError → Type 0
Stops n state rest e = HasRefusedLine n state rest e ⊎ ((lacks 10 rest ≡ true) × RefusesRest n state rest e)

-- a whole line in front
first_line : (l : Line) (ls : List Line) (tail : List ℕ) → lines_text (l ∷ ls) ++ tail ≡ line_text l ++ 10 ∷ (lines_text ls ++ tail)
first_line l ls tail = ap (λ t. t ++ tail) (lines_first l ls) ∙ append_assoc (line_text l) (10 ∷ lines_text ls) tail

-- where a line follows that leads on, a reading stops only when out of memory
goes_on : (n : ℕ) (state : ParseState) (rest after : List ℕ) (l : Line) (e : ReportError) → FitsLine l → may_stand state l ≡ true → rises state l ≡ true
    → rest ≡ line_text l ++ 10 ∷ after → Stops n state rest e → e ≡ errors.Memory
goes_on n state rest after l e fits may rise on (inl (bytes, more, lack, is, why)) =
    let cut = cut_once 10 bytes (line_text l) more after lack (line_lacks l fits) (sym is ∙ on) in
    allowed n state bytes e l fits cut.0 may rise why
goes_on n state rest after l e fits may rise on (inr (lack, why)) =
    absurd (lacks_not 10 (line_text l) after (subst (λ t. lacks 10 t ≡ true) on lack))

-- the same, where lines lead on
leads_on : (n : ℕ) (p s q : ParseState) (rest after : List ℕ) (l : Line) (ls : List Line) (e : ReportError) → FitsLine l → led p [] ≡ Some s → led p (l ∷ ls) ≡ Some q
    → rest ≡ line_text l ++ 10 ∷ after → Stops n s rest e → e ≡ errors.Memory
leads_on n p s q rest after l ls e fits here lead on stops =
    let may = led_first p q l ls lead in
    goes_on n p rest after l e fits may.0 may.1 on (subst (λ k. Stops n k rest e) (sym (same (Some p) p s refl here)) stops)

-- the lines behind the first
tail_leads : (p q : ParseState) (l : Line) (ls : List Line) → led p (l ∷ ls) ≡ Some q → led (next p l) ls ≡ Some q
tail_leads p q l ls lead = (chosen (may_stand p l && rises p l) (led (next p l) ls) q lead).1

-- where the line is another by name
tail_leads_as : (p q : ParseState) (l k : Line) (ls : List Line) → l ≡ k → led p (k ∷ ls) ≡ Some q → led (next p l) ls ≡ Some q
tail_leads_as p q l k ls one lead = subst (λ m. led (next p m) ls ≡ Some q) (sym one) (tail_leads p q k ls lead)

-- two readings of a text that stop take the same lines
same_lines : (m n : ℕ) (p s q : ParseState) (ls ks : List Line) (rest more : List ℕ) (e f : ReportError) → AllByRecursion FitsLine ls → AllByRecursion FitsLine ks
    → led p ls ≡ Some s → led p ks ≡ Some q → lines_text ls ++ rest ≡ lines_text ks ++ more → Stops m s rest e → Stops n q more f
    → e ≢ errors.Memory → f ≢ errors.Memory → ls ≡ ks
same_lines m n p s q [] [] rest more e f fl fk ll lk is a b ne nf = refl
same_lines m n p s q [] (k ∷ ks) rest more e f fl fk ll lk is a b ne nf =
    absurd (ne (leads_on m p s q rest (lines_text ks ++ more) k ks e fk.0 ll lk (is ∙ first_line k ks more) a))
same_lines m n p s q (l ∷ ls) [] rest more e f fl fk ll lk is a b ne nf =
    absurd (nf (leads_on n p q s more (lines_text ls ++ rest) l ls f fl.0 lk ll (sym is ∙ first_line l ls rest) b))
same_lines m n p s q (l ∷ ls) (k ∷ ks) rest more e f fl fk ll lk is a b ne nf =
    let cut = cut_once 10 (line_text l) (line_text k) (lines_text ls ++ rest) (lines_text ks ++ more) (line_lacks l fl.0) (line_lacks k fk.0)
    (sym (first_line l ls rest) ∙ is ∙ first_line k ks more) in
    let one : l ≡ k = line_same l k fl.0 fk.0 cut.0 in
    let others : ls ≡ ks = same_lines m n (next p l) s q ls ks rest more e f fl.1 fk.1 (tail_leads p s l ls ll) (tail_leads_as p q l k ks one lk) cut.1 a b ne nf in
    ap₂ (λ x xs. x ∷ xs) one others

first_rises : (l : Line) → rises AtVersion l ≡ true
first_rises l = refl

one_line : (n : ℕ) (s : ParseState) (bytes : List ℕ) (e f : ReportError) → RefusesLine n s bytes e → RefusesLine n s bytes f
    → e ≢ errors.Memory → f ≢ errors.Memory → f ≡ e
one_line n s bytes errors.Short f a b ne nf = absurd a
one_line n s bytes errors.Memory f a b ne nf = absurd (ne refl)
one_line n s bytes e errors.Short a b ne nf = absurd b
one_line n s bytes e errors.Memory a b ne nf = absurd (nf refl)
one_line n s bytes errors.Version errors.Version a b ne nf = refl
one_line n s bytes errors.Version (errors.Line k) a b ne nf = absurd (b.1 a.0)
one_line n s bytes errors.Version (errors.Order k) a b ne nf =
    absurd (false≢true (sym (subst (λ p. rises p b.1.0 ≡ false) a.0 b.1.3) ∙ first_rises b.1.0))
one_line n s bytes (errors.Line m) errors.Version a b ne nf = absurd (a.1 b.0)
one_line n s bytes (errors.Line m) (errors.Line k) a b ne nf = ap errors.Line (b.0 ∙ sym a.0)
one_line n s bytes (errors.Line m) (errors.Order k) a b ne nf = absurd (false≢true (sym (a.2 b.1.0 b.1.1.fits b.1.1.text) ∙ b.1.2))
one_line n s bytes (errors.Order m) errors.Version a b ne nf =
    absurd (false≢true (sym (subst (λ p. rises p a.1.0 ≡ false) b.0 a.1.3) ∙ first_rises a.1.0))
one_line n s bytes (errors.Order m) (errors.Line k) a b ne nf = absurd (false≢true (sym (b.2 a.1.0 a.1.1.fits a.1.1.text) ∙ a.1.2))
one_line n s bytes (errors.Order m) (errors.Order k) a b ne nf = ap errors.Order (b.0 ∙ sym a.0)

one_rest : (n : ℕ) (s : ParseState) (rest : List ℕ) (e f : ReportError) → RefusesRest n s rest e → RefusesRest n s rest f → f ≡ e
one_rest n s rest errors.Short errors.Short a b = refl
one_rest n s rest errors.Short (errors.Line k) a b = absurd (false≢true (sym a ∙ b.1))
one_rest n s rest (errors.Line m) errors.Short a b = absurd (false≢true (sym b ∙ a.1))
one_rest n s rest (errors.Line m) (errors.Line k) a b = ap errors.Line (b.0 ∙ sym a.0)
one_rest n s rest errors.Version f a b = absurd a
one_rest n s rest (errors.Order m) f a b = absurd a
one_rest n s rest errors.Memory f a b = absurd a
one_rest n s rest e errors.Version a b = absurd b
one_rest n s rest e (errors.Order k) a b = absurd b
one_rest n s rest e errors.Memory a b = absurd b

one_stop : (n : ℕ) (s : ParseState) (rest : List ℕ) (e f : ReportError) → Stops n s rest e → Stops n s rest f → e ≢ errors.Memory → f ≢ errors.Memory → f ≡ e
one_stop n s rest e f (inl (bytes, more, lack, is, why)) (inl (others, left, lacks_too, also, because)) ne nf =
    let cut = cut_once 10 others bytes left more lacks_too lack (sym also ∙ is) in
    one_line n s bytes e f why (subst (λ t. RefusesLine n s t f) cut.0 because) ne nf
one_stop n s rest e f (inl (bytes, more, lack, is, why)) (inr (none, because)) ne nf = absurd (lacks_not 10 bytes more (subst (λ t. lacks 10 t ≡ true) is none))
one_stop n s rest e f (inr (none, why)) (inl (bytes, more, lack, is, because)) ne nf = absurd (lacks_not 10 bytes more (subst (λ t. lacks 10 t ≡ true) is none))
one_stop n s rest e f (inr (none, why)) (inr (nor, because)) ne nf = one_rest n s rest e f why because

pub one_refusal : (text : List ℕ) (e f : ReportError) → IsReportRefused text e → IsReportRefused text f → e ≢ errors.Memory → f ≢ errors.Memory → f ≡ e
one_refusal text e f (m, s, rest, r, a) (n, q, more, o, b) ne nf =
    let lines : r.lines ≡ o.lines = same_lines (m + 1) (n + 1) AtVersion s q r.lines o.lines rest more e f r.fit o.fit r.lead o.lead (sym r.whole ∙ o.whole) a b ne nf in
    let states : q ≡ s = same (led AtVersion o.lines) q s o.lead (ap (led AtVersion) (sym lines) ∙ r.lead) in
    let counts : n ≡ m = sym o.many ∙ ap length (sym lines) ∙ r.many in
    let rests : more ≡ rest = append_cancel_left (lines_text r.lines) more rest (ap (λ ls. lines_text ls ++ more) lines ∙ sym o.whole ∙ r.whole) in
    one_stop (m + 1) s rest e f a (subst (λ k. Stops (k + 1) s rest f) counts (subst (λ k. Stops (n + 1) k rest f) states (subst (λ t. Stops (n + 1) q t f) rests b))) ne nf

-- a reading of a report's text stops only when out of memory
never_stops : (n : ℕ) (p s : ParseState) (ls ks : List Line) (rest : List ℕ) (r : Reported) (e : ReportError) → AllByRecursion FitsLine ls → AllByRecursion FitsLine ks
    → led p ls ≡ Some s → led p ks ≡ Some (Over r) → lines_text ls ++ rest ≡ lines_text ks → Stops n s rest e → e ≡ errors.Memory
never_stops n p s [] [] rest r e fl fk ll lk is (inl (bytes, more, lack, begins, why)) = absurd (omega (arith, ap length (sym begins ∙ is), length-append bytes (10 ∷ more)))
never_stops n p s [] [] rest r e fl fk ll lk is (inr (lack, why)) =
    allowed_rest n s rest e r (same (led p []) s (Over r) ll lk) is why
never_stops n p s [] (k ∷ ks) rest r e fl fk ll lk is stops = leads_on n p s (Over r) rest (lines_text ks) k ks e fk.0 ll lk (is ∙ lines_first k ks) stops
never_stops n p s (l ∷ ls) [] rest r e fl fk ll lk is stops =
    absurd (omega (arith, ap length (sym (first_line l ls rest) ∙ is), length-append (line_text l) (10 ∷ (lines_text ls ++ rest))))
never_stops n p s (l ∷ ls) (k ∷ ks) rest r e fl fk ll lk is stops =
    let cut = cut_once 10 (line_text l) (line_text k) (lines_text ls ++ rest) (lines_text ks) (line_lacks l fl.0) (line_lacks k fk.0)
    (sym (first_line l ls rest) ∙ is ∙ lines_first k ks) in
    let one : l ≡ k = line_same l k fl.0 fk.0 cut.0 in
    never_stops n (next p l) s ls ks rest r e fl.1 fk.1 (tail_leads p s l ls ll) (tail_leads_as p (Over r) l k ks one lk) cut.1 stops

pub never_refused : (text : List ℕ) (r : Reported) (e : ReportError) → IsValid r → text ≡ report_text r → IsReportRefused text e → e ≡ errors.Memory
never_refused text r e valid is (m, s, rest, o, stops) =
    never_stops (m + 1) AtVersion s o.lines (lines_of r) rest r e o.fit (lines_of-fit r valid) o.lead (lines_of-lead r valid) (sym o.whole ∙ is ∙ sym (lines_of-text r)) stops

-- What holds behind the lines that a reading has taken.
use Rattle.std.proofs.Common.{◌≡◌, ℕ, ◌+◌, ◌&&◌, Bool, true, false, cond, List, [], ◌∷◌, ◌++◌, length, Option, Some, None, inl, refl, sym, ap, ◌∙◌, subst, arith}
use Rattle.std.specs.List.{AllByRecursion}
use Rattle.std.proofs.lemmas.Bool.{and_from, and_parts, cond-true, false≢true}
use Rattle.std.proofs.lemmas.List.{append_assoc, append-nil, length-append, length_push}
use Rattle.std.proofs.lemmas.List.Concat.{flat_map-append}
use Rattle.profile_report.specs.declared.line.Line.{Line}
use Rattle.profile_report.specs.declared.line.Line.TheVariants.{First}
use Rattle.profile_report.specs.declared.parse_state.ParseState.{ParseState}
use Rattle.profile_report.specs.declared.parse_state.ParseState.TheVariants.{AtVersion, Over}
use Rattle.profile_report.specs.Grammar.{FitsLine, line_text, may_stand, rises, next}
use Rattle.profile_report.specs.LineForms.{ended}
use Rattle.profile_report.specs.Reading.{led, lines_text, is_over, IsReportRefused, RefusesLine, RefusesRest}
use Rattle.profile_report.specs.Private.Lines.{Leads}
use Rattle.profile_report.specs.Reported.{Reported}
use Rattle.profile_report.specs.declared.report.ReportVersion.{ReportVersion}
use Rattle.profile_report.specs.declared.reader.ReportError.{ReportError}
use Rattle.profile_report.specs.declared.reader.ReportError.TheVariants as errors
use Rattle.guest_words.specs.Separators.{lacks}
use Rattle.guest_words.proofs.Cuts.{cut_once, lacks_not}
use Rattle.guest_words.proofs.Found.{nothing, same}
use Rattle.profile_report.proofs.Newlines.{line_lacks}

-- Lines are read that lead to the state, and any lines that make up the text begin with them.
pub record Behind (text : List ℕ) (number : ℕ) (state : ParseState) (rest : List ℕ) : Type 0 where
  pub lines : List Line
  pub fit : AllByRecursion FitsLine lines
  pub many : length lines + 1 ≡ number
  pub whole : text ≡ lines_text lines ++ rest
  pub lead : led AtVersion lines ≡ Some state
  pub follow : (all : List Line) → AllByRecursion FitsLine all → text ≡ lines_text all → (more : List Line) × (all ≡ lines ++ more) × (rest ≡ lines_text more)

fit_later : (xs ys : List Line) → AllByRecursion FitsLine (xs ++ ys) → AllByRecursion FitsLine ys
fit_later [] ys h = h
fit_later (x ∷ xs) ys h = fit_later xs ys h.1

fit_push : (xs : List Line) (y : Line) → AllByRecursion FitsLine xs → FitsLine y → AllByRecursion FitsLine (xs ++ y ∷ [])
fit_push [] y h fits = (fits, tt)
fit_push (x ∷ xs) y h fits = (h.0, fit_push xs y h.1 fits)

pub chosen : (b : Bool) (o : Option ParseState) (q : ParseState) → cond b o None ≡ Some q → (b ≡ true) × (o ≡ Some q)
chosen true o q h = (refl, h)
chosen false o q h = absurd (nothing None q refl h)

-- lines that lead to a state, and then more
pub led_append : (p q : ParseState) (xs ys : List Line) → led p xs ≡ Some q → led p (xs ++ ys) ≡ led q ys
led_append p q [] ys h = ap (λ r. led r ys) (same (Some p) p q refl h)
led_append p q (x ∷ xs) ys h =
    let on = chosen (may_stand p x && rises p x) (led (next p x) xs) q h in
    cond-true (may_stand p x && rises p x) (led (next p x) (xs ++ ys)) None on.0 ∙ led_append (next p x) q xs ys on.1

-- the first of lines that lead somewhere may stand there
pub led_first : (p q : ParseState) (x : Line) (xs : List Line) → led p (x ∷ xs) ≡ Some q → (may_stand p x ≡ true) × (rises p x ≡ true)
led_first p q x xs h = and_parts (may_stand p x) (rises p x) (chosen (may_stand p x && rises p x) (led (next p x) xs) q h).0

-- the text of lines begins with the first
pub lines_first : (l : Line) (ls : List Line) → lines_text (l ∷ ls) ≡ line_text l ++ 10 ∷ lines_text ls
lines_first l ls = append_assoc (line_text l) (10 ∷ []) (lines_text ls)

push_text : (ls : List Line) (l : Line) (after : List ℕ) → lines_text ls ++ (line_text l ++ 10 ∷ after) ≡ lines_text (ls ++ l ∷ []) ++ after
push_text ls l after =
    let text = λ (k : Line). ended (line_text k) in
    sym (ap (λ t. t ++ after) (flat_map-append text ls (l ∷ [])) ∙ simp (append_assoc, append-nil))

-- lines that begin with a whole line
pub next_line : (more : List Line) (bytes after : List ℕ) → AllByRecursion FitsLine more → lacks 10 bytes ≡ true → lines_text more ≡ bytes ++ 10 ∷ after
    → (l : Line) × (ls : List Line) × (more ≡ l ∷ ls) × FitsLine l × (bytes ≡ line_text l) × (after ≡ lines_text ls)
next_line [] bytes after fit lack is = absurd (omega (arith, ap length is, length-append bytes (10 ∷ after)))
next_line (l ∷ ls) bytes after fit lack is =
    let cut = cut_once 10 bytes (line_text l) after (lines_text ls) lack (line_lacks l fit.0) (sym is ∙ lines_first l ls) in
    (l, ls, refl, fit.0, cut.0, cut.1)

-- lines whose text has no whole line
pub no_line : (more : List Line) → lacks 10 (lines_text more) ≡ true → more ≡ []
no_line [] h = refl
no_line (l ∷ ls) h = absurd (lacks_not 10 (line_text l) (lines_text ls) (subst (λ t. lacks 10 t ≡ true) (lines_first l ls) h))

-- one more line is read
pub behind_more : (text : List ℕ) (number : ℕ) (state : ParseState) (rest bytes after : List ℕ) (p : ParseState) → Behind text number state rest
    → lacks 10 bytes ≡ true → rest ≡ bytes ++ 10 ∷ after → Leads state bytes p → Behind text (number + 1) p after
behind_more text number state rest bytes after p b lack is l =
    let line = l.0 in
    let says = l.1 in
    record {
      lines = b.lines ++ line ∷ [];
      fit = fit_push b.lines line b.fit says.fits;
      many = omega (arith, length_push b.lines line, b.many);
      whole = b.whole ∙ ap (λ r. lines_text b.lines ++ r) (is ∙ ap (λ t. t ++ 10 ∷ after) says.text) ∙ push_text b.lines line after;
      lead = led_append AtVersion state b.lines (line ∷ []) b.lead ∙ cond-true _ (Some (next state line)) None (and_from _ _ l.2 l.3) ∙ ap Some (sym l.4);
      follow = λ all fit whole.
          let m = b.follow all fit whole in
          let found = next_line m.0 bytes after (fit_later b.lines m.0 (subst (AllByRecursion FitsLine) m.1 fit)) lack (sym m.2 ∙ is) in
          let one : found.0 ≡ line = says.alone found.0 found.3 found.4 in
          (found.1, m.1 ∙ ap (λ ls. b.lines ++ ls) (found.2 ∙ ap (λ k. k ∷ found.1) one) ∙ sym (append_assoc b.lines (line ∷ []) found.1), found.5);
    }

-- Where no whole line is left, any lines that make up the text are those that were read.
pub behind_all : (text : List ℕ) (number : ℕ) (state : ParseState) (rest : List ℕ) (b : Behind text number state rest) (all : List Line) (end : ParseState) → AllByRecursion FitsLine all → text ≡ lines_text all
    → led AtVersion all ≡ Some end → lacks 10 rest ≡ true → (state ≡ end) × (rest ≡ [])
behind_all text number state rest b all end fit whole lead lack =
    let m = b.follow all fit whole in
    let none = no_line m.0 (subst (λ t. lacks 10 t ≡ true) m.2 lack) in
    let same_lines : all ≡ b.lines = m.1 ∙ ap (λ ls. b.lines ++ ls) none ∙ append-nil b.lines in
    (same (led AtVersion b.lines) state end b.lead (ap (led AtVersion) (sym same_lines) ∙ lead), m.2 ∙ ap lines_text none)

-- Where a whole line is left, any lines that make up the text and lead somewhere go on with one that may stand there.
pub behind_next : (text : List ℕ) (number : ℕ) (state : ParseState) (rest bytes after : List ℕ) (b : Behind text number state rest) (all : List Line) (end : ParseState) → AllByRecursion FitsLine all → text ≡ lines_text all
    → led AtVersion all ≡ Some end → lacks 10 bytes ≡ true → rest ≡ bytes ++ 10 ∷ after
    → (l : Line) × FitsLine l × (bytes ≡ line_text l) × (may_stand state l ≡ true) × (rises state l ≡ true)
behind_next text number state rest bytes after b all end fit whole lead lack is =
    let m = b.follow all fit whole in
    let found = next_line m.0 bytes after (fit_later b.lines m.0 (subst (AllByRecursion FitsLine) m.1 fit)) lack (sym m.2 ∙ is) in
    let onward = sym (led_append AtVersion state b.lines m.0 b.lead) ∙ ap (led AtVersion) (sym m.1) ∙ lead in
    let may = led_first state end found.0 found.1 (ap (led state) (sym found.2) ∙ onward) in
    (found.0, found.3, found.4, may.0, may.1)

-- the refusal of a line, and of a rest that has none
pub refused_line : (text : List ℕ) (number : ℕ) (state : ParseState) (rest bytes after : List ℕ) (e : ReportError) (b : Behind text number state rest) → lacks 10 bytes ≡ true → rest ≡ bytes ++ 10 ∷ after
    → RefusesLine number state bytes e → IsReportRefused text e
refused_line text number state rest bytes after e b lack is why = (
  length b.lines,
  state,
  rest,
  record { lines = b.lines; fit = b.fit; many = refl; whole = b.whole; lead = b.lead },
  inl (bytes, after, lack, is, subst (λ n. RefusesLine n state bytes e) (sym b.many) why),
)

-- A line that may stand where it stands is refused only when out of memory.
pub allowed : (number : ℕ) (state : ParseState) (bytes : List ℕ) (e : ReportError) (l : Line) → FitsLine l → bytes ≡ line_text l → may_stand state l ≡ true → rises state l ≡ true
    → RefusesLine number state bytes e → e ≡ errors.Memory
allowed number state bytes errors.Version l fits text may rise why =
    let version = first l (subst (λ p. may_stand p l ≡ true) why.0 may) in
    absurd (why.1 version.0 (text ∙ ap line_text version.1))
  where
    first : (k : Line) → may_stand AtVersion k ≡ true → (v : ReportVersion) × (k ≡ First v)
    first (First v) h = (v, refl)
    first k h = absurd (false≢true h)
allowed number state bytes (errors.Line n) l fits text may rise why = absurd (false≢true (sym (why.2 l fits text) ∙ may))
allowed number state bytes (errors.Order n) l fits text may rise why =
    let one : l ≡ why.1.0 = why.1.1.alone l fits text in
    absurd (false≢true (sym why.1.3 ∙ ap (rises state) (sym one) ∙ rise))
allowed number state bytes errors.Short l fits text may rise why = absurd why
allowed number state bytes errors.Memory l fits text may rise why = refl

-- A report that is over is refused only when out of memory.
pub allowed_rest : (number : ℕ) (state : ParseState) (rest : List ℕ) (e : ReportError) (r : Reported) → state ≡ Over r → rest ≡ [] → RefusesRest number state rest e → e ≡ errors.Memory
allowed_rest number state rest (errors.Line n) r over none why = absurd (why.2 none)
allowed_rest number state rest errors.Short r over none why = absurd (false≢true (sym why ∙ ap is_over over))
allowed_rest number state rest _ r over none why = absurd why

-- a report that is over is one
pub over_one : (q r : Reported) → Over q ≡ Over r → q ≡ r
over_one q r e = cc

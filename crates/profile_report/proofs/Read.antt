-- What lines that lead to the end of a report say.
use Rattle.std.proofs.Common.{◌≡◌, ℕ, ◌+◌, ◌-◌, ◌<◌, ◌^◌, ◌&&◌, true, eqb, ltb, List, [], ◌∷◌, ◌++◌, length, map, get_or, Option, Some, None, refl, sym, ap, ◌∙◌, subst, arith}
use Rattle.std.specs.List.{AllByRecursion, flat_map}
use Rattle.std.proofs.lemmas.Bool.{and_parts, eqb-true, false≢true, ltb-true}
use Rattle.std.proofs.lemmas.List.{append_assoc, append-nil, length_push, map_push, get_or_push}
use Rattle.std.proofs.lemmas.List.Concat.{flat_map-append}
use Rattle.cost_points.specs.declared.point.Point.{Point}
use Rattle.cost_points.specs.Keys.{IsRising}
use Rattle.profile_report.specs.declared.line.Line.{Line}
use Rattle.profile_report.specs.declared.line.Line.TheVariants.{First, End, Steps, Open, OfRoutine, OfPoint, Done}
use Rattle.profile_report.specs.declared.parse_state.ParseState.{ParseState}
use Rattle.profile_report.specs.declared.parse_state.ParseState.TheVariants.{AtVersion, AtEnd, AtSteps, AtOpen, AtRoutines, Over}
use Rattle.profile_report.specs.Fits.{FitsEnd, FitsName, FitsPoint, is_of_version}
use Rattle.profile_report.specs.Grammar.{FitsLine, line_text, closed, has_points, is_above, last_entry, may_stand, rises, next}
use Rattle.profile_report.specs.LineForms.{ended, point_line, routine_line}
use Rattle.profile_report.specs.Reading.{led, lines_text}
use Rattle.profile_report.specs.Reported.{Reported, ReportedRoutine}
use Rattle.profile_report.specs.ReportText.{report_text, routine_text}
use Rattle.profile_report.specs.Valid.{IsValid, IsValidRoutine}
use Rattle.profile_report.proofs.Behind.{Behind, chosen}
use Rattle.guest_words.proofs.Found.{same}
use Rattle.profile_report.proofs.Rising.{above_last, rising_more}

abbrev text : Line → List ℕ
text l = ended (line_text l)

-- the lines before the routines
abbrev head_text : Reported → List ℕ
head_text r = text (First r.version) ++ text (End r.finish) ++ text (Steps r.steps) ++ text (Open r.pending)

-- the text that leads to a state
abbrev written : ParseState → List ℕ
written AtVersion = []
written (AtEnd v) = text (First v)
written (AtSteps v f) = text (First v) ++ text (End f)
written (AtOpen v f n) = text (First v) ++ text (End f) ++ text (Steps n)
written (AtRoutines q begun) = head_text q ++ flat_map routine_text (closed q begun).routines
written (Over r) = report_text r

-- the routine that began last
abbrev FitsBegun : Reported → Option ReportedRoutine → Type 0
FitsBegun q None = q.routines ≡ []
FitsBegun q (Some r) = (r.entry < 2 ^ 32) × FitsName r.name × IsRising (map (λ p. p.size) r.points) × AllByRecursion FitsPoint r.points × AllByRecursion (λ p. is_of_version q.version p ≡ true) r.points

record FitsSoFar (q : Reported) (begun : Option ReportedRoutine) : Type 0 where
  finish : FitsEnd q.finish
  steps : q.steps < 2 ^ 64
  pending : q.pending < 2 ^ 64
  entries : IsRising (map (λ r. r.entry) (closed q begun).routines)
  routines : AllByRecursion (IsValidRoutine q.version) q.routines
  last : FitsBegun q begun

-- what holds in a state
abbrev Fits : ParseState → Type 0
Fits AtVersion = Unit {0}
Fits (AtEnd v) = Unit {0}
Fits (AtSteps v f) = FitsEnd f
Fits (AtOpen v f n) = FitsEnd f × (n < 2 ^ 64)
Fits (AtRoutines q begun) = FitsSoFar q begun
Fits (Over r) = IsValid r

abbrev Onward : ParseState → Line → Type 0
Onward p l = Fits (next p l) × (written (next p l) ≡ written p ++ text l)

none_rise : IsRising []
none_rise i j below inside = absurd (omega arith)

one_rises : (x : ℕ) → IsRising (x ∷ [])
one_rises x i j below inside = absurd (omega arith)

-- one more member that fits
fit_push : {A : Type 0} (P : A → Type 0) (xs : List A) (x : A) → AllByRecursion P xs → P x → AllByRecursion P (xs ++ x ∷ [])
fit_push P [] x h f = (f, tt)
fit_push P (y ∷ xs) x h f = (h.0, fit_push P xs x h.1 f)

-- the routines that are whole are valid
all_valid : (q : Reported) (begun : Option ReportedRoutine) → FitsSoFar q begun → has_points begun ≡ true → AllByRecursion (IsValidRoutine q.version) (closed q begun).routines
all_valid q None h full = h.routines
all_valid q (Some r) h full =
    fit_push (IsValidRoutine q.version) q.routines r h.routines
    (record { entry = h.last.0; name = h.last.1; some = ltb-true 0 (length r.points) full; sizes = h.last.2; points = h.last.3; version = h.last.4 })

-- one more entry
entries_more : (q : Reported) (begun : Option ReportedRoutine) (r : ReportedRoutine) → FitsSoFar q begun → is_above (last_entry begun) r.entry ≡ true → IsRising (map (λ (r : ReportedRoutine). r.entry) ((closed q begun).routines ++ r ∷ []))
entries_more q None r h above = subst (λ rs. IsRising (map (λ (r : ReportedRoutine). r.entry) (rs ++ r ∷ []))) (sym h.last) (one_rises r.entry)
entries_more q (Some b) r h above =
    let entry = λ (r : ReportedRoutine). r.entry in
    let keys = map entry (q.routines ++ b ∷ []) in
    let last : get_or keys (length keys - 1) 0 ≡ b.entry = rw (map_push entry q.routines b) (get_or_push (map entry q.routines) b.entry 0 _ (omega (arith, length_push (map entry q.routines) b.entry))) in
    subst IsRising (sym (map_push entry (q.routines ++ b ∷ []) r)) (rising_more keys r.entry h.entries (λ some. omega (arith, ltb-true b.entry r.entry above)))

begun : (h f l : List ℕ) → h ++ (f ++ (l ++ [] ++ [])) ≡ h ++ f ++ l
begun h f l = simp (append_assoc, append-nil)

longer : (h f l a b : List ℕ) → h ++ (f ++ (l ++ (a ++ (b ++ [])) ++ [])) ≡ h ++ (f ++ (l ++ a ++ [])) ++ b
longer h f l a b = simp (append_assoc, append-nil)

-- the text with one more routine, and with one more point
routine_more : (head : List ℕ) (rs : List ReportedRoutine) (entry : ℕ) (name : Option (List ℕ)) → head ++ flat_map routine_text (rs ++ record { entry = entry; name = name; points = [] } ∷ []) ≡ head ++ flat_map routine_text rs ++ ended (routine_line entry name)
routine_more head rs entry name = ap (λ t. head ++ t) (flat_map-append routine_text rs _) ∙ begun head (flat_map routine_text rs) (ended (routine_line entry name))

point_more : (head : List ℕ) (rs : List ReportedRoutine) (r : ReportedRoutine) (p : Point) → head ++ flat_map routine_text (rs ++ record r { points = r.points ++ p ∷ [] } ∷ []) ≡ head ++ flat_map routine_text (rs ++ r ∷ []) ++ ended (point_line p)
point_more head rs r p =
    let line = λ (q : Point). ended (point_line q) in
    let before = flat_map routine_text rs in
    let first = ended (routine_line r.entry r.name) in
    ap (λ t. head ++ t) (flat_map-append routine_text rs _)
    ∙ ap (λ t. head ++ (before ++ (first ++ t ++ []))) (flat_map-append line r.points (p ∷ []))
    ∙ longer head before first (flat_map line r.points) (line p)
    ∙ ap (λ t. head ++ t ++ line p) (sym (flat_map-append routine_text rs (r ∷ [])))

onward : (p : ParseState) (l : Line) → Fits p → FitsLine l → may_stand p l ≡ true → rises p l ≡ true → Onward p l
onward AtVersion (First v) h fits may rise = (tt, refl)
onward (AtEnd v) (End f) h fits may rise = (fits, refl)
onward (AtSteps v f) (Steps n) h fits may rise = ((h, fits), refl)
onward (AtOpen v f n) (Open m) h fits may rise = (record { finish = h.0; steps = h.1; pending = fits; entries = none_rise; routines = tt; last = refl }, append-nil (head_text (record { version = v; finish = f; steps = n; pending = m; routines = [] })))
onward (AtRoutines q None) (OfRoutine entry name) h fits may rise = (
  record {
    finish = h.finish;
    steps = h.steps;
    pending = h.pending;
    entries = entries_more q None (record { entry = entry; name = name; points = [] }) h rise;
    routines = all_valid q None h may;
    last = (fits.0, fits.1, none_rise, tt, tt);
  },
  routine_more (head_text q) q.routines entry name,
)
onward (AtRoutines q (Some r)) (OfRoutine entry name) h fits may rise = (
  record {
    finish = h.finish;
    steps = h.steps;
    pending = h.pending;
    entries = entries_more q (Some r) (record { entry = entry; name = name; points = [] }) h rise;
    routines = all_valid q (Some r) h may;
    last = (fits.0, fits.1, none_rise, tt, tt);
  },
  routine_more (head_text q) (q.routines ++ r ∷ []) entry name,
)
onward (AtRoutines q (Some r)) (OfPoint p) h fits may rise =
    let entry = λ (k : ReportedRoutine). k.entry in
    let size = λ (k : Point). k.size in
    let more : ReportedRoutine = record r { points = r.points ++ p ∷ [] } in (
      record {
        finish = h.finish;
        steps = h.steps;
        pending = h.pending;
        entries = subst IsRising (map_push entry q.routines r ∙ sym (map_push entry q.routines more)) h.entries;
        routines = h.routines;
        last = (h.last.0, h.last.1, subst IsRising (sym (map_push size r.points p)) (rising_more (map size r.points) p.size h.last.2 (above_last r.points p.size rise)), fit_push FitsPoint r.points p h.last.3 fits, fit_push (λ p. is_of_version q.version p ≡ true) r.points p h.last.4 may);
      },
      point_more (head_text q) q.routines r p,
    )
onward (AtRoutines q None) (Done n) h fits may rise =
    let parts = and_parts true (eqb n (length q.routines)) may in (
      record { finish = h.finish; steps = h.steps; pending = h.pending; entries = h.entries; routines = all_valid q None h refl },
      ap (λ k. head_text q ++ flat_map routine_text q.routines ++ text (Done k)) (sym (eqb-true n (length q.routines) parts.1)),
    )
onward (AtRoutines q (Some r)) (Done n) h fits may rise =
    let parts = and_parts (ltb 0 (length r.points)) (eqb n (length q.routines + 1)) may in (
      record { finish = h.finish; steps = h.steps; pending = h.pending; entries = h.entries; routines = all_valid q (Some r) h parts.0 },
      ap (λ k. head_text q ++ flat_map routine_text (q.routines ++ r ∷ []) ++ text (Done k)) (length_push q.routines r ∙ sym (eqb-true n (length q.routines + 1) parts.1)),
    )
onward p l h fits may rise = absurd (false≢true may)

-- Lines that lead to the end of a report are its text, and the report is valid.
leads_valid : (p : ParseState) (ls : List Line) (r : Reported) → Fits p → AllByRecursion FitsLine ls → led p ls ≡ Some (Over r) → IsValid r × (written p ++ lines_text ls ≡ report_text r)
leads_valid p [] r h fit lead =
    let end : p ≡ Over r = same (Some p) p (Over r) refl lead in
    (subst Fits end h, append-nil (written p) ∙ ap written end)
leads_valid p (l ∷ ls) r h fit lead =
    let on = chosen (may_stand p l && rises p l) (led (next p l) ls) (Over r) lead in
    let parts = and_parts (may_stand p l) (rises p l) on.0 in
    let o = onward p l h fit.0 parts.0 parts.1 in
    let rest = leads_valid (next p l) ls r o.0 fit.1 on.1 in
    (rest.0, sym (append_assoc (written p) (text l) (lines_text ls)) ∙ ap (λ t. t ++ lines_text ls) (sym o.1) ∙ rest.1)

-- A text that is read to the end of a report is its text.
pub read_found : (all : List ℕ) (number : ℕ) (state : ParseState) (rest : List ℕ) → Behind all number state rest → (r : Reported) → state ≡ Over r → rest ≡ [] → IsValid r × (all ≡ report_text r)
read_found all number state rest b r over none =
    let law = leads_valid AtVersion b.lines r tt b.fit (b.lead ∙ ap Some over) in
    (law.0, b.whole ∙ ap (λ t. lines_text b.lines ++ t) none ∙ append-nil (lines_text b.lines) ∙ law.1)

-- The lines of a valid report.
use Rattle.std.proofs.Common.{◌≡◌, ℕ, zero, suc, ◌+◌, ◌<◌, ◌≤◌, ◌^◌, true, List, [], ◌∷◌, ◌++◌, length, map, get_or, Option, Some, None, refl, sym, ap, ◌∙◌, subst, arith}
use Rattle.std.specs.Option.{option_map}
use Rattle.std.specs.List.{AllByRecursion, flat_map}
use Rattle.std.proofs.lemmas.Bool.{and_from, cond-true, eq-eqb, lt-ltb}
use Rattle.std.proofs.lemmas.List.{append_assoc, append-nil, length_push, length-map}
use Rattle.std.proofs.lemmas.List.Concat.{flat_map-append}
use Rattle.cost_points.specs.declared.point.Point.{Point}
use Rattle.profile_report.specs.declared.line.Line.{Line}
use Rattle.profile_report.specs.declared.line.Line.TheVariants.{First, End, Steps, Open, OfRoutine, OfPoint, Done}
use Rattle.profile_report.specs.declared.parse_state.ParseState.TheVariants.{AtVersion, AtRoutines, Over}
use Rattle.profile_report.specs.Fits.{FitsPoint, is_of_version}
use Rattle.profile_report.specs.Grammar.{FitsLine, line_text, closed, count_of, has_points, last_entry, last_size}
use Rattle.profile_report.specs.LineForms.{ended, point_line, routine_line}
use Rattle.profile_report.specs.Reading.{led, lines_text}
use Rattle.profile_report.specs.Reported.{Reported, ReportedRoutine}
use Rattle.profile_report.specs.declared.report.ReportVersion.{ReportVersion}
use Rattle.profile_report.specs.ReportText.{report_text, routine_text}
use Rattle.profile_report.specs.Valid.{IsValid, IsValidRoutine}
use Rattle.profile_report.proofs.Rising.{Chain, chain, last_pushed, rising_place}

abbrev point_lines : List Point → List Line
point_lines ps = map (λ p. OfPoint p) ps

abbrev routine_lines : ReportedRoutine → List Line
routine_lines r = OfRoutine r.entry r.name ∷ point_lines r.points

-- the lines of a report
abbrev pub lines_of : Reported → List Line
lines_of r = First r.version ∷ End r.finish ∷ Steps r.steps ∷ Open r.pending ∷ (flat_map routine_lines r.routines ++ Done (length r.routines) ∷ [])

fit_append : (xs ys : List Line) → AllByRecursion FitsLine xs → AllByRecursion FitsLine ys → AllByRecursion FitsLine (xs ++ ys)
fit_append [] ys hx hy = hy
fit_append (x ∷ xs) ys hx hy = (hx.0, fit_append xs ys hx.1 hy)

points_fit : (ps : List Point) → AllByRecursion FitsPoint ps → AllByRecursion FitsLine (point_lines ps)
points_fit [] h = tt
points_fit (p ∷ ps) h = (h.0, points_fit ps h.1)

routines_fit : (v : ReportVersion) (rs : List ReportedRoutine) → AllByRecursion (IsValidRoutine v) rs → AllByRecursion FitsLine (flat_map routine_lines rs)
routines_fit v [] h = tt
routines_fit v (r ∷ rs) h = ((h.0.entry, h.0.name), fit_append (point_lines r.points) (flat_map routine_lines rs) (points_fit r.points h.0.points) (routines_fit v rs h.1))

entry_at : (v : ReportVersion) (rs : List ReportedRoutine) → AllByRecursion (IsValidRoutine v) rs → (i : ℕ) → i < length rs → get_or (map (λ (r : ReportedRoutine). r.entry) rs) i 0 < 2 ^ 32
entry_at v [] h i inside = absurd (omega arith)
entry_at v (r ∷ rs) h zero inside = h.0.entry
entry_at v (r ∷ rs) h (suc i) inside = entry_at v rs h.1 i (omega arith)

-- rising entries in 32 bits are few
few : (r : Reported) → IsValid r → (n : ℕ) → n ≡ length r.routines → n < 2 ^ 64
few r valid zero is = omega arith
few r valid (suc n) is =
    let entries = map (λ (q : ReportedRoutine). q.entry) r.routines in
    let long : length entries ≡ length r.routines = length-map r.routines (λ (q : ReportedRoutine). q.entry) in
    let low : n ≤ get_or entries n 0 = rising_place entries valid.entries n (omega arith) in
    let high : get_or entries n 0 < 2 ^ 32 = entry_at r.version r.routines valid.routines n (omega arith) in
    omega arith

pub lines_of-fit : (r : Reported) → IsValid r → AllByRecursion FitsLine (lines_of r)
lines_of-fit r valid = (tt, (valid.finish, (valid.steps, (valid.pending, fit_append (flat_map routine_lines r.routines) (Done (length r.routines) ∷ []) (routines_fit r.version r.routines valid.routines) (few r valid (length r.routines) refl, tt)))))

line : Line → List ℕ
line l = ended (line_text l)

points_text : (ps : List Point) → lines_text (point_lines ps) ≡ flat_map (λ p. ended (point_line p)) ps
points_text [] = refl
points_text (p ∷ ps) = ap (λ t. ended (point_line p) ++ t) (points_text ps)

routines_text : (rs : List ReportedRoutine) → lines_text (flat_map routine_lines rs) ≡ flat_map routine_text rs
routines_text [] = refl
routines_text (r ∷ rs) =
    let text = λ (l : Line). ended (line_text l) in
    flat_map-append text (routine_lines r) (flat_map routine_lines rs)
    ∙ ap (λ t. (ended (routine_line r.entry r.name) ++ t) ++ lines_text (flat_map routine_lines rs)) (points_text r.points)
    ∙ ap (λ t. routine_text r ++ t) (routines_text rs)

six : (a b c d e f : List ℕ) → a ++ (b ++ (c ++ (d ++ (e ++ f)))) ≡ a ++ b ++ c ++ d ++ e ++ f
six a b c d e f = simp append_assoc

pub lines_of-text : (r : Reported) → lines_text (lines_of r) ≡ report_text r
lines_of-text r =
    let text = λ (l : Line). ended (line_text l) in
    let routines = flat_map routine_text r.routines in
    let done = text (Done (length r.routines)) in
    let body : lines_text (flat_map routine_lines r.routines ++ Done (length r.routines) ∷ []) ≡ routines ++ done =
    flat_map-append text (flat_map routine_lines r.routines) (Done (length r.routines) ∷ []) ∙ ap (λ t. lines_text (flat_map routine_lines r.routines) ++ t) (append-nil done) ∙ ap (λ t. t ++ done) (routines_text r.routines) in
    ap (λ t. text (First r.version) ++ (text (End r.finish) ++ (text (Steps r.steps) ++ (text (Open r.pending) ++ t)))) body
    ∙ six (text (First r.version)) (text (End r.finish)) (text (Steps r.steps)) (text (Open r.pending)) routines done

-- the points of a routine lead from it to it with the points
led_points : (q : Reported) (r : ReportedRoutine) (ps : List Point) (rest : List Line) → Chain (last_size (Some r)) (map (λ p. p.size) ps) → AllByRecursion (λ p. is_of_version q.version p ≡ true) ps
    → led (AtRoutines q (Some r)) (point_lines ps ++ rest) ≡ led (AtRoutines q (Some (record r { points = r.points ++ ps }))) rest
led_points q r [] rest h own = ap (λ ps. led (AtRoutines q (Some (record r { points = ps }))) rest) (sym (append-nil r.points))
led_points q r (p ∷ ps) rest h own =
    let more : ReportedRoutine = record r { points = r.points ++ p ∷ [] } in
    let last : last_size (Some more) ≡ Some p.size = ap (option_map (λ (p : Point). p.size)) (last_pushed r.points p _ (omega (arith, length_push r.points p))) in
    cond-true _ (led (AtRoutines q (Some more)) (point_lines ps ++ rest)) None (and_from _ _ own.0 h.0)
    ∙ led_points q more ps rest (subst (λ o. Chain o (map (λ p. p.size) ps)) (sym last) h.1) own.1
    ∙ ap (λ ps. led (AtRoutines q (Some (record r { points = ps }))) rest) (append_assoc r.points (p ∷ []) ps)

-- what stays of a report to which routines come
kept : (q : Reported) (begun : Option ReportedRoutine) (rs : List ReportedRoutine) → record (closed q begun) { routines = rs } ≡ record q { routines = rs }
kept q None rs = refl
kept q (Some r) rs = refl

version_kept : (q : Reported) (begun : Option ReportedRoutine) → (closed q begun).version ≡ q.version
version_kept q None = refl
version_kept q (Some r) = refl

counted : (q : Reported) (begun : Option ReportedRoutine) → count_of q begun ≡ length (closed q begun).routines
counted q None = refl
counted q (Some r) = sym (length_push q.routines r)

-- the routines and the last line lead to the report
led_routines : (q : Reported) (begun : Option ReportedRoutine) (rs : List ReportedRoutine) (n : ℕ) → has_points begun ≡ true → Chain (last_entry begun) (map (λ r. r.entry) rs) → AllByRecursion (IsValidRoutine q.version) rs
    → n ≡ length (closed q begun).routines + length rs
    → led (AtRoutines q begun) (flat_map routine_lines rs ++ Done n ∷ []) ≡ Some (Over (record q { routines = (closed q begun).routines ++ rs }))
led_routines q begun [] n full above valid many =
    let same : n ≡ count_of q begun = omega (arith, counted q begun) in
    cond-true _ (Some (Over (closed q begun))) None (and_from _ _ (and_from _ _ full (eq-eqb n (count_of q begun) same)) refl)
    ∙ ap (λ r. Some (Over r)) (kept q begun (closed q begun).routines ∙ ap (λ rs. record q { routines = rs }) (sym (append-nil (closed q begun).routines)))
led_routines q begun (r ∷ rs) n full above valid many =
    let before = closed q begun in
    let one : before.version ≡ q.version = version_kept q begun in
    let fresh : ReportedRoutine = record { entry = r.entry; name = r.name; points = [] } in
    let rest = flat_map routine_lines rs ++ Done n ∷ [] in
    cond-true _ (led (AtRoutines before (Some fresh)) (point_lines r.points ++ flat_map routine_lines rs ++ Done n ∷ [])) None (and_from _ _ full above.0)
    ∙ ap (led (AtRoutines before (Some fresh))) (append_assoc (point_lines r.points) (flat_map routine_lines rs) (Done n ∷ []))
    ∙ led_points before fresh r.points rest (chain _ valid.0.sizes) (subst (λ v. AllByRecursion (λ p. is_of_version v p ≡ true) r.points) (sym one) valid.0.version)
    ∙ led_routines before (Some r) rs n (lt-ltb 0 (length r.points) valid.0.some) above.1 (subst (λ v. AllByRecursion (IsValidRoutine v) rs) (sym one) valid.1) (omega (arith, length_push before.routines r))
    ∙ ap (λ q. Some (Over q)) (kept q begun (before.routines ++ r ∷ [] ++ rs) ∙ ap (λ rs. record q { routines = rs }) (append_assoc before.routines (r ∷ []) rs))

pub lines_of-lead : (r : Reported) → IsValid r → led AtVersion (lines_of r) ≡ Some (Over r)
lines_of-lead r valid = led_routines (record r { routines = [] }) None r.routines (length r.routines) refl (chain _ valid.entries) valid.routines (omega arith)

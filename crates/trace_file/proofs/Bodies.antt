-- What stands behind the heads of records.
use Rattle.std.proofs.Common.{zero, suc, inl, inr, ◌⊎◌, ◌≡◌, ◌≢◌, ℕ, ◌+◌, ◌-◌, ◌*◌, ◌/◌, ◌%◌, ◌^◌, ◌≤◌, ◌<◌, ◌++◌, ◌∷◌, [], List, true, length, length-take, take, drop, get_or, replicate, refl, sym, subst, ap, ap₂, ◌∙◌, arith, append_assoc, append-nil, length-append}
use Rattle.std.specs.List.{flat_map}
use Rattle.std.proofs.Math.Seq.{take-append_seam}
use Rattle.std.proofs.lemmas.Bool.{cases_lt}
use Rattle.std.proofs.lemmas.List.{length-replicate, take-append-drop}
use Rattle.guest_words.specs.Names.{is_name}
use Rattle.guest_words.specs.declared.endings.FaultKind.{FaultKind}
use Rattle.guest_words.specs.declared.endings.FaultKind.TheVariants.{Illegal, Fetch, Load, Store, JumpAlign, AtomicAlign, Break}
use Rattle.guest_words.specs.declared.endings.Finish.TheVariants as ends
use Rattle.trace_model.specs.declared.event_kinds.Event.TheVariants as events
use Rattle.trace_file.specs.declared.records.Form.{Form}
use Rattle.trace_file.specs.declared.records.Form.TheVariants.{Step, Read, Write, Fill, Call, Ret, Start, End, Named, Exit, Fault, Budget, Deadlock, Deep, Schedule}
use Rattle.trace_file.specs.declared.records.Range.{Range}
use Rattle.trace_file.specs.declared.records.Record.{Record}
use Rattle.trace_file.specs.declared.records.Record.TheVariants.{OfEvent, OfName, OfFinish}
use Rattle.trace_file.specs.declared.record_reader.Stop.{Stop}
use Rattle.trace_file.specs.declared.record_reader.Stop.TheVariants.{Begun, NoForm, Memory}
use Rattle.trace_file.specs.Records.{AreInRanges, Fits, form, head, name_bytes, number_bytes, numbers, ranges, record_bytes}
use Rattle.trace_file.specs.Private.Made.{IsMade}
use Rattle.trace_file.specs.Pieces.{IsBegun, IsNone, IsRecord}
use Rattle.trace_file.specs.Private.RecordParts.{AreNumbers, HasNameBody, IsBody, IsHead, IsNameOf, Stops, body}
use Rattle.guest_words.specs.Endings.{kind_number}
use Rattle.trace_file.proofs.Heads.{one_head}
use Rattle.trace_file.proofs.NameBytes.{named_filler}
use Rattle.trace_file.proofs.ManyNumbers.{same_rest, one_number, nothing}
use Rattle.trace_file.proofs.OneNumber.{Four, as_four}

-- ---- lists of one, two and three numbers
one_in : (q : Range) (ns : List ℕ) → AreInRanges ns (q ∷ []) → (a : ℕ) × (ns ≡ a ∷ [])
one_in q [] within = absurd within
one_in q (a ∷ []) within = (a, refl)
one_in q (a ∷ b ∷ ns) within = absurd within.1

two_in : (q r : Range) (ns : List ℕ) → AreInRanges ns (q ∷ r ∷ []) → (a b : ℕ) × (ns ≡ a ∷ b ∷ [])
two_in q r [] within = absurd within
two_in q r (a ∷ ns) within = let rest = one_in r ns within.1 in (a, rest.0, ap (λ y. a ∷ y) rest.1)

three_in : (q r s : Range) (ns : List ℕ) → AreInRanges ns (q ∷ r ∷ s ∷ []) → (a b c : ℕ) × (ns ≡ a ∷ b ∷ c ∷ [])
three_in q r s [] within = absurd within
three_in q r s (a ∷ ns) within = let rest = two_in r s ns within.1 in (a, rest.0, rest.1, ap (λ y. a ∷ y) rest.2)

-- ---- each form has a record with its numbers
-- a record with these numbers
abbrev With : Form → List ℕ → Type 0
With f ns = (r : Record) × Fits r × (form r ≡ f) × (numbers r ≡ ns)

made : (f : Form) (ns : List ℕ) (r : Record) → form r ≡ f → numbers r ≡ ns → AreInRanges ns (ranges f) → (AreInRanges (numbers r) (ranges (form r)) → Fits r) → With f ns
made f ns r is are within fits = (r, fits (subst (λ g. AreInRanges (numbers r) (ranges g)) (sym is) (subst (λ ms. AreInRanges ms (ranges f)) (sym are) within)), is, are)

fault_kind : (k : ℕ) → 1 ≤ k → k ≤ 7 → (kind : FaultKind) × (kind_number kind ≡ k)
fault_kind zero least most = absurd (omega arith)
fault_kind (suc zero) least most = (Illegal, refl)
fault_kind (suc (suc zero)) least most = (Fetch, refl)
fault_kind (suc (suc (suc zero))) least most = (Load, refl)
fault_kind (suc (suc (suc (suc zero)))) least most = (Store, refl)
fault_kind (suc (suc (suc (suc (suc zero))))) least most = (JumpAlign, refl)
fault_kind (suc (suc (suc (suc (suc (suc zero)))))) least most = (AtomicAlign, refl)
fault_kind (suc (suc (suc (suc (suc (suc (suc zero))))))) least most = (Break, refl)
fault_kind (suc (suc (suc (suc (suc (suc (suc (suc k)))))))) least most = absurd (omega arith)

with_line : (low high : ℕ) → low < 2 ^ 32 → 1 ≤ low + high → AreInRanges (low ∷ high ∷ []) (ranges Schedule) → With Schedule (low ∷ high ∷ [])
with_line low high fits some within =
    let line = low + 2 ^ 32 * high in
    let first : (low + 2 ^ 32 * high) % 2 ^ 32 ≡ low = omega arith in
    let second : (low + 2 ^ 32 * high) / 2 ^ 32 ≡ high = omega arith in
    made Schedule (low ∷ high ∷ []) (OfFinish (ends.Schedule line)) refl (ap₂ (λ a b. a ∷ b ∷ []) first second) within (λ h. record { ranges = h; content = omega arith })

-- every form but the line of a schedule
abbrev IsPlain : Form → Type 0
IsPlain Schedule = ⊥
IsPlain f = Unit {0}

with_numbers : (f : Form) (ns : List ℕ) → IsPlain f → AreInRanges ns (ranges f) → With f ns
with_numbers Step ns plain within = let n = one_in _ ns within in made Step ns (OfEvent (events.Step n.0)) refl (sym n.1) within (λ h. record { ranges = h; content = tt })
with_numbers Read ns plain within = let n = three_in _ _ _ ns within in made Read ns (OfEvent (events.Read n.0 n.1 n.2)) refl (sym n.3) within (λ h. record { ranges = h; content = tt })
with_numbers Write ns plain within = let n = three_in _ _ _ ns within in made Write ns (OfEvent (events.Write n.0 n.1 n.2)) refl (sym n.3) within (λ h. record { ranges = h; content = tt })
with_numbers Fill ns plain within = let n = two_in _ _ ns within in made Fill ns (OfEvent (events.Fill n.0 n.1)) refl (sym n.2) within (λ h. record { ranges = h; content = tt })
with_numbers Call ns plain within = let n = three_in _ _ _ ns within in made Call ns (OfEvent (events.Call n.0 n.1 n.2)) refl (sym n.3) within (λ h. record { ranges = h; content = tt })
with_numbers Ret ns plain within = let n = two_in _ _ ns within in made Ret ns (OfEvent (events.Ret n.0 n.1)) refl (sym n.2) within (λ h. record { ranges = h; content = tt })
with_numbers Start ns plain within = let n = two_in _ _ ns within in made Start ns (OfEvent (events.Start n.0 n.1)) refl (sym n.2) within (λ h. record { ranges = h; content = tt })
with_numbers End ns plain within = let n = one_in _ ns within in made End ns (OfEvent (events.End n.0)) refl (sym n.1) within (λ h. record { ranges = h; content = tt })
with_numbers Named ns plain within = named ns (two_in _ _ ns within) within
  where
    named : (ns : List ℕ) → (a b : ℕ) × (ns ≡ a ∷ b ∷ []) → AreInRanges ns (ranges Named) → With Named ns
    named ns n within =
        let both : AreInRanges (n.0 ∷ n.1 ∷ []) (ranges Named) = subst (λ ms. AreInRanges ms (ranges Named)) n.2 within in
        made Named ns (OfName n.0 (replicate n.1 97)) refl (ap (λ k. n.0 ∷ k ∷ []) (length-replicate n.1 97) ∙ sym n.2) within
        (λ h. record { ranges = h; content = named_filler n.1 both.1.0.0 both.1.0.1 })
with_numbers Exit ns plain within = let n = one_in _ ns within in made Exit ns (OfFinish (ends.Exit n.0)) refl (sym n.1) within (λ h. record { ranges = h; content = tt })
with_numbers Fault ns plain within = fault ns (three_in _ _ _ ns within) within
  where
    fault : (ns : List ℕ) → (a b c : ℕ) × (ns ≡ a ∷ b ∷ c ∷ []) → AreInRanges ns (ranges Fault) → With Fault ns
    fault ns n within =
        let all : AreInRanges (n.0 ∷ n.1 ∷ n.2 ∷ []) (ranges Fault) = subst (λ ms. AreInRanges ms (ranges Fault)) n.3 within in
        let kind = fault_kind n.0 all.0.0 all.0.1 in
        made Fault ns (OfFinish (ends.Fault kind.0 n.1 n.2)) refl (ap (λ k. k ∷ n.1 ∷ n.2 ∷ []) kind.1 ∙ sym n.3) within (λ h. record { ranges = h; content = tt })
with_numbers Budget [] plain within = made Budget [] (OfFinish ends.Budget) refl refl within (λ h. record { ranges = h; content = tt })
with_numbers Budget (n ∷ ns) plain within = absurd within
with_numbers Deadlock [] plain within = made Deadlock [] (OfFinish ends.Deadlock) refl refl within (λ h. record { ranges = h; content = tt })
with_numbers Deadlock (n ∷ ns) plain within = absurd within
with_numbers Deep [] plain within = made Deep [] (OfFinish ends.Deep) refl refl within (λ h. record { ranges = h; content = tt })
with_numbers Deep (n ∷ ns) plain within = absurd within
with_numbers Schedule ns plain within = absurd plain

-- ---- what stops at the numbers
in_its_ranges : (f : Form) (r : Record) → Fits r → form r ≡ f → AreNumbers (ranges f) (flat_map number_bytes (numbers r))
in_its_ranges f r fits is = (numbers r, subst (λ g. AreInRanges (numbers r) (ranges g)) is fits.ranges, refl)

unfinished_body : (f : Form) (bytes : List ℕ) → ((x rest : List ℕ) → AreNumbers (ranges f) x → bytes ≢ x ++ rest) → (x rest : List ℕ) → IsBody f x → bytes ≢ x ++ rest
unfinished_body f bytes unfinished x rest (r, fits, is, text) same =
    unfinished (flat_map number_bytes (numbers r)) (name_bytes r ++ rest) (in_its_ranges f r fits is)
    (same ∙ ap (λ y. y ++ rest) text ∙ append_assoc (flat_map number_bytes (numbers r)) (name_bytes r) rest)

none_body : (f : Form) (bytes : List ℕ) → IsNone (AreNumbers (ranges f)) bytes → IsNone (IsBody f) bytes
none_body f bytes none x more rest (r, fits, is, text) same =
    none (flat_map number_bytes (numbers r)) more (name_bytes r ++ rest) (in_its_ranges f r fits is)
    (same ∙ ap (λ y. y ++ rest) text ∙ append_assoc (flat_map number_bytes (numbers r)) (name_bytes r) rest)

-- a record that ends the numbers
completed : (f : Form) (bytes more ns : List ℕ) → more ≢ [] → bytes ++ more ≡ flat_map number_bytes ns → With f ns → ((x rest : List ℕ) → IsBody f x → bytes ≢ x ++ rest) → IsBegun (IsBody f) bytes
completed f bytes more ns some text (r, fits, is, are) unfinished = record {
  more = more ++ name_bytes r;
  some = λ none. some (nothing more (name_bytes r) none);
  text = (r, fits, is, sym (append_assoc bytes more (name_bytes r)) ∙ ap (λ y. y ++ name_bytes r) (text ∙ ap (λ ms. flat_map number_bytes ms) (sym are)));
  unfinished = unfinished;
}

pub begun_plain : (f : Form) (bytes : List ℕ) → IsPlain f → IsBegun (AreNumbers (ranges f)) bytes → IsBegun (IsBody f) bytes
begun_plain f bytes plain stops = completed f bytes stops.more stops.text.0 stops.some stops.text.2 (with_numbers f stops.text.0 plain stops.text.1) (unfinished_body f bytes stops.unfinished)

-- ---- the line of a schedule
-- the last one of some bytes
last_of : (bytes : List ℕ) → bytes ≢ [] → (before : List ℕ) × (b : ℕ) × (bytes ≡ before ++ b ∷ [])
last_of [] some = absurd (some refl)
last_of (a ∷ []) some = ([], a, refl)
last_of (a ∷ b ∷ bytes) some = let rest = last_of (b ∷ bytes) (λ none. cc) in (a ∷ rest.0, rest.1, ap (λ y. a ∷ y) rest.2)

abbrev zeros : List ℕ
zeros = 0 ∷ 0 ∷ 0 ∷ 0 ∷ 0 ∷ 0 ∷ 0 ∷ []

-- the bytes of two numbers
eight : (a b : ℕ) → flat_map number_bytes (a ∷ b ∷ []) ≡ Four a (Four b [])
eight a b = ap (λ y. number_bytes a ++ y) (as_four b []) ∙ as_four a (Four b [])

-- bytes that 0 in 64 bits completes
other_line : (bytes more : List ℕ) → more ≢ [] → bytes ++ more ≡ zeros ++ 0 ∷ [] → (more' : List ℕ) × (more' ≢ []) × (bytes ++ more' ≡ flat_map number_bytes (0 ∷ 16777216 ∷ []))
other_line bytes more some is =
    let last = last_of more some in
    let apart : (bytes ++ last.0) ++ last.1 ∷ [] ≡ zeros ++ 0 ∷ [] = append_assoc bytes last.0 (last.1 ∷ []) ∙ ap (λ y. bytes ++ y) (sym last.2) ∙ is in
    let long : length (bytes ++ last.0) ≡ 7 = omega (arith, ap length apart, length-append (bytes ++ last.0) (last.1 ∷ [])) in
    let front : bytes ++ last.0 ≡ zeros = sym (take-append_seam (bytes ++ last.0) (last.1 ∷ [])) ∙ ap (λ n. take n ((bytes ++ last.0) ++ last.1 ∷ [])) long ∙ ap (take 7) apart in
    (last.0 ++ 1 ∷ [], (λ none. full last.0 none), sym (append_assoc bytes last.0 (1 ∷ [])) ∙ ap (λ y. y ++ 1 ∷ []) front ∙ sym (eight 0 16777216))
  where
    full : (xs : List ℕ) → xs ++ 1 ∷ [] ≡ [] → ⊥
    full [] none = cc
    full (x ∷ xs) none = cc

begun_line : (bytes : List ℕ) → IsBegun (AreNumbers (ranges Schedule)) bytes → IsBegun (IsBody Schedule) bytes
begun_line bytes stops = by (two_in _ _ stops.text.0 stops.text.1)
  where
    by : (a b : ℕ) × (stops.text.0 ≡ a ∷ b ∷ []) → IsBegun (IsBody Schedule) bytes
    by n =
        let within : AreInRanges (n.0 ∷ n.1 ∷ []) (ranges Schedule) = subst (λ ms. AreInRanges ms (ranges Schedule)) n.2 stops.text.1 in
        let text : bytes ++ stops.more ≡ flat_map number_bytes (n.0 ∷ n.1 ∷ []) = stops.text.2 ∙ ap (λ ms. flat_map number_bytes ms) n.2 in
        let unfinished = unfinished_body Schedule bytes stops.unfinished in
        elim (cases_lt 0 (n.0 + n.1)) [
          | inl some ↦ completed Schedule bytes stops.more (n.0 ∷ n.1 ∷ []) stops.some text (with_line n.0 n.1 (omega (arith, within.0)) (omega arith) within) unfinished
          | inr none ↦
              let first : n.0 ≡ 0 = omega arith in
              let second : n.1 ≡ 0 = omega arith in
              let other = other_line bytes stops.more stops.some (text ∙ ap₂ (λ a b. flat_map number_bytes (a ∷ b ∷ [])) first second ∙ eight 0 0) in
              completed Schedule bytes other.0 (0 ∷ 16777216 ∷ []) other.1 other.2 (with_line 0 16777216 (omega arith) (omega arith) ((omega arith, omega arith), ((omega arith, omega arith), tt))) unfinished
        ]

-- the form is that of a line, or not
line_or_plain : (f : Form) → (f ≡ Schedule) ⊎ IsPlain f
line_or_plain Schedule = inl refl
line_or_plain _ = inr tt

pub numbers_stop : (f : Form) (bytes : List ℕ) (stop : Stop) → Stops (AreNumbers (ranges f)) bytes stop → Stops (IsBody f) bytes stop
numbers_stop f bytes Begun stops = elim (line_or_plain f) [
  | inl is ↦ subst (λ g. IsBegun (IsBody g) bytes) (sym is) (begun_line bytes (subst (λ g. IsBegun (AreNumbers (ranges g)) bytes) is stops))
  | inr plain ↦ begun_plain f bytes plain stops
]
numbers_stop f bytes NoForm stops = none_body f bytes stops
numbers_stop f bytes (Memory entry) stops = tt

-- ---- what stops behind the numbers
name_form : (r : Record) → form r ≡ Named → (e : ℕ) × (n : List ℕ) × (r ≡ OfName e n)
name_form (OfName e n) is = (e, n, refl)
name_form (OfEvent (events.Step t)) is = cc
name_form (OfEvent _) is = cc
name_form (OfFinish (ends.Exit s)) is = cc
name_form (OfFinish _) is = cc

line_form : (r : Record) → form r ≡ Schedule → (l : ℕ) × (r ≡ OfFinish (ends.Schedule l))
line_form (OfFinish (ends.Schedule l)) is = (l, refl)
line_form (OfFinish _) is = cc
line_form (OfName e n) is = cc
line_form (OfEvent (events.Step t)) is = cc
line_form (OfEvent _) is = cc

zero_half : (n : ℕ) → n ≤ 2 ^ 32 - 1 → 0 ≡ n % 256 → 0 ≡ n / 256 % 256 → 0 ≡ n / 65536 % 256 → 0 ≡ n / 16777216 % 256 → n ≡ 0
zero_half n low a b c d = omega arith

no_half : (l : ℕ) → 1 ≤ l → l % 2 ^ 32 ≡ 0 → l / 2 ^ 32 ≡ 0 → ⊥
no_half l some first second = omega arith

zero_line : (l : ℕ) → 1 ≤ l → l % 2 ^ 32 ≤ 2 ^ 32 - 1 → l / 2 ^ 32 ≤ 2 ^ 32 - 1 → 0 ≡ l % 2 ^ 32 % 256 → 0 ≡ l % 2 ^ 32 / 256 % 256 → 0 ≡ l % 2 ^ 32 / 65536 % 256 → 0 ≡ l % 2 ^ 32 / 16777216 % 256 →
    0 ≡ l / 2 ^ 32 % 256 → 0 ≡ l / 2 ^ 32 / 256 % 256 → 0 ≡ l / 2 ^ 32 / 65536 % 256 → 0 ≡ l / 2 ^ 32 / 16777216 % 256 → ⊥
zero_line l some low high b0 b1 b2 b3 b4 b5 b6 b7 =
    let first = zero_half (l % 2 ^ 32) low b0 b1 b2 b3 in
    let second = zero_half (l / 2 ^ 32) high b4 b5 b6 b7 in
    no_half l some first second

-- the line 0 is none
pub no_line : (bytes rest : List ℕ) → bytes ≡ flat_map number_bytes (0 ∷ 0 ∷ []) ++ rest → IsNone (IsBody Schedule) bytes
no_line bytes rest text x more behind (r, fits, is, content) same = by (line_form r is)
  where
    by : (l : ℕ) × (r ≡ OfFinish (ends.Schedule l)) → ⊥
    by line =
        let l = line.0 in
        let fits' : Fits (OfFinish (ends.Schedule l)) = subst Fits line.1 fits in
        let numbers' : x ≡ flat_map number_bytes (l % 2 ^ 32 ∷ l / 2 ^ 32 ∷ []) ++ [] = content ∙ ap body line.1 in
        let whole : Four 0 (Four 0 (rest ++ more)) ≡ Four (l % 2 ^ 32) (Four (l / 2 ^ 32) behind) =
        ap (λ y. (y ++ rest) ++ more) (sym (eight 0 0)) ∙ ap (λ y. y ++ more) (sym text) ∙ same ∙ ap (λ y. y ++ behind) (numbers' ∙ ap (λ y. y ++ []) (eight (l % 2 ^ 32) (l / 2 ^ 32))) in
        let b0 : 0 ≡ l % 2 ^ 32 % 256 = ap (λ y. get_or y 0 0) whole in
        let b1 : 0 ≡ l % 2 ^ 32 / 256 % 256 = ap (λ y. get_or y 1 0) whole in
        let b2 : 0 ≡ l % 2 ^ 32 / 65536 % 256 = ap (λ y. get_or y 2 0) whole in
        let b3 : 0 ≡ l % 2 ^ 32 / 16777216 % 256 = ap (λ y. get_or y 3 0) whole in
        let b4 : 0 ≡ l / 2 ^ 32 % 256 = ap (λ y. get_or y 4 0) whole in
        let b5 : 0 ≡ l / 2 ^ 32 / 256 % 256 = ap (λ y. get_or y 5 0) whole in
        let b6 : 0 ≡ l / 2 ^ 32 / 65536 % 256 = ap (λ y. get_or y 6 0) whole in
        let b7 : 0 ≡ l / 2 ^ 32 / 16777216 % 256 = ap (λ y. get_or y 7 0) whole in
        zero_line l fits'.content fits'.ranges.0.1 fits'.ranges.1.0.1 b0 b1 b2 b3 b4 b5 b6 b7

apart_two : (a b : ℕ) (xs ys : List ℕ) → (flat_map number_bytes (a ∷ b ∷ []) ++ xs) ++ ys ≡ number_bytes a ++ (number_bytes b ++ (xs ++ ys))
apart_two a b xs ys =
    ap (λ z. ((number_bytes a ++ z) ++ xs) ++ ys) (append-nil (number_bytes b))
    ∙ append_assoc (number_bytes a ++ number_bytes b) xs ys
    ∙ append_assoc (number_bytes a) (number_bytes b) (xs ++ ys)

-- a record of a name, taken apart
pub name_parts : (x bytes rest : List ℕ) (a b : ℕ) (more behind : List ℕ) → b < 2 ^ 32 → bytes ≡ flat_map number_bytes (a ∷ b ∷ []) ++ rest → IsBody Named x → bytes ++ more ≡ x ++ behind → (n : List ℕ) × IsNameOf b n × (rest ++ more ≡ n ++ behind)
name_parts x bytes rest a b more behind low text (r, fits, is, content) same = by (name_form r is)
  where
    by : (e : ℕ) × (n : List ℕ) × (r ≡ OfName e n) → (n : List ℕ) × IsNameOf b n × (rest ++ more ≡ n ++ behind)
    by (e, n, named) =
        let fits' : Fits (OfName e n) = subst Fits named fits in
        let body' : x ≡ body (OfName e n) = content ∙ ap body named in
        let left : bytes ++ more ≡ number_bytes a ++ (number_bytes b ++ (rest ++ more)) =
        ap (λ y. y ++ more) text ∙ apart_two a b rest more in
        let right : x ++ behind ≡ number_bytes e ++ (number_bytes (length n) ++ (n ++ behind)) =
        ap (λ y. y ++ behind) body' ∙ apart_two e (length n) n behind in
        let whole : number_bytes a ++ (number_bytes b ++ (rest ++ more)) ≡ number_bytes e ++ (number_bytes (length n) ++ (n ++ behind)) = sym left ∙ same ∙ right in
        let later = same_rest a e _ _ whole in
        let count : b ≡ length n = one_number b (length n) _ _ low (omega (arith, fits'.ranges.1.0.1)) later in
        (n, (fits'.content, sym count), same_rest b (length n) _ _ later)

pub name_stop : (bytes rest : List ℕ) (a b : ℕ) (stop : Stop) → AreInRanges (a ∷ b ∷ []) (ranges Named) → bytes ≡ flat_map number_bytes (a ∷ b ∷ []) ++ rest → Stops (IsNameOf b) rest stop → Stops (IsBody Named) bytes stop
name_stop bytes rest a b Begun within text stops = record {
  more = stops.more;
  some = stops.some;
  text = (
    OfName a (rest ++ stops.more),
    record { ranges = subst (λ n. AreInRanges (a ∷ n ∷ []) (ranges Named)) (sym stops.text.1) within; content = stops.text.0 },
    refl,
    ap (λ y. y ++ stops.more) text ∙ append_assoc (flat_map number_bytes (a ∷ b ∷ [])) rest stops.more ∙ ap (λ n. flat_map number_bytes (a ∷ n ∷ []) ++ (rest ++ stops.more)) (sym stops.text.1),
  );
  unfinished = λ x behind named same.
      let p = name_parts x bytes rest a b [] behind (omega (arith, within.1.0.1)) text named (append-nil bytes ∙ same) in
      stops.unfinished p.0 behind p.1 (sym (append-nil rest) ∙ p.2);
}
name_stop bytes rest a b NoForm within text stops = λ x more behind named same.
    let p = name_parts x bytes rest a b more behind (omega (arith, within.1.0.1)) text named same in
    stops p.0 more behind p.1 p.2
name_stop bytes rest a b (Memory entry) within text stops = tt

-- ---- heads and bodies
ones : List Range → List ℕ
ones [] = []
ones (q ∷ qs) = 1 ∷ ones qs

ones_fit : (f : Form) → AreInRanges (ones (ranges f)) (ranges f)
unfolding ones
ones_fit Step = ((omega arith, omega arith), tt)
ones_fit Read = ((omega arith, omega arith), ((omega arith, omega arith), ((omega arith, omega arith), tt)))
ones_fit Write = ((omega arith, omega arith), ((omega arith, omega arith), ((omega arith, omega arith), tt)))
ones_fit Fill = ((omega arith, omega arith), ((omega arith, omega arith), tt))
ones_fit Call = ((omega arith, omega arith), ((omega arith, omega arith), ((omega arith, omega arith), tt)))
ones_fit Ret = ((omega arith, omega arith), ((omega arith, omega arith), tt))
ones_fit Start = ((omega arith, omega arith), ((omega arith, omega arith), tt))
ones_fit End = ((omega arith, omega arith), tt)
ones_fit Named = ((omega arith, omega arith), ((omega arith, omega arith), tt))
ones_fit Exit = ((omega arith, omega arith), tt)
ones_fit Fault = ((omega arith, omega arith), ((omega arith, omega arith), ((omega arith, omega arith), tt)))
ones_fit Budget = tt
ones_fit Deadlock = tt
ones_fit Deep = tt
ones_fit Schedule = ((omega arith, omega arith), ((omega arith, omega arith), tt))

any : (f : Form) → (r : Record) × Fits r × (form r ≡ f)
any f = elim (line_or_plain f) [
  | inl is ↦ let r = with_line 1 0 (omega arith) (omega arith) ((omega arith, omega arith), ((omega arith, omega arith), tt)) in (r.0, r.1, r.2 ∙ sym is)
  | inr plain ↦ let r = with_numbers f (ones (ranges f)) plain (ones_fit f) in (r.0, r.1, r.2)
]

pub head_begun : (bytes : List ℕ) → IsBegun IsHead bytes → IsBegun IsRecord bytes
head_begun bytes stops =
    let r = any stops.text.0 in
    record {
      more = stops.more ++ body r.0;
      some = λ none. stops.some (nothing stops.more (body r.0) none);
      text = (r.0, r.1, sym (append_assoc bytes stops.more (body r.0)) ∙ ap (λ y. y ++ body r.0) (stops.text.1 ∙ ap head (sym r.2)));
      unfinished = λ x rest record' same.
          stops.unfinished (head (form record'.0)) (body record'.0 ++ rest) (form record'.0, refl) (same ∙ ap (λ y. y ++ rest) record'.2 ∙ append_assoc (head (form record'.0)) (body record'.0) rest);
    }

pub head_stop : (bytes : List ℕ) (stop : Stop) → Stops IsHead bytes stop → Stops IsRecord bytes stop
head_stop bytes Begun stops = head_begun bytes stops
head_stop bytes NoForm stops = λ x more rest r same.
    stops (head (form r.0)) more (body r.0 ++ rest) (form r.0, refl) (same ∙ ap (λ y. y ++ rest) r.2 ∙ append_assoc (head (form r.0)) (body r.0) rest)
head_stop bytes (Memory entry) stops = tt

-- the body of a record, behind the head
pub behind_head : (f : Form) (bytes rest behind : List ℕ) (r : Record) → head f ++ rest ≡ record_bytes r ++ behind → (form r ≡ f) × (rest ≡ body r ++ behind)
behind_head f bytes rest behind r same =
    let both = one_head f (form r) rest (body r ++ behind) (same ∙ append_assoc (head (form r)) (body r) behind) in
    (sym both.0, both.1)

pub body_stop : (f : Form) (bytes rest : List ℕ) (stop : Stop) → bytes ≡ head f ++ rest → Stops (IsBody f) rest stop → Stops IsRecord bytes stop
body_stop f bytes rest Begun text stops = record {
  more = stops.more;
  some = stops.some;
  text = (stops.text.0, stops.text.1, ap (λ y. y ++ stops.more) text ∙ append_assoc (head f) rest stops.more ∙ ap₂ (λ g y. head g ++ y) (sym stops.text.2) stops.text.3);
  unfinished = λ x behind r same.
      let both = behind_head f bytes rest behind r.0 (sym text ∙ same ∙ ap (λ y. y ++ behind) r.2) in
      stops.unfinished (body r.0) behind (r.0, r.1, both.0, refl) both.1;
}
body_stop f bytes rest NoForm text stops = λ x more behind r same.
    let both = behind_head f bytes (rest ++ more) behind r.0 (sym (append_assoc (head f) rest more) ∙ ap (λ y. y ++ more) (sym text) ∙ same ∙ ap (λ y. y ++ behind) r.2) in
    stops (body r.0) more behind (r.0, r.1, both.0, refl) both.1
body_stop f bytes rest (Memory entry) text stops = tt

-- ---- three numbers that are read
abbrev pub three : List ℕ → List ℕ
three xs = get_or xs 0 0 ∷ get_or xs 1 0 ∷ get_or xs 2 0 ∷ []

three_of : (xs : List ℕ) → length xs ≡ 3 → xs ≡ three xs
three_of [] long = absurd (omega arith)
three_of (a ∷ []) long = absurd (omega arith)
three_of (a ∷ b ∷ []) long = absurd (omega arith)
three_of (a ∷ b ∷ c ∷ []) long = refl
three_of (a ∷ b ∷ c ∷ d ∷ xs) long = absurd (omega arith)

-- bytes begin with the numbers of a form
pub record HasNumbers (f : Form) (ns bytes rest : List ℕ) : Type 0 where
  pub within : AreInRanges ns (ranges f)
  pub text : bytes ≡ flat_map number_bytes ns ++ rest

pub has_numbers : (f : Form) (rs : List Range) (xs bytes rest : List ℕ) → rs ≡ ranges f → length xs ≡ 3 → AreInRanges (take (length rs) xs) rs → bytes ≡ flat_map number_bytes (take (length rs) xs) ++ rest →
    HasNumbers f (take (length (ranges f)) (three xs)) bytes rest
has_numbers f rs xs bytes rest is long within text = record {
  within = subst (λ qs. AreInRanges (take (length qs) (three xs)) qs) is (subst (λ ys. AreInRanges (take (length rs) ys) rs) (three_of xs long) within);
  text = text ∙ ap₂ (λ qs ys. flat_map number_bytes (take (length qs) ys) ++ rest) is (three_of xs long);
}

pub found_record : (f : Form) (ns bytes rest : List ℕ) (r : Record) → HasNumbers f ns bytes rest → IsMade f ns r → Fits r × (form r ≡ f) × ((behind : List ℕ) × (bytes ≡ body r ++ behind))
found_record f ns bytes rest r has is = (is.fits, is.form, (rest, has.text ∙ ap (λ y. y ++ rest) (ap (λ ms. flat_map number_bytes ms) (sym is.numbers) ∙ sym (append-nil (flat_map number_bytes (numbers r))) ∙ ap (λ y. flat_map number_bytes (numbers r) ++ y) (sym is.plain))))

-- those of a name
as_name : (f : Form) (xs bytes rest : List ℕ) → f ≡ Named → HasNumbers f (take (length (ranges f)) (three xs)) bytes rest → HasNumbers Named (get_or xs 0 0 ∷ get_or xs 1 0 ∷ []) bytes rest
as_name f xs bytes rest is has = subst (λ g. HasNumbers g (take (length (ranges g)) (three xs)) bytes rest) is has

pub found_name : (f : Form) (xs bytes rest name behind : List ℕ) → f ≡ Named → HasNumbers f (take (length (ranges f)) (three xs)) bytes rest → is_name name ≡ true → length name ≡ get_or xs 1 0 → rest ≡ name ++ behind →
    Fits (OfName (get_or xs 0 0) name) × (Named ≡ f) × ((behind : List ℕ) × (bytes ≡ body (OfName (get_or xs 0 0) name) ++ behind))
found_name f xs bytes rest name behind is has named long text =
    let both = as_name f xs bytes rest is has in (
      record { ranges = subst (λ n. AreInRanges (get_or xs 0 0 ∷ n ∷ []) (ranges Named)) (sym long) both.within; content = named },
      sym is,
      (behind, both.text ∙ ap₂ (λ n y. flat_map number_bytes (get_or xs 0 0 ∷ n ∷ []) ++ y) (sym long) text ∙ sym (append_assoc (flat_map number_bytes (get_or xs 0 0 ∷ length name ∷ [])) name behind)),
    )

-- out of memory for a name whose bytes are there
pub wanted_name : (f : Form) (xs bytes rest : List ℕ) → f ≡ Named → HasNumbers f (take (length (ranges f)) (three xs)) bytes rest → (get_or xs 1 0 ≤ length rest) × (is_name (take (get_or xs 1 0) rest) ≡ true) →
    HasNameBody f (get_or xs 0 0) bytes
wanted_name f xs bytes rest is has there =
    let long : length (take (get_or xs 1 0) rest) ≡ get_or xs 1 0 = length_of (get_or xs 1 0) rest there.0 in
    let found = found_name f xs bytes rest (take (get_or xs 1 0) rest) (drop (get_or xs 1 0) rest) is has there.1 long (sym (take-append-drop (get_or xs 1 0) rest)) in
    (take (get_or xs 1 0) rest, found.0, found.1, found.2)
  where
    length_of : (n : ℕ) (ys : List ℕ) → n ≤ length ys → length (take n ys) ≡ n
    length_of n ys few = omega (arith, length-take n ys)

pub stop_name : (f : Form) (xs bytes rest : List ℕ) (stop : Stop) → f ≡ Named → HasNumbers f (take (length (ranges f)) (three xs)) bytes rest → Stops (IsNameOf (get_or xs 1 0)) rest stop → Stops (IsBody f) bytes stop
stop_name f xs bytes rest stop is has stops =
    let both = as_name f xs bytes rest is has in
    subst (λ g. Stops (IsBody g) bytes stop) (sym is) (name_stop bytes rest (get_or xs 0 0) (get_or xs 1 0) stop both.within both.text stops)

pub stop_line : (f : Form) (xs bytes rest : List ℕ) → (f ≡ Schedule) × (get_or xs 0 0 ≡ 0) × (get_or xs 1 0 ≡ 0) → HasNumbers f (take (length (ranges f)) (three xs)) bytes rest → IsNone (IsBody f) bytes
stop_line f xs bytes rest (is, low, high) has =
    let both : HasNumbers Schedule (get_or xs 0 0 ∷ get_or xs 1 0 ∷ []) bytes rest = subst (λ g. HasNumbers g (take (length (ranges g)) (three xs)) bytes rest) is has in
    subst (λ g. IsNone (IsBody g) bytes) (sym is) (no_line bytes rest (both.text ∙ ap₂ (λ a b. flat_map number_bytes (a ∷ b ∷ []) ++ rest) low high))

pub whole_record : (f : Form) (bytes rest : List ℕ) (r : Record) → Fits r → form r ≡ f → (behind : List ℕ) → bytes ≡ head f ++ rest → rest ≡ body r ++ behind → Fits r × ((behind : List ℕ) × (bytes ≡ record_bytes r ++ behind))
whole_record f bytes rest r fits is behind text content =
    (fits, (behind, text ∙ ap₂ (λ g y. head g ++ y) (sym is) content ∙ sym (append_assoc (head (form r)) (body r) behind)))

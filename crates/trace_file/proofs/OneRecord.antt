-- Records tell themselves apart.
use Rattle.std.proofs.Common.{inl, inr, ◌⊎◌, ◌≡◌, ℕ, ◌+◌, ◌*◌, ◌/◌, ◌%◌, ◌^◌, ◌<◌, ◌++◌, ◌∷◌, [], List, length, take, get_or, refl, sym, subst, ap, ap₂, ◌∙◌, arith, append_assoc}
use Rattle.std.specs.List.{flat_map, AllByRecursion}
use Rattle.std.proofs.Math.Seq.{take-append_seam}
use Rattle.std.proofs.lemmas.List.{append_cancel_left}
use Rattle.guest_words.specs.declared.endings.Finish.TheVariants as ends
use Rattle.trace_model.specs.declared.event_kinds.Event.TheVariants as events
use Rattle.trace_file.specs.declared.records.Form.{Form}
use Rattle.trace_file.specs.declared.records.Form.TheVariants.{Step, Read, Write, Fill, Call, Ret, Start, End, Named, Exit, Fault, Budget, Deadlock, Deep, Schedule}
use Rattle.trace_file.specs.declared.records.Range.{Range}
use Rattle.trace_file.specs.declared.records.Record.{Record}
use Rattle.trace_file.specs.declared.records.Record.TheVariants.{OfEvent, OfName, OfFinish}
use Rattle.trace_file.specs.Records.{AreInRanges, Fits, form, head, name_bytes, number_bytes, numbers, ranges, record_bytes}
use Rattle.trace_file.specs.Private.RecordParts.{body}
use Rattle.guest_words.proofs.FaultKinds.{kind_at, kind_back}
use Rattle.trace_file.proofs.Heads.{one_head}
use Rattle.trace_file.proofs.ManyNumbers.{one_number, same_rest}

-- ---- a record by its form, numbers and name
made_back : Form → List ℕ → List ℕ → Record
made_back Step ns name = OfEvent (events.Step (get_or ns 0 0))
made_back Read ns name = OfEvent (events.Read (get_or ns 0 0) (get_or ns 1 0) (get_or ns 2 0))
made_back Write ns name = OfEvent (events.Write (get_or ns 0 0) (get_or ns 1 0) (get_or ns 2 0))
made_back Fill ns name = OfEvent (events.Fill (get_or ns 0 0) (get_or ns 1 0))
made_back Call ns name = OfEvent (events.Call (get_or ns 0 0) (get_or ns 1 0) (get_or ns 2 0))
made_back Ret ns name = OfEvent (events.Ret (get_or ns 0 0) (get_or ns 1 0))
made_back Start ns name = OfEvent (events.Start (get_or ns 0 0) (get_or ns 1 0))
made_back End ns name = OfEvent (events.End (get_or ns 0 0))
made_back Named ns name = OfName (get_or ns 0 0) name
made_back Exit ns name = OfFinish (ends.Exit (get_or ns 0 0))
made_back Budget ns name = OfFinish ends.Budget
made_back Deadlock ns name = OfFinish ends.Deadlock
made_back Deep ns name = OfFinish ends.Deep
made_back Fault ns name = OfFinish (ends.Fault (kind_at (get_or ns 0 0)) (get_or ns 1 0) (get_or ns 2 0))
made_back Schedule ns name = OfFinish (ends.Schedule (get_or ns 0 0 + 2 ^ 32 * get_or ns 1 0))

back : (r : Record) → made_back (form r) (numbers r) (name_bytes r) ≡ r
unfolding made_back
back (OfEvent (events.Step t)) = refl
back (OfEvent _) = refl
back (OfName e n) = refl
back (OfFinish (ends.Fault k t a)) = ap (λ q. OfFinish (ends.Fault q t a)) (kind_back k)
back (OfFinish (ends.Schedule l)) = let whole : l % 2 ^ 32 + 2 ^ 32 * (l / 2 ^ 32) ≡ l = omega arith in ap (λ n. OfFinish (ends.Schedule n)) whole
back (OfFinish _) = refl

-- how many bytes of a name
abbrev name_length : Form → List ℕ → ℕ
name_length Named ns = get_or ns 1 0
name_length f ns = 0

long_name : (r : Record) → length (name_bytes r) ≡ name_length (form r) (numbers r)
long_name (OfEvent (events.Step t)) = refl
long_name (OfEvent _) = refl
long_name (OfName e n) = refl
long_name (OfFinish (ends.Exit s)) = refl
long_name (OfFinish _) = refl

small : (f : Form) → AllByRecursion (λ (q : Range). q.most < 2 ^ 32) (ranges f)
small Step = (omega arith, tt)
small Read = (omega arith, (omega arith, (omega arith, tt)))
small Write = (omega arith, (omega arith, (omega arith, tt)))
small Fill = (omega arith, (omega arith, tt))
small Call = (omega arith, (omega arith, (omega arith, tt)))
small Ret = (omega arith, (omega arith, tt))
small Start = (omega arith, (omega arith, tt))
small End = (omega arith, tt)
small Named = (omega arith, (omega arith, tt))
small Exit = (omega arith, tt)
small Fault = (omega arith, (omega arith, (omega arith, tt)))
small Budget = tt
small Deadlock = tt
small Deep = tt
small Schedule = (omega arith, (omega arith, tt))

-- ---- numbers tell themselves apart
same_numbers : (rs : List Range) (ns ms xs ys : List ℕ) → AllByRecursion (λ (q : Range). q.most < 2 ^ 32) rs → AreInRanges ns rs → AreInRanges ms rs → flat_map number_bytes ns ++ xs ≡ flat_map number_bytes ms ++ ys → (ns ≡ ms) × (xs ≡ ys)
same_numbers [] [] [] xs ys small within within' same = (refl, same)
same_numbers [] (n ∷ ns) ms xs ys small within within' same = absurd within
same_numbers [] [] (m ∷ ms) xs ys small within within' same = absurd within'
same_numbers (r ∷ rs) [] ms xs ys small within within' same = absurd within
same_numbers (r ∷ rs) (n ∷ ns) [] xs ys small within within' same = absurd within'
same_numbers (r ∷ rs) (n ∷ ns) (m ∷ ms) xs ys small within within' same =
    let whole = sym (append_assoc (number_bytes n) (flat_map number_bytes ns) xs) ∙ same ∙ append_assoc (number_bytes m) (flat_map number_bytes ms) ys in
    let first : n ≡ m = one_number n m _ _ (omega (arith, small.0, within.0)) (omega (arith, small.0, within'.0)) whole in
    let rest = same_numbers rs ns ms xs ys small.1 within.1 within'.1 (same_rest n m _ _ whole) in
    (ap₂ (λ q qs. q ∷ qs) first rest.0, rest.1)

same_front : (xs ys a b : List ℕ) → length xs ≡ length ys → xs ++ a ≡ ys ++ b → (xs ≡ ys) × (a ≡ b)
same_front xs ys a b long same =
    let front : xs ≡ ys = sym (take-append_seam xs a) ∙ ap (take (length xs)) same ∙ ap (λ n. take n (ys ++ b)) long ∙ take-append_seam ys b in
    (front, append_cancel_left xs a b (same ∙ ap (λ y. y ++ b) (sym front)))

-- ---- and so do records
pub one_record : (r s : Record) (a b : List ℕ) → Fits r → Fits s → record_bytes r ++ a ≡ record_bytes s ++ b → (r ≡ s) × (a ≡ b)
one_record r s a b fits fits' same =
    let heads = one_head (form r) (form s) (body r ++ a) (body s ++ b) (sym (append_assoc (head (form r)) (body r) a) ∙ same ∙ append_assoc (head (form s)) (body s) b) in
    let bodies = sym (append_assoc (flat_map number_bytes (numbers r)) (name_bytes r) a) ∙ heads.1 ∙ append_assoc (flat_map number_bytes (numbers s)) (name_bytes s) b in
    let nums = same_numbers (ranges (form r)) (numbers r) (numbers s) _ _ (small (form r)) fits.ranges (subst (λ f. AreInRanges (numbers s) (ranges f)) (sym heads.0) fits'.ranges) bodies in
    let long : length (name_bytes r) ≡ length (name_bytes s) = long_name r ∙ ap₂ (λ f ns. name_length f ns) heads.0 nums.0 ∙ sym (long_name s) in
    let names = same_front (name_bytes r) (name_bytes s) a b long nums.1 in
    (sym (back r) ∙ three heads.0 nums.0 names.0 ∙ back s, names.1)
  where
    three : form r ≡ form s → numbers r ≡ numbers s → name_bytes r ≡ name_bytes s → made_back (form r) (numbers r) (name_bytes r) ≡ made_back (form s) (numbers s) (name_bytes s)
    three x y z = ap₂ (λ f ns. made_back f ns (name_bytes r)) x y ∙ ap (λ n. made_back (form s) (numbers s) n) z

-- ---- and lists of records, as far as both go
pub record Longer (xs ys : List Record) (a b : List ℕ) : Type 0 where
  pub more : List Record
  pub whole : ys ≡ xs ++ more
  pub rest : a ≡ flat_map record_bytes more ++ b

pub decode : (xs ys : List Record) (a b : List ℕ) → AllByRecursion Fits xs → AllByRecursion Fits ys → flat_map record_bytes xs ++ a ≡ flat_map record_bytes ys ++ b → Longer xs ys a b ⊎ Longer ys xs b a
decode [] ys a b all all' same = inl (record { more = ys; whole = refl; rest = same })
decode (x ∷ xs) [] a b all all' same = inr (record { more = x ∷ xs; whole = refl; rest = sym same })
decode (x ∷ xs) (y ∷ ys) a b all all' same =
    let one = one_record x y (flat_map record_bytes xs ++ a) (flat_map record_bytes ys ++ b) all.0 all'.0 (sym (append_assoc (record_bytes x) (flat_map record_bytes xs) a) ∙ same ∙ append_assoc (record_bytes y) (flat_map record_bytes ys) b) in
    elim (decode xs ys a b all.1 all'.1 one.1) [
      | inl l ↦ inl (record { more = l.more; whole = ap₂ (λ q qs. q ∷ qs) (sym one.0) l.whole; rest = l.rest })
      | inr l ↦ inr (record { more = l.more; whole = ap₂ (λ q qs. q ∷ qs) one.0 l.whole; rest = l.rest })
    ]

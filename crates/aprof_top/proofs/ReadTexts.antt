-- Each text is a schedule or has a bad line, and all bytes are a trace or are refused: it can't be that they are neither.
use Rattle.std.proofs.Common.{◌≡◌, ◌≢◌, ◌⊎◌, ℕ, zero, suc, ◌+◌, ◌<◌, ◌≤◌, Bool, true, false, List, [], ◌∷◌, ◌++◌, length, length-append, map, reverse, Option, Some, None, refl, sym, ap, ap₂, ◌∙◌, subst, inl, inr, arith, append_assoc, append-nil}
use Rattle.std.specs.Prelude.{nat_eq}
use Rattle.std.specs.List.{AllByRecursion}
use Rattle.std.proofs.lemmas.Bool.Decides.{nat_tests}
use Rattle.std.proofs.lemmas.Grind.{flat_map-append}
use Rattle.std.proofs.lemmas.List.{map-append, reverse-append}
use Rattle.guest_words.specs.Separators.{lacks}
use Rattle.guest_words.specs.declared.endings.Finish.{Finish}
use Rattle.thread_sched.specs.declared.entry.Entry.{Entry}
use Rattle.thread_sched.specs.ScheduleText.{IsEntry, IsLineBefore, IsNoEntry, entry_text, schedule_text}
use Rattle.trace_file.specs.Pieces.{IsRecord}
use Rattle.trace_file.specs.Reading.{IsOutOfOrder, IsTraceRefused, Leads}
use Rattle.trace_file.specs.Records.{Fits, form, head, record_bytes}
use Rattle.trace_file.specs.declared.records.Form.{Form}
use Rattle.trace_file.specs.declared.records.Form.TheVariants.{Step, Read, Write, Fill, Call, Ret, Start, End, Named, Exit, Fault, Budget, Deadlock, Deep, Schedule}
use Rattle.trace_file.specs.TraceText.{IsRising, IsTrace, Names, Told, event_records, magic, name_records, records, text_of, told_text}
use Rattle.trace_file.specs.declared.errors.TraceError.{TraceError}
use Rattle.trace_file.specs.declared.errors.TraceError.TheVariants as errors
use Rattle.trace_file.specs.declared.records.Record.{Record}
use Rattle.trace_file.specs.declared.records.Record.TheVariants.{OfEvent, OfName, OfFinish}
use Rattle.trace_file.proofs.ReadBytes.{text_more}
use Rattle.trace_model.specs.declared.event_kinds.Event.{Event}
use Rattle.trace_model.specs.WellFormed.{IsWellFormed}
use Rattle.aprof_top.specs.Schedules.{Reading, Reads}
use Rattle.aprof_top.specs.Schedules.Reading.{Turns, BadLine}

-- it can't be that there is none
abbrev pub IsThere : Type 0 → Type 0
IsThere A = (A → ⊥) → ⊥

-- it holds or it doesn't, where what follows from both is that something is there
by_cases : {B : Type 0} (A : Type 0) → (A → IsThere B) → ((A → ⊥) → IsThere B) → IsThere B
by_cases A holds fails none = fails (λ a. holds a none) none

-- ---- schedules
-- a text up to its first byte 10, and what stands from that on
record Parted (text : List ℕ) : Type 0 where
  line : List ℕ
  rest : List ℕ
  whole : text ≡ line ++ rest
  lacking : lacks 10 line ≡ true
  follows : (rest ≡ []) ⊎ ((more : List ℕ) × (rest ≡ 10 ∷ more))

part : (text : List ℕ) → Parted text
part [] = record { line = []; rest = []; whole = refl; lacking = refl; follows = inl refl }
part (b ∷ text) = by (nat_eq b 10) refl (part text)
  where
    other : nat_eq b 10 ≡ false → (line : List ℕ) → lacks 10 line ≡ true → lacks 10 (b ∷ line) ≡ true
    other is line lacking = grind (arith, nat_tests, is, lacking)

    same : nat_eq b 10 ≡ true → b ≡ 10
    same is = grind (arith, nat_tests, is)

    by : (t : Bool) → nat_eq b 10 ≡ t → Parted text → Parted (b ∷ text)
    by true is p = record { line = []; rest = b ∷ text; whole = refl; lacking = refl; follows = inr (text, ap (λ x. x ∷ text) (same is)) }
    by false is p = record { line = b ∷ p.line; rest = p.rest; whole = ap (λ y. b ∷ y) p.whole; lacking = other is p.line p.lacking; follows = p.follows }

entries_more : (entries : List Entry) (e : Entry) → schedule_text (entries ++ e ∷ []) ≡ schedule_text entries ++ (entry_text e ++ 10 ∷ [])
entries_more entries e =
    flat_map-append (λ (e : Entry). entry_text e ++ 10 ∷ []) entries (e ∷ [])
    ∙ ap (λ y. schedule_text entries ++ y) (append-nil (entry_text e ++ 10 ∷ []))

all_more : (entries : List Entry) (e : Entry) → AllByRecursion IsEntry entries → IsEntry e → AllByRecursion IsEntry (entries ++ e ∷ [])
all_more [] e all here = (here, tt)
all_more (x ∷ entries) e all here = (all.0, all_more entries e all.1 here)

-- the text is read up to these entries, and this stands behind them
module _ (text : List ℕ) where
  abbrev IsRead : Type 0
  IsRead = IsThere ((reading : Reading) × Reads text reading)

  bad : (entries : List Entry) (line rest : List ℕ) → AllByRecursion IsEntry entries → text ≡ schedule_text entries ++ (line ++ rest) → IsLineBefore line rest → IsNoEntry line → IsRead
  bad entries line rest before whole is_line other none =
      none (BadLine (length entries + 1), record { entries = entries; bytes = line; rest = rest; before = before; counted = refl; whole = whole; line = is_line; bad = other })

  last : (entries : List Entry) (e : Entry) → AllByRecursion IsEntry entries → IsEntry e → text ≡ schedule_text entries ++ entry_text e → IsRead
  last entries e before fits whole none =
      none (
        Turns (entries ++ e ∷ []),
        (
          all_more entries e before fits,
          inr (ap (λ y. y ++ 10 ∷ []) whole ∙ append_assoc (schedule_text entries) (entry_text e) (10 ∷ []) ∙ sym (entries_more entries e)),
        ),
      )

  module _ (entries : List Entry) (before : AllByRecursion IsEntry entries) (rest : List ℕ) (some : rest ≢ []) (whole : text ≡ schedule_text entries ++ rest) where
    -- the rest begins with the line of an entry, behind which it is read on
    is_entry : (p : Parted rest) (e : Entry) → IsEntry e → p.line ≡ entry_text e
        → ((more : List ℕ) → length more < length rest → text ≡ schedule_text (entries ++ e ∷ []) ++ more → IsRead) → IsRead
    is_entry p e fits is read_on = by p.follows
      where
        by : (p.rest ≡ []) ⊎ ((more : List ℕ) × (p.rest ≡ 10 ∷ more)) → IsRead
        by (inl none) = last entries e before fits (whole ∙ ap (λ y. schedule_text entries ++ y) (p.whole ∙ ap₂ (λ x y. x ++ y) is none ∙ append-nil (entry_text e)))
        by (inr (more, follows)) =
            let split : rest ≡ entry_text e ++ 10 ∷ more = p.whole ∙ ap₂ (λ x y. x ++ y) is follows in
            let sizes : length rest ≡ length (entry_text e ++ 10 ∷ more) = ap length split in
            read_on more (omega (arith, sizes, length-append (entry_text e) (10 ∷ more)))
            (whole ∙ ap (λ y. schedule_text entries ++ y) (split ∙ sym (append_assoc (entry_text e) (10 ∷ []) more))
            ∙ sym (append_assoc (schedule_text entries) (entry_text e ++ 10 ∷ []) more)
            ∙ ap (λ y. y ++ more) (sym (entries_more entries e)))

    one_line : (p : Parted rest) → ((e : Entry) → IsEntry e → (more : List ℕ) → length more < length rest → text ≡ schedule_text (entries ++ e ∷ []) ++ more → IsRead) → IsRead
    one_line p read_on =
        by_cases ((e : Entry) × IsEntry e × (p.line ≡ entry_text e)) (λ found. is_entry p found.0 found.1 found.2 (read_on found.0 found.1))
        (λ none. bad entries p.line p.rest before (whole ∙ ap (λ y. schedule_text entries ++ y) p.whole) (p.lacking, ends p.follows) (λ e fits is. none (e, fits, is)))
      where
        ends : (p.rest ≡ []) ⊎ ((more : List ℕ) × (p.rest ≡ 10 ∷ more)) → ((p.line ≢ []) × (p.rest ≡ [])) ⊎ ((more : List ℕ) × (p.rest ≡ 10 ∷ more))
        ends (inl none) = inl ((λ empty. some (p.whole ∙ ap₂ (λ x y. x ++ y) empty none)), none)
        ends (inr more) = inr more

  read_from : (fuel : ℕ) (entries : List Entry) (rest : List ℕ) → length rest ≤ fuel → AllByRecursion IsEntry entries → text ≡ schedule_text entries ++ rest → IsRead
  read_from fuel entries [] short before whole = λ none. none (Turns entries, (before, inl (whole ∙ append-nil (schedule_text entries))))
  read_from zero entries (b ∷ rest) short before whole = absurd (omega (arith, short))
  read_from (suc fuel) entries (b ∷ rest) short before whole =
      one_line entries before (b ∷ rest) (λ none. cc) whole (part (b ∷ rest))
      (λ e fits more less next. read_from fuel (entries ++ e ∷ []) more (omega (arith, short, less)) (all_more entries e before fits) next)

  pub each_text_reads : IsRead
  each_text_reads = read_from (length text) [] text (omega arith) tt refl

-- ---- traces
-- of two beginnings of one list the one begins with the other
record Longer (xs ys : List ℕ) : Type 0 where
  more : List ℕ
  some : more ≢ []
  whole : xs ++ more ≡ ys

either_first : (xs a ys b : List ℕ) → xs ++ a ≡ ys ++ b → ((rest : List ℕ) × (xs ≡ ys ++ rest)) ⊎ Longer xs ys
either_first xs a [] b same = inl (xs, refl)
either_first [] a (y ∷ ys) b same = inr (record { more = y ∷ ys; some = λ none. cc; whole = refl })
either_first (x ∷ xs) a (y ∷ ys) b same = by (either_first xs a ys b (cc same))
  where
    head : x ≡ y
    head = cc same

    by : ((rest : List ℕ) × (xs ≡ ys ++ rest)) ⊎ Longer xs ys → ((rest : List ℕ) × (x ∷ xs ≡ y ∷ ys ++ rest)) ⊎ Longer (x ∷ xs) (y ∷ ys)
    by (inl (rest, is)) = inl (rest, ap₂ (λ a later. a ∷ later) head is)
    by (inr l) = inr (record { more = l.more; some = l.some; whole = ap₂ (λ a later. a ∷ later) head l.whole })

-- the bytes are the text of a trace
pub record SomeTrace (bytes : List ℕ) : Type 0 where
  pub past : List Event
  pub names : Names
  pub finish : Finish
  pub trace : IsTrace bytes past names finish

-- they are refused, for another cause than out of memory
pub record SomeRefusal (bytes : List ℕ) : Type 0 where
  pub past : List Event
  pub why : TraceError
  pub refused : IsTraceRefused bytes past why
  pub no_memory : why ≢ errors.Memory

abbrev told : List Event → Names → Option Finish → Told
told past names finish = record { past = past; names = names; finish = finish }

fits_more : (rs : List Record) (r : Record) → AllByRecursion Fits rs → Fits r → AllByRecursion Fits (rs ++ r ∷ [])
fits_more [] r all here = (here, tt)
fits_more (q ∷ rs) r all here = (all.0, fits_more rs r all.1 here)

-- what is told with one record more leads as far
leads_more : (bytes : List ℕ) (t u : Told) (r : Record) (rest : List ℕ) → Leads bytes t (record_bytes r ++ rest) → records u ≡ records t ++ r ∷ [] → Fits r → IsWellFormed u.past → IsRising u.names → Leads bytes u rest
leads_more bytes t u r rest leads more fits formed rising = record {
  told = record { formed = formed; rising = rising; fits = subst (λ rs. AllByRecursion Fits rs) (sym more) (fits_more (records t) r leads.told.fits fits) };
  text = leads.text ∙ sym (append_assoc (told_text t) (record_bytes r) rest) ∙ ap (λ y. y ++ rest) (sym (ap text_of more ∙ text_more (records t) r));
}

event_more : (past : List Event) (e : Event) → records (told (e ∷ past) [] None) ≡ records (told past [] None) ++ OfEvent e ∷ []
event_more past e =
    append-nil (event_records (e ∷ past))
    ∙ ap (map OfEvent) (reverse-append (e ∷ []) past)
    ∙ map-append OfEvent (reverse past) (e ∷ [])
    ∙ ap (λ y. y ++ OfEvent e ∷ []) (sym (append-nil (event_records past)))

name_more : (past : List Event) (names : Names) (entry : ℕ) (name : List ℕ) → records (told past (names ++ (entry, name) ∷ []) None) ≡ records (told past names None) ++ OfName entry name ∷ []
name_more past names entry name =
    ap (λ y. event_records past ++ y)
    (append-nil _ ∙ map-append (λ (x : ℕ × List ℕ). OfName x.0 x.1) names ((entry, name) ∷ []) ∙ ap (λ y. y ++ OfName entry name ∷ []) (sym (append-nil (name_records names))))
    ∙ sym (append_assoc (event_records past) (name_records names ++ []) (OfName entry name ∷ []))

finish_more : (past : List Event) (names : Names) (f : Finish) → records (told past names (Some f)) ≡ records (told past names None) ++ OfFinish f ∷ []
finish_more past names f =
    ap (λ y. event_records past ++ (y ++ OfFinish f ∷ [])) (sym (append-nil (name_records names)))
    ∙ sym (append_assoc (event_records past) (name_records names ++ []) (OfFinish f ∷ []))

-- a record has a byte
head_some : (f : Form) (rest : List ℕ) → 1 ≤ length (head f ++ rest)
head_some Step rest = omega arith
head_some Read rest = omega arith
head_some Write rest = omega arith
head_some Fill rest = omega arith
head_some Call rest = omega arith
head_some Ret rest = omega arith
head_some Start rest = omega arith
head_some End rest = omega arith
head_some Named rest = omega arith
head_some Exit rest = omega arith
head_some Fault rest = omega arith
head_some Budget rest = omega arith
head_some Deadlock rest = omega arith
head_some Deep rest = omega arith
head_some Schedule rest = omega arith

record_some : (r : Record) → 1 ≤ length (record_bytes r)
record_some r = head_some (form r) _

module _ (bytes : List ℕ) where
  abbrev IsAnswered : Type 0
  IsAnswered = IsThere (SomeTrace bytes ⊎ SomeRefusal bytes)

  refused : (past : List Event) (why : TraceError) → IsTraceRefused bytes past why → why ≢ errors.Memory → IsAnswered
  refused past why is no_memory none = none (inr (record { past = past; why = why; refused = is; no_memory = no_memory }))

  -- behind what is told comes no whole record
  stopped : (past : List Event) (names : Names) (rest : List ℕ) → Leads bytes (told past names None) rest
      → ((r : Record) (behind : List ℕ) → Fits r → rest ≡ record_bytes r ++ behind → ⊥) → IsAnswered
  stopped past names rest leads unread =
      by_cases ((more : List ℕ) × IsRecord (rest ++ more)) (λ found. begun found.0 found.1) (λ none. misformed (λ more is. none (more, is)))
    where
      unfinished : (x behind : List ℕ) → IsRecord x → rest ≢ x ++ behind
      unfinished x behind (r, fits, is) same = unread r behind fits (same ∙ ap (λ y. y ++ behind) is)

      begun : (more : List ℕ) → IsRecord (rest ++ more) → IsAnswered
      begun more is = refused past errors.Short (inr (record {
        told = told past names None;
        rest = rest;
        leads = leads;
        events = refl;
        unfinished = refl;
        begun = record {
          more = more;
          some = λ none. unfinished (rest ++ more) [] is (sym (append-nil rest) ∙ ap (λ y. rest ++ y) (sym none) ∙ sym (append-nil (rest ++ more)));
          text = is;
          unfinished = λ x behind whole. unfinished x behind whole;
        };
      })) (λ same. cc)

      misformed : ((more : List ℕ) → IsRecord (rest ++ more) → ⊥) → IsAnswered
      misformed none = refused past (errors.Record _) (record {
        told = told past names None;
        rest = rest;
        leads = leads;
        events = refl;
        place = refl;
        misformed = λ x more behind is same. by x behind is (either_first rest more x behind same);
      }) (λ same. cc)
        where
          by : (x behind : List ℕ) → IsRecord x → ((back : List ℕ) × (rest ≡ x ++ back)) ⊎ Longer rest x → ⊥
          by x behind is (inl (back, same)) = unfinished x back is same
          by x behind is (inr l) = none l.more (subst IsRecord (sym l.whole) is)

  -- the next record may not come there
  misplaced : (past : List Event) (names : Names) (r : Record) (rest : List ℕ) → Leads bytes (told past names None) (record_bytes r ++ rest) → Fits r → IsOutOfOrder (told past names None) r → IsAnswered
  misplaced past names r rest leads fits out = refused past (errors.Order _) (record {
    told = told past names None;
    first = r;
    rest = rest;
    leads = leads;
    events = refl;
    place = refl;
    fits = fits;
    unfinished = refl;
    misplaced = out;
  }) (λ same. cc)

  -- it is the end
  ended : (past : List Event) (names : Names) (f : Finish) (rest : List ℕ) → Leads bytes (told past names (Some f)) rest → IsAnswered
  ended past names f [] leads =
      λ none. none (inl (record { past = past; names = names; finish = f; trace = record { told = leads.told; text = leads.text ∙ append-nil (told_text (told past names (Some f))) } }))
  ended past names f (b ∷ rest) leads = refused past (errors.Record _) (record {
    told = told past names (Some f);
    rest = b ∷ rest;
    leads = leads;
    events = refl;
    place = refl;
    misformed = λ none. cc;
  }) (λ same. cc)

  -- how it goes on behind what is told, up to a length
  abbrev GoesOn : ℕ → Type 0
  GoesOn fuel = (past : List Event) (names : Names) (rest : List ℕ) → length rest ≤ fuel → Leads bytes (told past names None) rest → IsAnswered

  next : (fuel : ℕ) → GoesOn fuel → (r : Record) (past : List Event) (names : Names) (rest : List ℕ) → Fits r → length rest ≤ fuel → Leads bytes (told past names None) (record_bytes r ++ rest) → IsAnswered
  next fuel go (OfFinish f) past names rest fits less leads =
      ended past names f rest (leads_more bytes (told past names None) (told past names (Some f)) (OfFinish f) rest leads (finish_more past names f) fits leads.told.formed leads.told.rising)
  next fuel go (OfName entry name) past names rest fits less leads =
      by_cases (IsRising (names ++ (entry, name) ∷ []))
      (λ rising. go past (names ++ (entry, name) ∷ []) rest less
      (leads_more bytes (told past names None) (told past (names ++ (entry, name) ∷ []) None) (OfName entry name) rest leads (name_more past names entry name) fits leads.told.formed rising))
      (λ falls. misplaced past names (OfName entry name) rest leads fits falls)
  next fuel go (OfEvent e) past [] rest fits less leads =
      by_cases (IsWellFormed (e ∷ past))
      (λ formed. go (e ∷ past) [] rest less
      (leads_more bytes (told past [] None) (told (e ∷ past) [] None) (OfEvent e) rest leads (event_more past e) fits formed leads.told.rising))
      (λ breaks. misplaced past [] (OfEvent e) rest leads fits (inr breaks))
  next fuel go (OfEvent e) past (n ∷ names) rest fits less leads = misplaced past (n ∷ names) (OfEvent e) rest leads fits (inl (λ none. cc))

  abbrev BeginsWith : List ℕ → Type 0
  BeginsWith rest = (r : Record) × ((behind : List ℕ) × Fits r × (rest ≡ record_bytes r ++ behind))

  shorter : (n : ℕ) (rest behind : List ℕ) (r : Record) → length rest ≤ n → rest ≡ record_bytes r ++ behind → length behind + 1 ≤ n
  shorter n rest behind r short is =
      let sizes : length rest ≡ length (record_bytes r ++ behind) = ap length is in
      omega (arith, short, sizes, length-append (record_bytes r) behind, record_some r)

  goes_on : (fuel : ℕ) → GoesOn fuel
  goes_on zero past names rest short leads =
      by_cases (BeginsWith rest) (λ found. (let less = shorter 0 rest found.1.0 found.0 short found.1.2 in absurd (omega (arith, less))))
      (λ none. stopped past names rest leads (λ r behind fits is. none (r, (behind, fits, is))))
  goes_on (suc fuel) past names rest short leads =
      by_cases (BeginsWith rest)
      (λ found. (let less = shorter (suc fuel) rest found.1.0 found.0 short found.1.2 in
      next fuel (goes_on fuel) found.0 past names found.1.0 found.1.1 (omega (arith, less)) (subst (Leads bytes (told past names None)) found.1.2 leads)))
      (λ none. stopped past names rest leads (λ r behind fits is. none (r, (behind, fits, is))))

  pub each_trace_reads : IsAnswered
  each_trace_reads =
      by_cases ((more : List ℕ) × ((rest : List ℕ) × (bytes ++ more ≡ magic ++ rest)))
      (λ found. by (either_first bytes found.0 magic found.1.0 found.1.1))
      (λ none. refused [] errors.Magic ((λ more rest same. none (more, (rest, same))), refl) (λ same. cc))
    where
      by : ((rest : List ℕ) × (bytes ≡ magic ++ rest)) ⊎ Longer bytes magic → IsAnswered
      by (inl (rest, is)) = goes_on (length rest) [] [] rest (omega arith) (record {
        told = record { formed = tt; rising = λ i j d less inside. absurd (omega arith); fits = tt };
        text = is ∙ ap (λ y. y ++ rest) (sym (append-nil magic));
      })
      by (inr l) = refused [] errors.Short (inl (record { more = l.more; some = l.some; whole = l.whole }, refl)) (λ same. cc)

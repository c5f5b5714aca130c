-- Bytes read in one way.
use Rattle.std.proofs.Common.{inl, inr, ◌≡◌, ◌≢◌, ℕ, ◌<◌, ◌++◌, ◌∷◌, [], List, Option, Some, None, map, reverse, length, get_or, refl, sym, subst, ap, ap₂, ◌∙◌, arith, append_assoc, append-nil, length-append}
use Rattle.std.specs.List.{flat_map, AllByRecursion}
use Rattle.std.proofs.Math.ListN.{get_or-append}
use Rattle.std.proofs.lemmas.List.{append_cancel_left, reverse-append, reverse-reverse}
use Rattle.guest_words.specs.declared.endings.Finish.{Finish}
use Rattle.trace_model.specs.declared.event_kinds.Event.{Event}
use Rattle.trace_model.specs.WellFormed.{IsWellFormed}
use Rattle.trace_file.specs.declared.records.Record.{Record}
use Rattle.trace_file.specs.declared.records.Record.TheVariants.{OfEvent, OfName, OfFinish}
use Rattle.trace_file.specs.declared.errors.TraceError.{TraceError}
use Rattle.trace_file.specs.declared.errors.TraceError.TheVariants as errors
use Rattle.trace_file.specs.Records.{Fits, record_bytes}
use Rattle.trace_file.specs.Pieces.{IsBegun, IsNone, IsRecord}
use Rattle.trace_file.specs.Reading.{Begins, FailsForm, FailsOrder, IsInLine, IsMisformed, IsOutOfOrder, IsTraceRefused, IsShort, Leads}
use Rattle.trace_file.specs.TraceText.{IsRising, IsTold, IsTrace, Names, Told, finish_records, magic, name_records, records, told_text, whole}
use Rattle.trace_file.specs.Laws.{IsEarlier}
use Rattle.trace_file.proofs.OneRecord.{Longer, decode, one_record}

-- ---- what a list of records says
abbrev events_in : List Record → List Event
events_in [] = []
events_in (OfEvent e ∷ rs) = e ∷ events_in rs
events_in (OfName entry name ∷ rs) = events_in rs
events_in (OfFinish f ∷ rs) = events_in rs

abbrev names_in : List Record → Names
names_in [] = []
names_in (OfEvent e ∷ rs) = names_in rs
names_in (OfName entry name ∷ rs) = (entry, name) ∷ names_in rs
names_in (OfFinish f ∷ rs) = names_in rs

abbrev finish_in : List Record → Option Finish
finish_in [] = None
finish_in (OfEvent e ∷ rs) = finish_in rs
finish_in (OfName entry name ∷ rs) = finish_in rs
finish_in (OfFinish f ∷ rs) = Some f

events-append : (xs ys : List Record) → events_in (xs ++ ys) ≡ events_in xs ++ events_in ys
events-append [] ys = refl
events-append (OfEvent e ∷ xs) ys = ap (λ y. e ∷ y) (events-append xs ys)
events-append (OfName entry name ∷ xs) ys = events-append xs ys
events-append (OfFinish f ∷ xs) ys = events-append xs ys

names-append : (xs ys : List Record) → names_in (xs ++ ys) ≡ names_in xs ++ names_in ys
names-append [] ys = refl
names-append (OfEvent e ∷ xs) ys = names-append xs ys
names-append (OfName entry name ∷ xs) ys = ap (λ (y : Names). (entry, name) ∷ y) (names-append xs ys)
names-append (OfFinish f ∷ xs) ys = names-append xs ys

events_of : (es : List Event) (ns : Names) (f : Option Finish) → events_in (map OfEvent es ++ (name_records ns ++ finish_records f)) ≡ es
events_of (e ∷ es) ns f = ap (λ y. e ∷ y) (events_of es ns f)
events_of [] (n ∷ ns) f = events_of [] ns f
events_of [] [] None = refl
events_of [] [] (Some f) = refl

names_of : (es : List Event) (ns : Names) (f : Option Finish) → names_in (map OfEvent es ++ (name_records ns ++ finish_records f)) ≡ ns
names_of (e ∷ es) ns f = names_of es ns f
names_of [] (n ∷ ns) f = ap (λ (y : Names). n ∷ y) (names_of [] ns f)
names_of [] [] None = refl
names_of [] [] (Some f) = refl

finish_of : (es : List Event) (ns : Names) (f : Option Finish) → finish_in (map OfEvent es ++ (name_records ns ++ finish_records f)) ≡ f
finish_of (e ∷ es) ns f = finish_of es ns f
finish_of [] (n ∷ ns) f = finish_of [] ns f
finish_of [] [] None = refl
finish_of [] [] (Some f) = refl

-- ---- in which order records stand
-- nothing stands behind the end, and no event behind a name
abbrev MayStand : Record → Record → Type 0
MayStand (OfEvent e) y = Unit {0}
MayStand (OfName entry name) (OfEvent e) = ⊥
MayStand (OfName entry name) y = Unit {0}
MayStand (OfFinish f) y = ⊥

abbrev Ordered : List Record → Type 0
Ordered [] = Unit {0}
Ordered (x ∷ xs) = AllByRecursion (MayStand x) xs × Ordered xs

all_behind_event : (e : Event) (xs : List Record) → AllByRecursion (MayStand (OfEvent e)) xs
all_behind_event e [] = tt
all_behind_event e (x ∷ xs) = (tt, all_behind_event e xs)

all_behind_name : (entry : ℕ) (name : List ℕ) (ns : Names) (f : Option Finish) → AllByRecursion (MayStand (OfName entry name)) (name_records ns ++ finish_records f)
all_behind_name entry name [] None = tt
all_behind_name entry name [] (Some f) = (tt, tt)
all_behind_name entry name (n ∷ ns) f = (tt, all_behind_name entry name ns f)

ordered : (es : List Event) (ns : Names) (f : Option Finish) → Ordered (map OfEvent es ++ (name_records ns ++ finish_records f))
ordered (e ∷ es) ns f = (all_behind_event e (map OfEvent es ++ (name_records ns ++ finish_records f)), ordered es ns f)
ordered [] (n ∷ ns) f = (all_behind_name n.0 n.1 ns f, ordered [] ns f)
ordered [] [] None = tt
ordered [] [] (Some f) = (tt, tt)

last_all : (P : Record → Type 0) (xs : List Record) (z : Record) (zs : List Record) → AllByRecursion P (xs ++ z ∷ zs) → P z
last_all P [] z zs all = all.0
last_all P (x ∷ xs) z zs all = last_all P xs z zs all.1

-- a record behind others: no end stands among them, and where it is an event no name
none_behind_end : (xs : List Record) (z : Record) (zs : List Record) (f : Finish) → Ordered (xs ++ z ∷ zs) → finish_in xs ≡ Some f → ⊥
none_behind_end [] z zs f ordered is = let apart : ◌≡◌ {A = Option Finish} None (Some f) = is in cc
none_behind_end (OfEvent e ∷ xs) z zs f ordered is = none_behind_end xs z zs f ordered.1 is
none_behind_end (OfName entry name ∷ xs) z zs f ordered is = none_behind_end xs z zs f ordered.1 is
none_behind_end (OfFinish g ∷ xs) z zs f ordered is = last_all (MayStand (OfFinish g)) xs z zs ordered.0

no_name_before : (xs : List Record) (e : Event) (zs : List Record) → Ordered (xs ++ OfEvent e ∷ zs) → names_in xs ≡ []
no_name_before [] e zs ordered = refl
no_name_before (OfEvent d ∷ xs) e zs ordered = no_name_before xs e zs ordered.1
no_name_before (OfName entry name ∷ xs) e zs ordered = absurd (last_all (MayStand (OfName entry name)) xs (OfEvent e) zs ordered.0)
no_name_before (OfFinish g ∷ xs) e zs ordered = no_name_before xs e zs ordered.1

-- ---- a record that is told comes in its order
formed_before : (more past : List Event) → IsWellFormed (more ++ past) → IsWellFormed past
formed_before [] past formed = formed
formed_before (e ∷ more) past formed = formed_before more past formed.2

past_before : (past past' : List Event) (e : Event) (more : List Event) → reverse past' ≡ reverse past ++ e ∷ more → past' ≡ reverse more ++ e ∷ past
past_before past past' e more is =
    sym (reverse-reverse past') ∙ ap (λ (y : List Event). reverse y) is ∙ reverse-append (reverse past) (e ∷ more)
    ∙ ap (λ y. reverse (e ∷ more) ++ y) (reverse-reverse past) ∙ ap (λ y. y ++ past) (reverse-append (e ∷ []) more) ∙ append_assoc (reverse more) (e ∷ []) past

rising_before : (ns : Names) (n : ℕ × List ℕ) (more : Names) → IsRising (ns ++ n ∷ more) → IsRising (ns ++ n ∷ [])
rising_before ns n more rising i j d before low =
    let split : (ns ++ n ∷ []) ++ more ≡ ns ++ n ∷ more = append_assoc ns (n ∷ []) more in
    let long = length-append ns (n ∷ []) in
    let long' = length-append ns (n ∷ more) in
    let at : (k : ℕ) → k < length (ns ++ n ∷ []) → (get_or (ns ++ n ∷ more) k d).0 ≡ (get_or (ns ++ n ∷ []) k d).0 =
    λ k within. ap (λ (y : ℕ × List ℕ). y.0) (ap (λ (y : Names). get_or y k d) (sym split) ∙ get_or-append (ns ++ n ∷ []) more d k within) in
    let less : (get_or (ns ++ n ∷ more) i d).0 < (get_or (ns ++ n ∷ more) j d).0 = rising i j d before (omega (arith, long, long')) in
    omega (arith, at i (omega arith), at j low, less)

in_order : (t u : Told) (z : Record) (zs : List Record) → IsTold u → records u ≡ records t ++ z ∷ zs → IsOutOfOrder t z → ⊥
in_order t u (OfEvent e) zs told is (inl named) =
    named (sym (names_of (reverse t.past) t.names t.finish) ∙ no_name_before (records t) e zs (subst Ordered is (ordered (reverse u.past) u.names u.finish)))
in_order t u (OfEvent e) zs told is (inr breaks) =
    let events = sym (events_of (reverse u.past) u.names u.finish) ∙ ap events_in is ∙ events-append (records t) (OfEvent e ∷ zs) ∙ ap (λ y. y ++ e ∷ events_in zs) (events_of (reverse t.past) t.names t.finish) in
    breaks (formed_before (reverse (events_in zs)) (e ∷ t.past) (subst IsWellFormed (past_before t.past u.past e (events_in zs) events) told.formed))
in_order t u (OfName entry name) zs told is falls =
    let names = sym (names_of (reverse u.past) u.names u.finish) ∙ ap names_in is ∙ names-append (records t) (OfName entry name ∷ zs) ∙ ap (λ (y : Names). y ++ (entry, name) ∷ names_in zs) (names_of (reverse t.past) t.names t.finish) in
    falls (rising_before t.names (entry, name) (names_in zs) (subst IsRising names told.rising))
in_order t u (OfFinish f) zs told is falls = falls

-- ---- where nothing more is told
abbrev Stuck : Told → List ℕ → Type 0
Stuck t rest = (u : Told) (z : Record) (zs : List Record) (behind : List ℕ) → IsTold u → records u ≡ records t ++ z ∷ zs → rest ≡ record_bytes z ++ behind → ⊥

fits_at : (xs : List Record) (z : Record) (zs : List Record) → AllByRecursion Fits (xs ++ z ∷ zs) → Fits z
fits_at xs z zs all = last_all Fits xs z zs all

z_fits : (t u : Told) (z : Record) (zs : List Record) → IsTold u → records u ≡ records t ++ z ∷ zs → Fits z
z_fits t u z zs told is = fits_at (records t) z zs (subst (λ rs. AllByRecursion Fits rs) is told.fits)

ended_stuck : (t : Told) (f : Finish) (rest : List ℕ) → t.finish ≡ Some f → Stuck t rest
ended_stuck t f rest ends u z zs behind told is text =
    none_behind_end (records t) z zs f (subst Ordered is (ordered (reverse u.past) u.names u.finish)) (finish_of (reverse t.past) t.names t.finish ∙ ends)

begun_stuck : (t : Told) (rest : List ℕ) → IsBegun IsRecord rest → Stuck t rest
begun_stuck t rest begun u z zs behind told is text = begun.unfinished (record_bytes z) behind (z, z_fits t u z zs told is, refl) text

misformed_stuck : (t : Told) (rest : List ℕ) → IsMisformed t.finish rest → Stuck t rest
misformed_stuck t rest misformed = by t.finish refl misformed
  where
    by : (o : Option Finish) → t.finish ≡ o → IsMisformed o rest → Stuck t rest
    by None is none = λ u z zs behind told more text. none (record_bytes z) [] behind (z, z_fits t u z zs told more, refl) (append-nil rest ∙ text)
    by (Some f) is some = ended_stuck t f rest is

misplaced_stuck : (t : Told) (first : Record) (rest : List ℕ) → Fits first → IsOutOfOrder t first → Stuck t (record_bytes first ++ rest)
misplaced_stuck t first rest fits misplaced u z zs behind told is text =
    let one = one_record first z rest behind fits (z_fits t u z zs told is) text in
    in_order t u z zs told is (subst (λ r. IsOutOfOrder t r) one.0 misplaced)

-- ---- two that are stuck are one
record Same (t u : Told) (a b : List ℕ) : Type 0 where
  told : t ≡ u
  rest : a ≡ b

same_told : (t u : Told) → records t ≡ records u → t ≡ u
same_told t u is =
    let past : t.past ≡ u.past = sym (reverse-reverse t.past) ∙ ap (λ (y : List Event). reverse y) (sym (events_of (reverse t.past) t.names t.finish) ∙ ap events_in is ∙ events_of (reverse u.past) u.names u.finish) ∙ reverse-reverse u.past in
    let names : t.names ≡ u.names = sym (names_of (reverse t.past) t.names t.finish) ∙ ap names_in is ∙ names_of (reverse u.past) u.names u.finish in
    let finish : t.finish ≡ u.finish = sym (finish_of (reverse t.past) t.names t.finish) ∙ ap finish_in is ∙ finish_of (reverse u.past) u.names u.finish in
    ap₂ (λ p ns. record { past = p; names = ns; finish = t.finish }) past names ∙ ap (λ o. record { past = u.past; names = u.names; finish = o }) finish

of_longer : (t u : Told) (a b : List ℕ) → Stuck t a → IsTold u → Longer (records t) (records u) a b → Same t u a b
of_longer t u a b stuck told l = by l.more refl
  where
    by : (more : List Record) → l.more ≡ more → Same t u a b
    by [] is = record {
      told = same_told t u (sym (append-nil (records t)) ∙ ap (λ y. records t ++ y) (sym is) ∙ sym l.whole);
      rest = l.rest ∙ ap (λ y. flat_map record_bytes y ++ b) is;
    }
    by (z ∷ zs) is = absurd (stuck u z zs (flat_map record_bytes zs ++ b) told (l.whole ∙ ap (λ y. records t ++ y) is)
        (l.rest ∙ ap (λ y. flat_map record_bytes y ++ b) is ∙ append_assoc (record_bytes z) (flat_map record_bytes zs) b))

turned : (t u : Told) (a b : List ℕ) → Same u t b a → Same t u a b
turned t u a b same = record { told = sym same.told; rest = sym same.rest }

one_leads : (bytes : List ℕ) (t u : Told) (a b : List ℕ) → Leads bytes t a → Leads bytes u b → Stuck t a → Stuck u b → Same t u a b
one_leads bytes t u a b leads leads' stuck stuck' =
    let whole = sym (append_assoc magic (flat_map record_bytes (records t)) a) ∙ sym leads.text ∙ leads'.text ∙ append_assoc magic (flat_map record_bytes (records u)) b in
    let behind = append_cancel_left magic (flat_map record_bytes (records t) ++ a) (flat_map record_bytes (records u) ++ b) whole in
    elim (decode (records t) (records u) a b leads.told.fits leads'.told.fits behind) [
      | inl l ↦ of_longer t u a b stuck leads'.told l
      | inr l ↦ turned t u a b (of_longer u t b a stuck' leads.told l)
    ]

led : (bytes : List ℕ) (past : List Event) (names : Names) (f : Finish) → IsTrace bytes past names f → Leads bytes (whole past names f) []
led bytes past names f is = record { told = is.told; text = is.text ∙ sym (append-nil (told_text (whole past names f))) }

some_one : (f f' : Finish) → ◌≡◌ {A = Option Finish} (Some f) (Some f') → f ≡ f'
some_one f f' is = cc

pub one_trace : (bytes : List ℕ) (past past' : List Event) (names names' : Names) (f f' : Finish) → IsTrace bytes past names f → IsTrace bytes past' names' f' → (past ≡ past') × (names ≡ names') × (f ≡ f')
one_trace bytes past past' names names' f f' is is' =
    let same = one_leads bytes (whole past names f) (whole past' names' f') [] [] (led bytes past names f is) (led bytes past' names' f' is') (ended_stuck (whole past names f) f [] refl) (ended_stuck (whole past' names' f') f' [] refl) in
    let finish : ◌≡◌ {A = Option Finish} (Some f) (Some f') = ap (λ (t : Told). t.finish) same.told in
    (ap (λ (t : Told). t.past) same.told, ap (λ (t : Told). t.names) same.told, some_one f f' finish)

-- ---- refusals
behind_magic : (bytes : List ℕ) (t : Told) (rest : List ℕ) → Leads bytes t rest → bytes ≡ magic ++ (flat_map record_bytes (records t) ++ rest)
behind_magic bytes t rest leads = leads.text ∙ append_assoc magic (flat_map record_bytes (records t)) rest

magic_leads : {A : Type 0} (bytes : List ℕ) (t : Told) (rest : List ℕ) → ((more rest : List ℕ) → bytes ++ more ≢ magic ++ rest) → Leads bytes t rest → A
magic_leads bytes t rest none leads = absurd (none [] (flat_map record_bytes (records t) ++ rest) (append-nil bytes ∙ behind_magic bytes t rest leads))

magic_line : {A : Type 0} (bytes : List ℕ) → ((more rest : List ℕ) → bytes ++ more ≢ magic ++ rest) → IsInLine bytes → A
magic_line bytes none line = absurd (none line.more [] (line.whole ∙ sym (append-nil magic)))

empty : (xs : List ℕ) → length xs ≡ 0 → xs ≡ []
empty [] none = refl
empty (x ∷ xs) none = absurd (omega arith)

line_leads : {A : Type 0} (bytes : List ℕ) (t : Told) (rest : List ℕ) → IsInLine bytes → Leads bytes t rest → A
line_leads bytes t rest line leads =
    let a = ap length line.whole in
    let b = ap length (behind_magic bytes t rest leads) in
    let c = length-append bytes line.more in
    let d = length-append magic (flat_map record_bytes (records t) ++ rest) in
    absurd (line.some (empty line.more (omega (arith, a, b, c, d))))

-- what can't be refused in two ways
not_both : (o o' : Option Finish) (rest rest' : List ℕ) → IsMisformed o rest → o ≡ o' → rest ≡ rest' → o' ≡ None → IsNone IsRecord rest'
not_both o o' rest rest' misformed same equal open' = subst (λ y. IsNone IsRecord y) equal (subst (λ p. IsMisformed p rest) (same ∙ open') misformed)

no_record : (rest : List ℕ) (r : Record) (behind : List ℕ) → IsNone IsRecord rest → Fits r → rest ≡ record_bytes r ++ behind → ⊥
no_record rest r behind none fits text = none (record_bytes r) [] behind (r, fits, refl) (append-nil rest ∙ text)

no_beginning : (rest : List ℕ) → IsNone IsRecord rest → IsBegun IsRecord rest → ⊥
no_beginning rest none begun = none (rest ++ begun.more) begun.more [] begun.text (sym (append-nil (rest ++ begun.more)))

form_stuck : (bytes : List ℕ) (past : List Event) (at : ℕ) (is : FailsForm bytes past at) → Stuck is.told is.rest
form_stuck bytes past at is = misformed_stuck is.told is.rest is.misformed

order_stuck : (bytes : List ℕ) (past : List Event) (at : ℕ) (is : FailsOrder bytes past at) → Stuck is.told (record_bytes is.first ++ is.rest)
order_stuck bytes past at is = misplaced_stuck is.told is.first is.rest is.fits is.misplaced

short_stuck : (bytes : List ℕ) (past : List Event) (is : IsShort bytes past) → Stuck is.told is.rest
short_stuck bytes past is = begun_stuck is.told is.rest is.begun

form_order : (bytes : List ℕ) (past past' : List Event) (at at' : ℕ) → FailsForm bytes past at → FailsOrder bytes past' at' → ⊥
form_order bytes past past' at at' is is' =
    let same = one_leads bytes is.told is'.told _ _ is.leads is'.leads (form_stuck bytes past at is) (order_stuck bytes past' at' is') in
    no_record _ is'.first is'.rest (not_both _ _ _ _ is.misformed (ap (λ (t : Told). t.finish) same.told) same.rest is'.unfinished) is'.fits refl

form_short : (bytes : List ℕ) (past past' : List Event) (at : ℕ) → FailsForm bytes past at → IsShort bytes past' → ⊥
form_short bytes past past' at is is' =
    let same = one_leads bytes is.told is'.told _ _ is.leads is'.leads (form_stuck bytes past at is) (short_stuck bytes past' is') in
    no_beginning _ (not_both _ _ _ _ is.misformed (ap (λ (t : Told). t.finish) same.told) same.rest is'.unfinished) is'.begun

order_short : (bytes : List ℕ) (past past' : List Event) (at : ℕ) → FailsOrder bytes past at → IsShort bytes past' → ⊥
order_short bytes past past' at is is' =
    let same = one_leads bytes is.told is'.told _ _ is.leads is'.leads (order_stuck bytes past at is) (short_stuck bytes past' is') in
    is'.begun.unfinished (record_bytes is.first) is.rest (is.first, is.fits, refl) (sym same.rest)

abbrev Once : TraceError → TraceError → List Event → List Event → Type 0
Once e e' past past' = (e ≡ e') × (past ≡ past')

pub one_refusal : (bytes : List ℕ) (past past' : List Event) (e e' : TraceError) → IsTraceRefused bytes past e → IsTraceRefused bytes past' e' → e ≢ errors.Memory → e' ≢ errors.Memory → Once e e' past past'
one_refusal bytes past past' errors.Memory e' is is' m m' = absurd (m refl)
one_refusal bytes past past' errors.Magic errors.Memory is is' m m' = absurd (m' refl)
one_refusal bytes past past' (errors.Record at) errors.Memory is is' m m' = absurd (m' refl)
one_refusal bytes past past' (errors.Order at) errors.Memory is is' m m' = absurd (m' refl)
one_refusal bytes past past' errors.Short errors.Memory is is' m m' = absurd (m' refl)
one_refusal bytes past past' errors.Magic errors.Magic is is' m m' = (refl, is.1 ∙ sym is'.1)
one_refusal bytes past past' errors.Magic (errors.Record at) is is' m m' = magic_leads bytes is'.told is'.rest is.0 is'.leads
one_refusal bytes past past' errors.Magic (errors.Order at) is is' m m' = magic_leads bytes is'.told _ is.0 is'.leads
one_refusal bytes past past' errors.Magic errors.Short is (inl line) m m' = magic_line bytes is.0 line.0
one_refusal bytes past past' errors.Magic errors.Short is (inr short) m m' = magic_leads bytes short.told short.rest is.0 short.leads
one_refusal bytes past past' (errors.Record at) errors.Magic is is' m m' = magic_leads bytes is.told is.rest is'.0 is.leads
one_refusal bytes past past' (errors.Record at) (errors.Record at') is is' m m' =
    let same = one_leads bytes is.told is'.told _ _ is.leads is'.leads (form_stuck bytes past at is) (form_stuck bytes past' at' is') in
    let place : at ≡ at' = is.place ∙ ap (λ (t : Told). length (told_text t)) same.told ∙ sym is'.place in
    (ap (λ n. errors.Record n) place, sym is.events ∙ ap (λ (t : Told). t.past) same.told ∙ is'.events)
one_refusal bytes past past' (errors.Record at) (errors.Order at') is is' m m' = absurd (form_order bytes past past' at at' is is')
one_refusal bytes past past' (errors.Record at) errors.Short is (inl line) m m' = line_leads bytes is.told is.rest line.0 is.leads
one_refusal bytes past past' (errors.Record at) errors.Short is (inr short) m m' = absurd (form_short bytes past past' at is short)
one_refusal bytes past past' (errors.Order at) errors.Magic is is' m m' = magic_leads bytes is.told _ is'.0 is.leads
one_refusal bytes past past' (errors.Order at) (errors.Record at') is is' m m' = absurd (form_order bytes past' past at' at is' is)
one_refusal bytes past past' (errors.Order at) (errors.Order at') is is' m m' =
    let same = one_leads bytes is.told is'.told _ _ is.leads is'.leads (order_stuck bytes past at is) (order_stuck bytes past' at' is') in
    let place : at ≡ at' = is.place ∙ ap (λ (t : Told). length (told_text t)) same.told ∙ sym is'.place in
    (ap (λ n. errors.Order n) place, sym is.events ∙ ap (λ (t : Told). t.past) same.told ∙ is'.events)
one_refusal bytes past past' (errors.Order at) errors.Short is (inl line) m m' = line_leads bytes is.told _ line.0 is.leads
one_refusal bytes past past' (errors.Order at) errors.Short is (inr short) m m' = absurd (order_short bytes past past' at is short)
one_refusal bytes past past' errors.Short errors.Magic (inl line) is' m m' = magic_line bytes is'.0 line.0
one_refusal bytes past past' errors.Short errors.Magic (inr short) is' m m' = magic_leads bytes short.told short.rest is'.0 short.leads
one_refusal bytes past past' errors.Short (errors.Record at) (inl line) is' m m' = line_leads bytes is'.told is'.rest line.0 is'.leads
one_refusal bytes past past' errors.Short (errors.Record at) (inr short) is' m m' = absurd (form_short bytes past' past at is' short)
one_refusal bytes past past' errors.Short (errors.Order at) (inl line) is' m m' = line_leads bytes is'.told _ line.0 is'.leads
one_refusal bytes past past' errors.Short (errors.Order at) (inr short) is' m m' = absurd (order_short bytes past' past at is' short)
one_refusal bytes past past' errors.Short errors.Short (inl line) (inl line') m m' = (refl, line.1 ∙ sym line'.1)
one_refusal bytes past past' errors.Short errors.Short (inl line) (inr short) m m' = line_leads bytes short.told short.rest line.0 short.leads
one_refusal bytes past past' errors.Short errors.Short (inr short) (inl line) m m' = line_leads bytes short.told short.rest line.0 short.leads
one_refusal bytes past past' errors.Short errors.Short (inr is) (inr is') m m' =
    let same = one_leads bytes is.told is'.told _ _ is.leads is'.leads (short_stuck bytes past is) (short_stuck bytes past' is') in
    (refl, sym is.events ∙ ap (λ (t : Told). t.past) same.told ∙ is'.events)

-- ---- traces are not refused
open_end : (f : Finish) (o : Option Finish) → ◌≡◌ {A = Option Finish} (Some f) o → o ≡ None → ⊥
open_end f o is none = let apart : ◌≡◌ {A = Option Finish} (Some f) None = is ∙ none in cc

pub not_refused : (bytes : List ℕ) (past past' : List Event) (names : Names) (f : Finish) (e : TraceError) → IsTrace bytes past names f → IsTraceRefused bytes past' e → e ≡ errors.Memory
not_refused bytes past past' names f errors.Magic is is' = magic_leads bytes (whole past names f) [] is'.0 (led bytes past names f is)
not_refused bytes past past' names f (errors.Record at) is is' =
    let same = one_leads bytes (whole past names f) is'.told _ _ (led bytes past names f is) is'.leads (ended_stuck (whole past names f) f [] refl) (form_stuck bytes past' at is') in
    let ends = sym (ap (λ (t : Told). t.finish) same.told) in
    let some = subst (λ o. IsMisformed o is'.rest) ends is'.misformed in
    absurd (some (sym same.rest))
not_refused bytes past past' names f (errors.Order at) is is' =
    let same = one_leads bytes (whole past names f) is'.told _ _ (led bytes past names f is) is'.leads (ended_stuck (whole past names f) f [] refl) (order_stuck bytes past' at is') in
    absurd (open_end f is'.told.finish (ap (λ (t : Told). t.finish) same.told) is'.unfinished)
not_refused bytes past past' names f errors.Short is (inl line) = line_leads bytes (whole past names f) [] line.0 (led bytes past names f is)
not_refused bytes past past' names f errors.Short is (inr is') =
    let same = one_leads bytes (whole past names f) is'.told _ _ (led bytes past names f is) is'.leads (ended_stuck (whole past names f) f [] refl) (short_stuck bytes past' is') in
    absurd (open_end f is'.told.finish (ap (λ (t : Told). t.finish) same.told) is'.unfinished)
not_refused bytes past past' names f errors.Memory is is' = refl

-- ---- some records at the beginning
earlier : (t u : Told) (more : List Record) → records t ≡ records u ++ more → IsEarlier u.past t.past
earlier t u more is =
    let events = sym (events_of (reverse t.past) t.names t.finish) ∙ ap events_in is ∙ events-append (records u) more ∙ ap (λ y. y ++ events_in more) (events_of (reverse u.past) u.names u.finish) in
    (reverse (events_in more), sym (reverse-reverse t.past) ∙ ap (λ (y : List Event). reverse y) events ∙ reverse-append (reverse u.past) (events_in more) ∙ ap (λ y. reverse (events_in more) ++ y) (reverse-reverse u.past))

begins_earlier : (bytes : List ℕ) (t u : Told) (a b : List ℕ) → Leads bytes t a → Leads bytes u b → Stuck t a → IsEarlier u.past t.past
begins_earlier bytes t u a b leads leads' stuck =
    let whole = sym (append_assoc magic (flat_map record_bytes (records t)) a) ∙ sym leads.text ∙ leads'.text ∙ append_assoc magic (flat_map record_bytes (records u)) b in
    let behind = append_cancel_left magic (flat_map record_bytes (records t) ++ a) (flat_map record_bytes (records u) ++ b) whole in
    elim (decode (records t) (records u) a b leads.told.fits leads'.told.fits behind) [
      | inl l ↦ ([], ap (λ (x : Told). x.past) (of_longer t u a b stuck leads'.told l).told)
      | inr l ↦ earlier t u l.more l.whole
    ]

pub earlier_trace : (bytes : List ℕ) (past past' : List Event) (names : Names) (f : Finish) → Begins bytes past → IsTrace bytes past' names f → IsEarlier past past'
earlier_trace bytes past past' names f begins is =
    subst (λ p. IsEarlier p past') begins.events (begins_earlier bytes (whole past' names f) begins.told [] begins.rest (led bytes past' names f is) begins.leads (ended_stuck (whole past' names f) f [] refl))

before : (bytes : List ℕ) (past past' : List Event) (t : Told) (a : List ℕ) → Begins bytes past → Leads bytes t a → Stuck t a → t.past ≡ past' → IsEarlier past past'
before bytes past past' t a begins leads stuck is =
    subst (λ p. IsEarlier past p) is (subst (λ p. IsEarlier p t.past) begins.events (begins_earlier bytes t begins.told a begins.rest leads begins.leads stuck))

pub earlier_refusal : (bytes : List ℕ) (past past' : List Event) (e : TraceError) → Begins bytes past → IsTraceRefused bytes past' e → e ≢ errors.Memory → IsEarlier past past'
earlier_refusal bytes past past' errors.Magic begins is m = magic_leads bytes begins.told begins.rest is.0 begins.leads
earlier_refusal bytes past past' (errors.Record at) begins is m = before bytes past past' is.told is.rest begins is.leads (form_stuck bytes past' at is) is.events
earlier_refusal bytes past past' (errors.Order at) begins is m = before bytes past past' is.told _ begins is.leads (order_stuck bytes past' at is) is.events
earlier_refusal bytes past past' errors.Short begins (inl line) m = line_leads bytes begins.told begins.rest line.0 begins.leads
earlier_refusal bytes past past' errors.Short begins (inr is) m = before bytes past past' is.told is.rest begins is.leads (short_stuck bytes past' is) is.events
earlier_refusal bytes past past' errors.Memory begins is m = absurd (m refl)

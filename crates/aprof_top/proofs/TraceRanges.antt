-- The records of a run's trace fit: its numbers are in their ranges, and its names are those of routines.
use Rattle.std.proofs.Common.{◌≡◌, ◌∙◌, ℕ, ◌+◌, ◌^◌, ◌<◌, Bool, true, false, cond, ◌&&◌, ◌||◌, not, List, [], ◌∷◌, ◌++◌, length, map, reverse, fold, Option, Some, None, refl, sym, ap, subst, arith}
use Rattle.std.specs.Prelude.{◌==◌, nat_le, nat_lt, if◌then◌else◌}
use Rattle.std.specs.List.{All, AllByRecursion, filter, filter_map, list_all, range_with_len}
use Rattle.std.specs.Option.{option_map, option_map_or, option_to_list}
use Rattle.std.proofs.lemmas.Bool.{and_parts}
use Rattle.std.proofs.lemmas.Bool.Decides.{nat_tests}
use Rattle.std.proofs.lemmas.List.{map-append, reverse-append}
use Rattle.std.proofs.lemmas.List.Elements.{All-cons, All-filter, All-head, All-nil, All-tail}
use Rattle.guest_words.specs.Names.{is_dash, is_name, is_visible}
use Rattle.guest_words.specs.declared.endings.Finish.{Finish}
use Rattle.guest_words.specs.declared.endings.Finish.TheVariants as ends
use Rattle.guest_words.specs.declared.limits.TheConstants.{NAME_BYTES}
use Rattle.elf_image.specs.declared.error.ElfError.{ElfError}
use Rattle.elf_image.specs.Image.{Executable, IsPlaced, Segment, holds, is_code, name_beside, name_of}
use Rattle.elf_image.specs.Headers.{section_header}
use Rattle.elf_image.specs.Reading.{addresses, image_of, names_of}
use Rattle.elf_image.specs.Symbols.{Symbol, first_symbol, goes_before, is_readable, name_in, section_bytes, symbol_at, symbol_of, symbol_table, symbols, symbols_in}
use Rattle.elf_image.specs.Tests.{first_of, first_refusal, header_tests, layout_tests, segment_tests}
use Rattle.elf_image.proofs.NameTexts.{name_there}
use Rattle.guest_words.proofs.FaultKinds.{kind_in_range}
use Rattle.elf_image.proofs.Sound.{sound_from}
use Rattle.guest_machine.specs.Laws.{IsAddress}
use Rattle.guest_run.specs.ObservedRun.{ObservedRun}
use Rattle.guest_run.specs.Traces.{IsEndInRange, IsEventInRange, TellsInRange}
use Rattle.stored_traces.specs.Entries.{entries_begun}
use Rattle.trace_file.specs.Records.{Fits}
use Rattle.trace_file.specs.TraceText.{event_records, name_records, whole_records}
use Rattle.trace_file.specs.declared.records.Record.TheVariants.{OfEvent, OfName, OfFinish}
use Rattle.trace_model.specs.declared.event_kinds.Event.{Event}
use Rattle.trace_model.specs.declared.event_kinds.Event.TheVariants.{Step, Read, Write, Fill, Call, Ret, Start, End}
use Rattle.aprof_top.specs.Traces.{named_entries, names_begun}
use Rattle.aprof_top.proofs.TraceEntries.{all_rising, begins}

-- ---- the executable
-- where no test of two lists fails, none of either does
none_both : (xs ys : List (Bool × ElfError)) → first_of (xs ++ ys) ≡ None → (first_of xs ≡ None) × (first_of ys ≡ None)
none_both [] ys none = (refl, none)
none_both (x ∷ xs) ys none = by x.0 refl none (none_both xs ys)
  where
    by : (b : Bool) → x.0 ≡ b → first_of ((x ∷ xs) ++ ys) ≡ None → (first_of (xs ++ ys) ≡ None → (first_of xs ≡ None) × (first_of ys ≡ None))
        → (first_of (x ∷ xs) ≡ None) × (first_of ys ≡ None)
    by true is none' later = let bad : Some x.1 ≡ None = rw is at none' in absurd (cc)
    by false is none' later =
        let rest : first_of (xs ++ ys) ≡ None = rw is at none' in
        let both = later rest in
        (rw is both.0, both.1)

-- what may be run lies low
code_low : (segments : List Segment) (at : ℕ) → All IsPlaced segments → is_code segments at ≡ true → IsAddress at
code_low [] at placed any = absurd (cc)
code_low (s ∷ segments) at placed any = by (holds s at && s.rights.exec) refl any (code_low segments at (All-tail IsPlaced s segments placed))
  where
    by : (b : Bool) → (holds s at && s.rights.exec) ≡ b → (b || is_code segments at) ≡ true → (is_code segments at ≡ true → IsAddress at) → IsAddress at
    by true is any' rest =
        let within = (and_parts (nat_le s.place at) (nat_lt at (s.place + s.size)) (and_parts (holds s at) s.rights.exec is).0).1 in
        let high = (All-head IsPlaced s segments placed).high in
        grind (arith, nat_tests, within, high)
    by false is any' rest = rest any'

pub entry_low : (file : List ℕ) → first_refusal file ≡ None → IsAddress (image_of file).entry
unfolding first_refusal
entry_low file accepted =
    let first = none_both (header_tests file) (segment_tests file ++ layout_tests file) accepted in
    let later = none_both (segment_tests file) (layout_tests file) first.1 in
    let sound = sound_from file later.0 later.1 0 0 [] (omega arith) (omega arith) in
    code_low _ _ sound.placed sound.runs

-- ---- its names
abbrev IsNamed : Symbol → Type 0
IsNamed s = is_name s.name ≡ true

abbrev pub OfSome : {X : Type 0} → (X → Type 0) → Option X → Type 0
OfSome Holds None = Unit {0}
OfSome Holds (Some x) = Holds x

-- what a function gives of some things, where it gives such
all_given : {X Y : Type 0} (Holds : Y → Type 0) (f : X → Option Y) (xs : List X) → ((x : X) → OfSome Holds (f x)) → All Holds (filter_map f xs)
all_given Holds f [] each = All-nil Holds
all_given {X} {Y} Holds f (x ∷ xs) each = by (f x) refl (each x) (all_given Holds f xs each)
  where
    by : (o : Option Y) → f x ≡ o → OfSome Holds o → All Holds (filter_map f xs) → All Holds (filter_map f (x ∷ xs))
    by None is own rest = rw is rest
    by (Some y) is own rest = rw is (All-cons Holds y (filter_map f xs) own rest)

name_named : (strings : List ℕ) (offset : ℕ) (o : Option (List ℕ)) → name_in strings offset ≡ o → OfSome (λ name. is_name name ≡ true) o
name_named strings offset None is = tt
name_named strings offset (Some name) is = (name_there strings offset name is).2

symbol_named : (file strings : List ℕ) (at : ℕ) → OfSome IsNamed (symbol_at file strings at)
unfolding symbol_at
symbol_named file strings at = by _ _ _ (name_in strings _) (name_named strings _ _ refl)
  where
    by : (b : Bool) (value rank : ℕ) (o : Option (List ℕ)) → OfSome (λ name. is_name name ≡ true) o
        → OfSome IsNamed (cond b (option_map (λ name. record { value = value; rank = rank; name = name }) o) None)
    by true value rank None named = tt
    by true value rank (Some name) named = named
    by false value rank o named = tt

if_named : (b : Bool) (all : List Symbol) → All IsNamed all → All IsNamed (cond b all [])
if_named true all named = named
if_named false all named = All-nil IsNamed

where_there : {Table : Type 0} (given : Table → List Symbol) (o : Option Table) → ((table : Table) → All IsNamed (given table)) → All IsNamed (option_map_or given o [])
where_there given None named = All-nil IsNamed
where_there given (Some table) named = named table

symbols_named : (file : List ℕ) → All IsNamed (symbols file)
unfolding symbols symbols_in
symbols_named file =
    where_there (λ table. if is_readable file table then symbols_in file table else []) (symbol_table file)
    (λ table. if_named (is_readable file table) (symbols_in file table)
    (all_given IsNamed _ _ (λ i. symbol_named file (section_bytes file (section_header file table.sh_link)) _)))

best_named : (best : Option Symbol) (all : List Symbol) → OfSome IsNamed best → All IsNamed all → OfSome IsNamed (fold first_symbol best all)
best_named best [] own named = own
best_named best (s ∷ all) own named = best_named (first_symbol best s) all (next best own) (All-tail IsNamed s all named)
  where
    either : (b : Bool) (t : Symbol) → IsNamed t → OfSome IsNamed (cond b (Some s) (Some t))
    either true t named' = All-head IsNamed s all named
    either false t named' = named'

    next : (o : Option Symbol) → OfSome IsNamed o → OfSome IsNamed (first_symbol o s)
    next None own' = All-head IsNamed s all named
    next (Some t) own' = either (goes_before s t) t own'

symbol_of_named : (all : List Symbol) (at : ℕ) → All IsNamed all → OfSome IsNamed (symbol_of all at)
unfolding symbol_of
symbol_of_named all at named = best_named None (filter (λ s. s.value == at) all) tt (All-filter (λ s. s.value == at) IsNamed all named)

abbrev pub HasName : ℕ × List ℕ → Type 0
HasName named = is_name named.1 ≡ true

pub names_named : (file : List ℕ) → All HasName (names_of file)
unfolding names_of
names_named file = all_given HasName _ (range_with_len 0 addresses) (λ at. by at (symbol_of (symbols file) at) (symbol_of_named (symbols file) at (symbols_named file)))
  where
    by : (at : ℕ) (o : Option Symbol) → OfSome IsNamed o → OfSome HasName (option_map (λ name. (at, name)) (option_map (λ s. s.name) o))
    by at None named = tt
    by at (Some s) named = named

pub beside_named : (names : List (ℕ × List ℕ)) (at : ℕ) → All HasName names → OfSome (λ name. is_name name ≡ true) (name_beside names at)
beside_named [] at named = tt
beside_named (n ∷ names) at named = by (n.0 == at) refl (beside_named names at (All-tail HasName n names named))
  where
    by : (b : Bool) → (n.0 == at) ≡ b → OfSome (λ name. is_name name ≡ true) (name_beside names at) → OfSome (λ name. is_name name ≡ true) (name_beside (n ∷ names) at)
    by true is rest = rw is (All-head HasName n names named)
    by false is rest = rw is rest

-- ---- records
event_fits : (e : Event) → IsEventInRange e → Fits (OfEvent e)
event_fits (Step tid) is = record { ranges = (is, tt); content = tt }
event_fits (Read tid first count) is =
    record { ranges = (is.0, ((omega arith, omega (arith, is.1.0, is.1.1)), ((omega arith, omega (arith, is.1.1)), tt))); content = tt }
event_fits (Write tid first count) is =
    record { ranges = (is.0, ((omega arith, omega (arith, is.1.0, is.1.1)), ((omega arith, omega (arith, is.1.1)), tt))); content = tt }
event_fits (Fill first count) is = record { ranges = ((omega arith, omega (arith, is.0, is.1)), ((omega arith, omega (arith, is.1)), tt)); content = tt }
event_fits (Call tid entry back) is =
    record { ranges = (is.0, ((omega arith, omega (arith, is.1)), ((omega arith, omega (arith, is.2)), tt))); content = tt }
event_fits (Ret tid target) is = record { ranges = (is.0, ((omega arith, omega (arith, is.1)), tt)); content = tt }
event_fits (Start tid entry) is = record { ranges = (is.0, ((omega arith, omega (arith, is.1)), tt)); content = tt }
event_fits (End tid) is = record { ranges = (is, tt); content = tt }

each-append : {X : Type 0} (Holds : X → Type 0) (xs ys : List X) → AllByRecursion Holds xs → AllByRecursion Holds ys → AllByRecursion Holds (xs ++ ys)
each-append Holds [] ys front back = back
each-append Holds (x ∷ xs) ys front back = (front.0, each-append Holds xs ys front.1 back)

events_fit : (past : List Event) → AllByRecursion IsEventInRange past → AllByRecursion Fits (event_records past)
events_fit [] all = tt
events_fit (e ∷ past) all =
    subst (AllByRecursion Fits) (sym (ap (map OfEvent) (reverse-append (e ∷ []) past) ∙ map-append OfEvent (reverse past) (e ∷ [])))
    (each-append Fits (event_records past) (OfEvent e ∷ []) (events_fit past all.1) (event_fits e all.0, tt))

name_fits : (entry : ℕ) (name : List ℕ) → IsAddress entry → is_name name ≡ true → Fits (OfName entry name)
name_fits entry name low named =
    let visible = and_parts (not (is_dash name) && nat_le 1 (length name) && nat_le (length name) NAME_BYTES) (list_all is_visible name) named in
    let short = and_parts (not (is_dash name) && nat_le 1 (length name)) (nat_le (length name) NAME_BYTES) visible.0 in
    let some = (and_parts (not (is_dash name)) (nat_le 1 (length name)) short.0).1 in
    record {
      ranges = ((omega arith, omega (arith, low)), ((grind (arith, nat_tests, some), grind (arith, nat_tests, short.1)), tt));
      content = named;
    }

names_fit : (image : Executable) → All HasName image.names → (entries : List ℕ) → All IsAddress entries → AllByRecursion Fits (name_records (named_entries image entries))
names_fit image named [] low = tt
names_fit image named (entry ∷ entries) low =
    by (name_of image entry) refl (beside_named image.names entry named) (names_fit image named entries (All-tail IsAddress entry entries low))
  where
    by : (o : Option (List ℕ)) → name_of image entry ≡ o → OfSome (λ name. is_name name ≡ true) o → AllByRecursion Fits (name_records (named_entries image entries))
        → AllByRecursion Fits (name_records (option_to_list (option_map (λ name. (entry, name)) o) ++ named_entries image entries))
    by None is own rest = rest
    by (Some name) is own rest = (name_fits entry name (All-head IsAddress entry entries low) own, rest)

finish_fits : (lines : ℕ) (f : Finish) → lines < 2 ^ 64 → IsEndInRange lines f → Fits (OfFinish f)
finish_fits lines (ends.Exit status) few is = record { ranges = ((omega arith, omega (arith, is)), tt); content = tt }
finish_fits lines (ends.Fault kind tid at) few is = record { ranges = (kind_in_range kind, (is.0, ((omega arith, omega (arith, is.1)), tt))); content = tt }
finish_fits lines (ends.Schedule line) few is =
    record { ranges = ((omega arith, omega arith), ((omega arith, omega (arith, is.1, few)), tt)); content = is.0 }
finish_fits lines _ few is = record { ranges = tt; content = tt }

-- ---- the whole
pub begun_low : (past : List Event) → AllByRecursion IsEventInRange past → All IsAddress (begins past)
begun_low [] all = All-nil IsAddress
begun_low (Start tid entry ∷ past) all = All-cons IsAddress entry (begins past) all.0.1 (begun_low past all.1)
begun_low (Call tid entry back ∷ past) all = All-cons IsAddress entry (begins past) all.0.1 (begun_low past all.1)
begun_low (_ ∷ past) all = begun_low past all.1

pub records_fit : (file : List ℕ) (lines : ℕ) (run : ObservedRun) → lines < 2 ^ 64 → TellsInRange lines run
    → AllByRecursion Fits (whole_records run.past (names_begun (image_of file) run.past) run.finish)
records_fit file lines run few tells =
    let image = image_of file in
    each-append Fits (event_records run.past) _ (events_fit run.past tells.events)
    (each-append Fits (name_records (names_begun image run.past)) _
    (names_fit image (names_named file) (entries_begun run.past) (all_rising IsAddress (begins run.past) (begun_low run.past tells.events)))
    (finish_fits lines run.finish few tells.finish, tt))

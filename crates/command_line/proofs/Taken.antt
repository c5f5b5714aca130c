-- What words that are taken have.
use Rattle.std.proofs.Common.{◌≡◌, Bool, true, false, refl, ap, ap₂, subst, sym, ◌∙◌, ◌&&◌, ◌⊎◌, inl, inr, List, [], ◌∷◌, ◌++◌, Option, Some, None, is_some, codes, cond}
use Rattle.std.specs.Prelude.{ℕ, find, fold, option_and_then, option_map, slice_get}
use Rattle.std.specs.List.{list_all}
use Rattle.std.proofs.lemmas.List.{append-nil}
use Rattle.std.specs.Option.{option_map_or}
use Rattle.clap.proofs.OnLiterals.{clap_on_literals}
use Rattle.clap.proofs.WalkLemmas.{both}
use Rattle.clap.specs.Simple.{App, Shape, argument_words, entered, is_simple, label_of, names_of, rows_at}
use Rattle.clap.specs.Takes.{built_takes, default_passes, entered_passes, is_given, is_valid, level_passes, settle_passes, walk_passes}
use Rattle.clap.specs.Walk.{answers_to, finished, has_row, nothing_held, rows_after, settled, walk, walk_from, with_default}
use Rattle.stamps.specs.declared.width.StampBits.{StampBits}
use Rattle.clap.specs.Words.{Row, Rule, Text, built, first_of, subcommand_of, takes}
use Rattle.clap.specs.Facts.{explicit_source}
use Rattle.std.specs.Str.{bytes_eq}
use Rattle.command_line.specs.App.{the_app, top_app, guest_app, demo_app, replay_app}
use Rattle.command_line.specs.Options.{Analysis, Demo, GuestOptions, Replay, ReplayOptions, analysis_of_rows, bits_of, budget_of, demo_of, demo_of_rows, guest_asked_with, guest_of_rows, guest_with, quantum_of, replay_of_rows, replay_with, run_with, shape_of_rows, shape_said}
use Rattle.command_line.specs.Plain.{GuestCommand, caching, running, telling_contexts, tracing}
use Rattle.command_line.specs.Plain as plain
use Rattle.command_line.specs.Taken.{FailsByNumber, HasBadDemo, HasBadNumber, HasBadSteps, HasBadWidth, IsFound, TakenWordsFailByNumbers}
use Rattle.command_line.proofs.Filled.{AllKeep, IsKept, filled_same, is_appended, is_filled, is_flag, is_own, is_set, kept_keeps, row_for, settle_keeps, walk_keeps}
use Rattle.command_line.proofs.PlainOptions.{asked_by_name}
use Rattle.command_line.proofs.Refusals.{asked_is, read_of}
use Rattle.command_line.proofs.Rows.{unset_rows}
use Rattle.command_line.proofs.Steps.{Subcommand, added_rows, demo_shape, finished_rows, has_stats, no_defaults, of_guest, own_rules, replay_shape, replaying, rules, shape}

-- what a search among these can find
abbrev FoundIn : List Shape → Option Shape → Type 0
FoundIn [] found = found ≡ None
FoundIn (s ∷ ss) found = (found ≡ Some s) ⊎ FoundIn ss found

found_in : (test : Shape → Bool) (ss : List Shape) → FoundIn ss (find test ss)
found_in test [] = refl
found_in test (s ∷ ss) = by (test s) refl (found_in test ss)
  where
    by : (b : Bool) → test s ≡ b → FoundIn ss (find test ss) → FoundIn (s ∷ ss) (find test (s ∷ ss))
    by true e rec = inl (ap (λ c. cond c (Some s) (find test ss)) e)
    by false e rec = inr (subst (FoundIn ss) (sym (ap (λ c. cond c (Some s) (find test ss)) e)) rec)

-- What was found is this subcommand, whose words pass.
pub record Enters (s : Shape) (found : Option (Text × List Row)) : Type 0 where
  pub rest : List Text
  pub found_is : found ≡ Some (rows_at s rest)
  pub passes : level_passes s [] nothing_held rest false ≡ true

enters_found : (o : Option Shape) (s : Shape) (rest : List Text) → o ≡ Some s
    → option_map_or (λ t. level_passes t [] nothing_held rest false) o true ≡ true → Enters s (option_map (λ t. rows_at t rest) o)
enters_found o s rest e p = record {
  rest = rest;
  found_is = ap (option_map (λ t. rows_at t rest)) e;
  passes = sym (ap (λ (x : Option Shape). option_map_or (λ t. level_passes t [] nothing_held rest false) x true) e) ∙ p;
}

-- one of these subcommands was found, and its words pass
abbrev EntersOne : List Shape → Option (Text × List Row) → Type 0
EntersOne [] found = ⊥
EntersOne (s ∷ ss) found = Enters s found ⊎ EntersOne ss found

enters_any : (ss : List Shape) (o : Option Shape) (rest : List Text) → FoundIn ss o
    → option_map_or (λ u. level_passes u [] nothing_held rest false) o true ≡ true → is_some (option_map (λ u. rows_at u rest) o) ≡ true
    → EntersOne ss (option_map (λ u. rows_at u rest) o)
enters_any [] o rest e p q =
    let no : false ≡ true = sym (ap (λ (x : Option Shape). is_some (option_map (λ u. rows_at u rest) x)) e) ∙ q in cc
enters_any (s ∷ ss) o rest (inl e) p q = inl (enters_found o s rest e p)
enters_any (s ∷ ss) o rest (inr found) p q = inr (enters_any ss o rest found p q)

-- a command that has to have a subcommand enters one of them
enters_one : (a : App) (stop : Option (Text × List Text)) → entered_passes a stop ≡ true
    → is_some (entered a stop) ≡ true → EntersOne a.subs (entered a stop)
enters_one a None p q = let no : false ≡ true = q in cc
enters_one a (Some met) p q =
    enters_any a.subs (find (λ u. answers_to met.0 (label_of u)) a.subs) met.1 (found_in (λ u. answers_to met.0 (label_of u)) a.subs) p q

-- the subcommands, in their order
abbrev subcommands : List Shape
subcommands = shape (of_guest running) ∷ demo_shape ∷ shape (of_guest tracing) ∷ shape (of_guest caching) ∷ replay_shape ∷ shape (of_guest telling_contexts) ∷ []

subs_are : (built the_app).subs ≡ subcommands
unfolding the_app top_app guest_app demo_app replay_app clap_on_literals
subs_are = refl

replay_is_named : replay_shape.name ≡ codes "replay"
unfolding the_app top_app guest_app demo_app replay_app clap_on_literals
replay_is_named = refl

demo_is_named : demo_shape.name ≡ codes "demo"
unfolding the_app top_app guest_app demo_app replay_app clap_on_literals
demo_is_named = refl

-- the subcommand has to be there
top_requires : (rows : List Row) (has : Bool) → is_valid (built the_app).top rows has ≡ true → has ≡ true
unfolding the_app top_app guest_app demo_app replay_app clap_on_literals
top_requires rows true h = refl
top_requires rows false h = let no : false ≡ true = h in cc

two_given : (o i : Bool) → (o && (i && true)) ≡ true → (o ≡ true) × (i ≡ true)
two_given true true h = (refl, refl)
two_given true false h = let no : false ≡ true = h in cc
two_given false i h = let no : false ≡ true = h in cc

-- and `-o` and the image
guest_requires : (g : GuestCommand) (rows : List Row) → is_valid (shape (of_guest g)) rows false ≡ true
    → (is_given (codes "output") rows ≡ true) × (is_given (codes "image") rows ≡ true)
unfolding the_app top_app guest_app demo_app replay_app clap_on_literals
guest_requires caching rows h =
    let first = both (is_given (codes "output") rows) _ h in
    (first.0, (both (is_given (codes "image") rows) _ first.1).0)
guest_requires _ rows h = two_given (is_given (codes "output") rows) (is_given (codes "image") rows) h

-- `replay` the trace
replay_requires : (rows : List Row) → is_valid replay_shape rows false ≡ true → (is_given (codes "output") rows ≡ true) × (is_given (codes "trace") rows ≡ true)
unfolding the_app top_app guest_app demo_app replay_app clap_on_literals
replay_requires rows h = two_given (is_given (codes "output") rows) (is_given (codes "trace") rows) h

-- `cache` the shape too
shape_given : (o i s w l : Bool) → (o && (i && (s && (w && (l && true))))) ≡ true → (s ≡ true) × (w ≡ true) × (l ≡ true)
shape_given o i s w l h =
    let third = both s (w && (l && true)) (both i _ (both o _ h).1).1 in
    let rest = two_given w l third.1 in
    (third.0, rest.0, rest.1)

cache_requires : (rows : List Row) → is_valid (shape (of_guest caching)) rows false ≡ true
    → (is_given (codes "sets") rows ≡ true) × (is_given (codes "ways") rows ≡ true) × (is_given (codes "line") rows ≡ true)
unfolding the_app top_app guest_app demo_app replay_app clap_on_literals
cache_requires rows h =
    shape_given (is_given (codes "output") rows) (is_given (codes "image") rows) (is_given (codes "sets") rows) (is_given (codes "ways") rows) (is_given (codes "line") rows) h

one_given : (n : Bool) → (n && true) ≡ true → n ≡ true
one_given true h = refl
one_given false h = let no : false ≡ true = h in cc

-- `demo` its number
demo_requires : (rows : List Row) → is_valid demo_shape rows false ≡ true → is_given (codes "number") rows ≡ true
unfolding the_app top_app guest_app demo_app replay_app clap_on_literals
demo_requires rows h = one_given (is_given (codes "number") rows) h

-- words that are taken enter a subcommand
taken_enters : (words : List Text) → takes the_app words ≡ true
    → EntersOne subcommands (subcommand_of the_app words)
taken_enters words h =
    let ws = argument_words the_app words in
    let top = (built the_app).top in
    let stop = (walk top.rules (names_of (built the_app)) nothing_held ws).stopped in
    let end = (walk top.rules (names_of (built the_app)) nothing_held ws).held in
    let has = is_some (entered (built the_app) stop) in
    let takes_built = (both (is_simple the_app) (built_takes (built the_app) nothing_held ws) h).1 in
    let two = both (entered_passes (built the_app) stop) (level_passes top (names_of (built the_app)) nothing_held ws has) takes_built in
    let after_walk = (both (walk_passes top (names_of (built the_app)) (walk_from nothing_held) ws) _ two.1).1 in
    let after_settle = (both (settle_passes top.rules top.args_override_self end) _ after_walk).1 in
    let valid = (both (list_all default_passes top.rules) (is_valid top (finished top.rules end) has) after_settle).1 in
    subst (λ subs. EntersOne subs (subcommand_of the_app words)) subs_are
    (enters_one (built the_app) stop two.0 (top_requires (finished top.rules end) has valid))

-- ---- the image, the path of the report and the number

-- these rules leave the row of `id` filled: those of other arguments, and its own, that takes one value
abbrev AreKept : Text → List Rule → Type 0
AreKept id [] = Unit {0}
AreKept id (a ∷ rest) = IsKept id a × AreKept id rest

all_keep : (id : Text) (c : List Rule) → bytes_eq id id ≡ true → AreKept id c → AllKeep id c
all_keep id [] same k = tt
all_keep id (a ∷ rest) same k = (kept_keeps id a same k.0, all_keep id rest same k.1)

-- what a command has beside leaves `-o` and the image
own_kept : (g : GuestCommand) → AreKept (codes "output") (own_rules g) × AreKept (codes "image") (own_rules g)
unfolding the_app top_app guest_app demo_app replay_app clap_on_literals
own_kept running = ((is_set refl refl, (is_set refl refl, (is_flag refl refl, tt))), (is_set refl refl, (is_set refl refl, (is_flag refl refl, tt))))
own_kept tracing = (tt, tt)
own_kept caching = ((is_set refl refl, (is_set refl refl, (is_set refl refl, tt))), (is_set refl refl, (is_set refl refl, (is_set refl refl, tt))))
own_kept telling_contexts = ((is_set refl refl, tt), (is_set refl refl, tt))

output_keeps : (g : GuestCommand) → AllKeep (codes "output") (rules (of_guest g))
unfolding the_app top_app guest_app demo_app replay_app clap_on_literals
output_keeps g = all_keep (codes "output") (rules (of_guest g)) refl (is_set refl refl, (is_set refl refl, (is_set refl refl, (is_set refl refl, (is_own refl refl refl, (is_set refl refl, (is_appended refl refl, (own_kept g).0)))))))

image_keeps : (g : GuestCommand) → AllKeep (codes "image") (rules (of_guest g))
unfolding the_app top_app guest_app demo_app replay_app clap_on_literals
image_keeps g = all_keep (codes "image") (rules (of_guest g)) refl (is_set refl refl, (is_set refl refl, (is_set refl refl, (is_set refl refl, (is_set refl refl, (is_own refl refl refl, (is_appended refl refl, (own_kept g).1)))))))

-- the numbers of a cache
sets_keeps : AllKeep (codes "sets") (rules (of_guest caching))
unfolding the_app top_app guest_app demo_app replay_app clap_on_literals
sets_keeps = all_keep (codes "sets") (rules (of_guest caching)) refl (is_set refl refl, (is_set refl refl, (is_set refl refl, (is_set refl refl, (is_set refl refl, (is_set refl refl, (is_appended refl refl, (is_own refl refl refl, (is_set refl refl, (is_set refl refl, tt))))))))))

ways_keeps : AllKeep (codes "ways") (rules (of_guest caching))
unfolding the_app top_app guest_app demo_app replay_app clap_on_literals
ways_keeps = all_keep (codes "ways") (rules (of_guest caching)) refl (is_set refl refl, (is_set refl refl, (is_set refl refl, (is_set refl refl, (is_set refl refl, (is_set refl refl, (is_appended refl refl, (is_set refl refl, (is_own refl refl refl, (is_set refl refl, tt))))))))))

line_keeps : AllKeep (codes "line") (rules (of_guest caching))
unfolding the_app top_app guest_app demo_app replay_app clap_on_literals
line_keeps = all_keep (codes "line") (rules (of_guest caching)) refl (is_set refl refl, (is_set refl refl, (is_set refl refl, (is_set refl refl, (is_set refl refl, (is_set refl refl, (is_appended refl refl, (is_set refl refl, (is_set refl refl, (is_own refl refl refl, tt))))))))))

replay_output_keeps : AllKeep (codes "output") (rules replaying)
unfolding the_app top_app guest_app demo_app replay_app clap_on_literals
replay_output_keeps = all_keep (codes "output") (rules replaying) refl (is_set refl refl, (is_flag refl refl, (is_own refl refl refl, (is_set refl refl, tt))))

replay_trace_keeps : AllKeep (codes "trace") (rules replaying)
unfolding the_app top_app guest_app demo_app replay_app clap_on_literals
replay_trace_keeps = all_keep (codes "trace") (rules replaying) refl (is_set refl refl, (is_flag refl refl, (is_set refl refl, (is_own refl refl refl, tt))))

number_keeps : AllKeep (codes "number") demo_shape.rules
unfolding the_app top_app guest_app demo_app replay_app clap_on_literals
number_keeps = all_keep (codes "number") demo_shape.rules refl (is_own refl refl refl, tt)

-- a row that is given and filled has a first value
first_there : (o : Option Row) → option_map_or (λ r. explicit_source r.source) o false ≡ true
    → option_map_or (λ (r : Row). is_some (slice_get r.values 0)) o true ≡ true
    → (text : Text) × (option_and_then (λ r. slice_get r.values 0) o ≡ Some text)
first_there None given filled = let no : false ≡ true = given in cc
first_there (Some r) given filled = go (slice_get r.values 0) filled
  where
    go : (v : Option Text) → is_some v ≡ true → (text : Text) × (v ≡ Some text)
    go None h = let no : false ≡ true = h in cc
    go (Some text) h = (text, refl)

-- the defaults of the subcommand leave the row of `id` as it is
abbrev DefaultsKeep : Text → Shape → Type 0
DefaultsKeep id s = (rows : List Row) → row_for id (fold with_default rows s.rules) ≡ row_for id rows

demo_defaults : (id : Text) → DefaultsKeep id demo_shape
unfolding the_app top_app guest_app demo_app replay_app clap_on_literals
demo_defaults id rows = ap (row_for id) (no_defaults demo_shape.rules rows (refl, tt))

unset_elsewhere : (id : Text) (given : Bool) (rows : List Row) → bytes_eq (codes "stats") id ≡ false
    → row_for id (rows ++ unset_rows given) ≡ row_for id rows
unset_elsewhere id true [] apart = refl
unset_elsewhere id false [] apart = rw apart refl
unset_elsewhere id given (r ∷ rs) apart = ap (λ (o : Option Row). cond (bytes_eq r.id id) (Some r) o) (unset_elsewhere id given rs apart)

added_elsewhere : (id : Text) (has given : Bool) (rows : List Row) → bytes_eq (codes "stats") id ≡ false
    → row_for id (rows ++ added_rows has given) ≡ row_for id rows
added_elsewhere id true given rows apart = unset_elsewhere id given rows apart
added_elsewhere id false given rows apart = ap (row_for id) (append-nil rows)

defaults : (k : Subcommand) (id : Text) → bytes_eq (codes "stats") id ≡ false → DefaultsKeep id (shape k)
defaults k id apart rows = ap (row_for id) (finished_rows k rows) ∙ added_elsewhere id (has_stats k) (has_row (codes "stats") rows) rows apart

-- what a pass of a subcommand leaves
rows_filled : (s : Shape) (id : Text) (rest : List Text) → DefaultsKeep id s → AllKeep id s.rules
    → level_passes s [] nothing_held rest false ≡ true → is_filled id (rows_after s.rules [] rest) ≡ true
rows_filled s id rest keep all h =
    let end = (walk s.rules [] nothing_held rest).held in
    let one = both (walk_passes s [] (walk_from nothing_held) rest) _ h in
    let two = both (settle_passes s.rules s.args_override_self end) _ one.1 in
    let filled = settle_keeps id s.rules s.args_override_self all end two.0 (walk_keeps id s all [] rest (walk_from nothing_held) one.0 refl) in
    filled_same id _ (settled s.rules end).rows (keep (settled s.rules end).rows) filled

rows_valid : (s : Shape) (rest : List Text) → level_passes s [] nothing_held rest false ≡ true
    → is_valid s (rows_after s.rules [] rest) false ≡ true
rows_valid s rest h =
    let end = (walk s.rules [] nothing_held rest).held in
    let one = both (walk_passes s [] (walk_from nothing_held) rest) _ h in
    let two = both (settle_passes s.rules s.args_override_self end) _ one.1 in
    (both (list_all default_passes s.rules) (is_valid s (finished s.rules end) false) two.1).1

-- options are missing only for a number
bad_guest : (rows : List Row) (image : Text) → first_of (codes "image") rows ≡ Some image → guest_of_rows rows ≡ None
    → (quantum_of (first_of (codes "quantum") rows) ≡ None) ⊎ (budget_of (first_of (codes "budget") rows) ≡ None)
bad_guest rows image i none =
    go (quantum_of (first_of (codes "quantum") rows)) (budget_of (first_of (codes "budget") rows))
    (sym (ap (λ x. guest_with rows (quantum_of (first_of (codes "quantum") rows)) (budget_of (first_of (codes "budget") rows)) x) i) ∙ none)
  where
    go : (q b : Option ℕ) → guest_with rows q b (Some image) ≡ None → (q ≡ None) ⊎ (b ≡ None)
    go None b h = inl refl
    go (Some q) None h = inr refl
    go (Some q) (Some b) h = cc

-- the guest or what the command has beside is missing
part_missing : (guest : Option GuestOptions) (output : Option Text) (path : Text) (analysis : Option Analysis) → output ≡ Some path → guest_asked_with guest output analysis ≡ None
    → (guest ≡ None) ⊎ (analysis ≡ None)
part_missing guest output path analysis is none = go guest analysis (sym (ap (λ o. guest_asked_with guest o analysis) is) ∙ none)
  where
    go : (g : Option GuestOptions) (a : Option Analysis) → guest_asked_with g (Some path) a ≡ None → (g ≡ None) ⊎ (a ≡ None)
    go None a h = inl refl
    go (Some g) None h = inr refl
    go (Some g) (Some a) h = cc

run_missing : (rows : List Row) (width : Option StampBits) → run_with rows width ≡ None → width ≡ None
run_missing rows None h = refl
run_missing rows (Some width) h = cc

none_mapped : {A : Type 0} (f : A → Analysis) (o : Option A) → option_map f o ≡ None → o ≡ None
none_mapped f None h = refl
none_mapped f (Some x) h = cc

bad_width : (rows : List Row) (path trace : Text) → first_of (codes "output") rows ≡ Some path → first_of (codes "trace") rows ≡ Some trace
    → replay_of_rows rows ≡ None → HasBadWidth rows
bad_width rows path trace r t none =
    go (bits_of (first_of (codes "stamps") rows)) refl
    (sym (ap₂ (λ x y. replay_with rows x y (bits_of (first_of (codes "stamps") rows))) t r) ∙ none)
  where
    go : (n : Option StampBits) → bits_of (first_of (codes "stamps") rows) ≡ n → replay_with rows (Some trace) (Some path) n ≡ None → HasBadWidth rows
    go None n_is h = n_is
    go (Some n) n_is h = cc

no_replay : (o : Option ReplayOptions) → option_map Replay o ≡ None → o ≡ None
no_replay None h = refl
no_replay (Some x) h = cc

no_demo : (o : Option ℕ) → option_map Demo o ≡ None → o ≡ None
no_demo None h = refl
no_demo (Some x) h = cc

-- what a command has beside fails by its numbers
own_fails : (g : GuestCommand) (rest : List Text) → level_passes (shape (of_guest g)) [] nothing_held rest false ≡ true
    → analysis_of_rows (plain.name_of g) (rows_after (rules (of_guest g)) [] rest) ≡ None → HasBadNumber g (rows_after (rules (of_guest g)) [] rest)
own_fails running rest passes none = run_missing (rows_after (rules (of_guest running)) [] rest) _ none
own_fails tracing rest passes none = absurd (cc none)
own_fails caching rest passes none =
    let k = of_guest caching in
    let rows = rows_after (rules k) [] rest in
    let needs = cache_requires rows (rows_valid (shape k) rest passes) in
    let sets = first_there (row_for (codes "sets") rows) needs.0 (rows_filled (shape k) (codes "sets") rest (defaults k (codes "sets") refl) sets_keeps passes) in
    let ways = first_there (row_for (codes "ways") rows) needs.1 (rows_filled (shape k) (codes "ways") rest (defaults k (codes "ways") refl) ways_keeps passes) in
    let line = first_there (row_for (codes "line") rows) needs.2 (rows_filled (shape k) (codes "line") rest (defaults k (codes "line") refl) line_keeps passes) in
    let said : shape_of_rows rows ≡ shape_said (Some sets.0) (Some ways.0) (Some line.0) =
    ap₂ (λ a b. shape_said a b (first_of (codes "line") rows)) sets.1 ways.1 ∙ ap (shape_said (Some sets.0) (Some ways.0)) line.1 in
    (sets.0, ways.0, line.0, sets.1, ways.1, line.1, sym said ∙ none_mapped Analysis.Cache (shape_of_rows rows) none)
own_fails telling_contexts rest passes none = none_mapped Analysis.Contexts _ none

guest_fails : (g : GuestCommand) (found : Option (Text × List Row)) → Enters (shape (of_guest g)) found → read_of found ≡ None
    → IsFound found (plain.name_of g) (λ rows. HasBadSteps rows ⊎ HasBadNumber g rows)
guest_fails g found enters none =
    let k = of_guest g in
    let rows = rows_after (rules k) [] enters.rest in
    let needs = guest_requires g rows (rows_valid (shape k) enters.rest enters.passes) in
    let output = first_there (row_for (codes "output") rows) needs.0 (rows_filled (shape k) (codes "output") enters.rest (defaults k (codes "output") refl) (output_keeps g) enters.passes) in
    let image = first_there (row_for (codes "image") rows) needs.1 (rows_filled (shape k) (codes "image") enters.rest (defaults k (codes "image") refl) (image_keeps g) enters.passes) in (
      rows,
      enters.found_is,
      by rows image.0 image.1 (own_fails g enters.rest enters.passes)
          (part_missing (guest_of_rows rows) (first_of (codes "output") rows) output.0 (analysis_of_rows (plain.name_of g) rows) output.1
          (sym (asked_by_name g rows) ∙ sym (ap read_of enters.found_is) ∙ none)),
    )
  where
    by : (rows : List Row) (image : Text) → first_of (codes "image") rows ≡ Some image
        → (analysis_of_rows (plain.name_of g) rows ≡ None → HasBadNumber g rows)
        → (guest_of_rows rows ≡ None) ⊎ (analysis_of_rows (plain.name_of g) rows ≡ None) → HasBadSteps rows ⊎ HasBadNumber g rows
    by rows image is own (inl guest) = inl (bad_guest rows image is guest)
    by rows image is own (inr analysis) = inr (own analysis)

replay_fails : (found : Option (Text × List Row)) → Enters replay_shape found → read_of found ≡ None
    → (rows : List Row) × (found ≡ Some (codes "replay", rows)) × HasBadWidth rows
replay_fails found enters none =
    let rows = rows_after (rules replaying) [] enters.rest in
    let found_is : found ≡ Some (codes "replay", rows) = enters.found_is ∙ ap (λ (name : Text). Some (name, rows)) replay_is_named in
    let needs = replay_requires rows (rows_valid replay_shape enters.rest enters.passes) in
    let path = first_there (row_for (codes "output") rows) needs.0 (rows_filled replay_shape (codes "output") enters.rest (defaults replaying (codes "output") refl) replay_output_keeps enters.passes) in
    let trace = first_there (row_for (codes "trace") rows) needs.1 (rows_filled replay_shape (codes "trace") enters.rest (defaults replaying (codes "trace") refl) replay_trace_keeps enters.passes) in
    (rows, found_is, bad_width rows path.0 trace.0 path.1 trace.1 (no_replay (replay_of_rows rows) (sym (ap read_of found_is) ∙ none)))

demo_fails : (found : Option (Text × List Row)) → Enters demo_shape found → read_of found ≡ None
    → (rows : List Row) × (found ≡ Some (codes "demo", rows)) × HasBadDemo rows
demo_fails found enters none =
    let rows = rows_after demo_shape.rules [] enters.rest in
    let found_is : found ≡ Some (codes "demo", rows) = enters.found_is ∙ ap (λ (name : Text). Some (name, rows)) demo_is_named in
    let given = demo_requires rows (rows_valid demo_shape enters.rest enters.passes) in
    let number = first_there (row_for (codes "number") rows) given (rows_filled demo_shape (codes "number") enters.rest (demo_defaults (codes "number")) number_keeps enters.passes) in
    let no_number = no_demo (demo_of_rows rows) (sym (ap read_of found_is) ∙ none) in
    (rows, found_is, (number.0, number.1, sym (ap (option_and_then demo_of) number.1) ∙ no_number))

pub fails_by_numbers : TakenWordsFailByNumbers
fails_by_numbers words taken zeros none = go (taken_enters words taken)
  where
    found : Option (Text × List Row)
    found = subcommand_of the_app words

    read_none : read_of found ≡ None
    read_none = sym (asked_is words zeros) ∙ none

    go : EntersOne subcommands found → FailsByNumber found
    go (inl enters) = inl (running, guest_fails running found enters read_none)
    go (inr (inl enters)) = inr (inr (demo_fails found enters read_none))
    go (inr (inr (inl enters))) = inl (tracing, guest_fails tracing found enters read_none)
    go (inr (inr (inr (inl enters)))) = inl (caching, guest_fails caching found enters read_none)
    go (inr (inr (inr (inr (inl enters))))) = inr (inl (replay_fails found enters read_none))
    go (inr (inr (inr (inr (inr (inl enters)))))) = inl (telling_contexts, guest_fails telling_contexts found enters read_none)
    go (inr (inr (inr (inr (inr (inr none')))))) = absurd none'

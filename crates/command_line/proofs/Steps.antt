-- The walk of `clap` over the words of a command that has options, word by word.
use Rattle.std.proofs.Common.{◌≡◌, ◌<◌, ◌^◌, ℕ, Bool, true, false, refl, sym, cond, ◌&&◌, ap, ap₂, ◌∙◌, List, [], ◌∷◌, ◌++◌, Option, Some, None, codes, unwrap_or, arith, nat_eq, nat_le, length}
use Rattle.std.proofs.lemmas.Bool.Decides.{nat_tests}
use Rattle.std.specs.Prelude.{drop, fold, slice_get, take}
use Rattle.std.proofs.lemmas.Bool.{and_parts}
use Rattle.std.proofs.lemmas.Slice.Eq.{bytes_eq-Decides}
use Rattle.std.proofs.lemmas.List.{append-nil}
use Rattle.std.specs.List.{list_all}
use Rattle.std.specs.Str.{bytes_eq}
use Rattle.std.proofs.Math.Bool.{and-false, and-true}
use Rattle.clap.specs.Lexer.{long_of, short_of, usize_max}
use Rattle.clap.specs.Simple.{entered, names_of, new_shape}
use Rattle.clap.specs.Facts.{unwrap_or_range}
use Rattle.clap.specs.Takes.{default_passes, entered_passes, is_given, is_valid, level_passes, settle_passes, turn_passes, value_passes, walk_passes}
use Rattle.clap.specs.Walk.{Names, Waiting, Walk, action_of, arg_by_id, default_rows, has_row, idle, most_values, nothing_held, option, positional, reading_by, rows_after, settled_rows, walk_from, walked, with_default}
use Rattle.clap.specs.Words.{Row, Rule, Shape, Text, built}
use Rattle.clap.specs.declared.builder.ArgAction.TheVariants.{Set}
use Rattle.clap.proofs.OnLiterals.{clap_on_literals}
use Rattle.command_line.specs.App.{the_app, top_app, guest_app, demo_app, replay_app, word_rule}
use Rattle.command_line.specs.Plain.{Choice, GuestCommand, budget, caching, id_of, is_of, is_of_replay, is_plain_word, line, quantum, recording, report, required, running, schedule, sets, stamps, stats, stdin, telling_contexts, tracing, ways, words_of}
use Rattle.command_line.specs.Plain as plain
use Rattle.command_line.proofs.Rows.{choice_row, if_unset, new_row, new_row_kept, plain_row, unset_rows}

-- the commands as `clap` builds them
abbrev pub run_shape : Shape
run_shape = unwrap_or (slice_get (built the_app).subs 0) (new_shape [])

abbrev pub demo_shape : Shape
demo_shape = unwrap_or (slice_get (built the_app).subs 1) (new_shape [])

abbrev pub trace_shape : Shape
trace_shape = unwrap_or (slice_get (built the_app).subs 2) (new_shape [])

abbrev pub cache_shape : Shape
cache_shape = unwrap_or (slice_get (built the_app).subs 3) (new_shape [])

abbrev pub replay_shape : Shape
replay_shape = unwrap_or (slice_get (built the_app).subs 4) (new_shape [])

abbrev pub contexts_shape : Shape
contexts_shape = unwrap_or (slice_get (built the_app).subs 5) (new_shape [])

-- the commands that run a guest
abbrev pub guest_shape : GuestCommand → Shape
guest_shape running = run_shape
guest_shape tracing = trace_shape
guest_shape caching = cache_shape
guest_shape telling_contexts = contexts_shape

-- what all of them have, and what one has beside
abbrev pub shared_rules : List Rule
shared_rules = trace_shape.rules

abbrev pub own_rules : GuestCommand → List Rule
own_rules g = drop 7 (guest_shape g).rules

-- The commands that have options.
pub data Subcommand : Type 0 where
  of_guest : GuestCommand → Subcommand
  replaying : Subcommand

-- its name
abbrev pub name_of : Subcommand → Text
name_of (of_guest g) = plain.name_of g
name_of replaying = codes "replay"

-- it runs a guest: its image and further words follow the options
abbrev pub RunsGuest : Subcommand → Type 0
RunsGuest (of_guest g) = Unit {0}
RunsGuest replaying = ⊥

-- the argument of the path that follows the options
abbrev pub path_id : Subcommand → Text
path_id (of_guest g) = codes "image"
path_id replaying = codes "trace"

-- a command that runs a guest is told by its name and by what it has beside
abbrev pub shape : Subcommand → Shape
shape (of_guest g) = record trace_shape { name = plain.name_of g; rules = shared_rules ++ own_rules g }
shape replaying = replay_shape

abbrev pub rules : Subcommand → List Rule
rules k = (shape k).rules

pub shape_is : (g : GuestCommand) → guest_shape g ≡ shape (of_guest g)
unfolding the_app top_app guest_app demo_app replay_app clap_on_literals
shape_is running = refl
shape_is _ = refl

-- the option is one of the command
abbrev pub has_option : Subcommand → Choice → Bool
has_option (of_guest g) c = is_of g c
has_option replaying c = is_of_replay c

-- an argument whose values are being read
abbrev pub Pending : Type 0
Pending = Option (Text × List Text)

-- between two words: the rows so far, what is pending, what waits, and the next position
abbrev pub stand : List Row → Pending → Waiting → ℕ → Walk
stand rows pending waiting position = record {
  held = record { rows = rows; pending = pending; skip = 0 };
  waiting = waiting;
  position = position;
  is_trailing = false;
  stopped = None;
}

-- the next word passes here
abbrev pub turn : Subcommand → List Row → Pending → Waiting → ℕ → Text → Bool
turn k rows pending waiting position word = turn_passes (shape k) [] (stand rows pending waiting position) word

-- what is pending may be used
abbrev pub may_settle : Subcommand → List Row → Pending → Bool
may_settle k rows pending = settle_passes (rules k) false (record { rows = rows; pending = pending; skip = 0 })

-- What is pending settles with these rows.
pub record Settles (k : Subcommand) (rows : List Row) (pending : Pending) (all : List Row) : Type 0 where
  pub rows_are : settled_rows (rules k) pending rows ≡ all
  pub passes : may_settle k rows pending ≡ true

-- a word that is no flag
pub record IsNoFlag (word : Text) : Type 0 where
  pub no_dashes : bytes_eq word (45 ∷ 45 ∷ []) ≡ false
  pub no_long : long_of word ≡ None
  pub no_short : short_of word ≡ None

no_flag : (x : ℕ) (xs : Text) → nat_eq x 45 ≡ false → IsNoFlag (x ∷ xs)
no_flag x xs e = record { no_dashes = rw e refl; no_long = rw e refl; no_short = rw e refl }

pub plain_is_no_flag : (word : Text) → is_plain_word word ≡ true → IsNoFlag word
plain_is_no_flag [] h = cc
plain_is_no_flag (x ∷ xs) h = no_flag x xs (grind (arith, nat_tests))

all_true : (ws : List Text) → list_all (λ _. true) ws ≡ true
all_true [] = refl
all_true (w ∷ ws) = all_true ws

-- ---- an option and its value

-- an argument that takes one value, any text
pub data TakesOne (id : Text) (a : Rule) : Type 0 where
  takes_one : a.id ≡ id → action_of a ≡ Set → (unwrap_or_range a.range).start_inclusive ≡ 1 → most_values a ≡ 1
      → reading_by a ≡ reading_by word_rule → ((word : Text) → value_passes a word ≡ true) → TakesOne id a

-- its value is that word, where there is none yet
one_settles : (k : Subcommand) (id : Text) (a : Rule) → arg_by_id (rules k) id ≡ Some a → TakesOne id a → (rows : List Row) (word : Text)
    → has_row id rows ≡ false → Settles k rows (Some (id, word ∷ [])) (rows ++ plain_row id (word ∷ []) ∷ [])
one_settles k id a found (takes_one own set least most reads passes) rows word none =
    let free : has_row a.id rows ≡ false = ap (λ (t : Text). has_row t rows) own ∙ none in
    record {
      rows_are = rw (found, set, own, reads) (new_row id (word ∷ []) rows none);
      passes = rw (found, least, most, set, free, passes word) refl;
    }

-- while it waits for its value
one_word : (k : Subcommand) (id : Text) (a : Rule) → arg_by_id (rules k) id ≡ Some a → TakesOne id a → (rows : List Row) (word : Text) → IsNoFlag word
    → walked (rules k) [] (stand rows (Some (id, [])) (option id) 1) word ≡ stand rows (Some (id, word ∷ [])) idle 1
unfolding clap_on_literals
one_word k id a found (takes_one own set least most reads passes) rows word h =
    let same : bytes_eq id a.id ≡ true = (bytes_eq-Decides id a.id).1 (sym own) in
    rw (h.no_dashes, h.no_long, h.no_short, found, same, most) refl

one_turn : (k : Subcommand) (id : Text) (rows : List Row) (word : Text) → IsNoFlag word → turn k rows (Some (id, [])) (option id) 1 word ≡ true
one_turn k id rows word h = rw (h.no_dashes, h.no_long, h.no_short) refl

-- This flag is that of an option with one value.
pub record TakesValue (k : Subcommand) (flag id : Text) : Type 0 where
  pub flag_word : (rows : List Row) (p : Pending)
      → walked (rules k) [] (stand rows p idle 1) flag ≡ stand (settled_rows (rules k) p rows) (Some (id, [])) (option id) 1
  pub flag_turn : (rows : List Row) (p : Pending) → turn k rows p idle 1 flag ≡ may_settle k rows p
  pub value_word : (rows : List Row) (word : Text) → IsNoFlag word
      → walked (rules k) [] (stand rows (Some (id, [])) (option id) 1) word ≡ stand rows (Some (id, word ∷ [])) idle 1
  pub value_turn : (rows : List Row) (word : Text) → IsNoFlag word → turn k rows (Some (id, [])) (option id) 1 word ≡ true
  pub settles : (rows : List Row) (word : Text) → has_row id rows ≡ false
      → Settles k rows (Some (id, word ∷ [])) (rows ++ plain_row id (word ∷ []) ∷ [])

-- An argument that takes one value is read so where its flag is.
takes_value : {k : Subcommand} {flag id : Text} {a : Rule} → arg_by_id (rules k) id ≡ Some a → TakesOne id a
    → ((rows : List Row) (p : Pending) → walked (rules k) [] (stand rows p idle 1) flag ≡ stand (settled_rows (rules k) p rows) (Some (id, [])) (option id) 1)
    → ((rows : List Row) (p : Pending) → turn k rows p idle 1 flag ≡ may_settle k rows p) → TakesValue k flag id
takes_value {k} {flag} {id} {a} found one flag_word flag_turn = record {
  flag_word = flag_word;
  flag_turn = flag_turn;
  value_word = one_word k id a found one;
  value_turn = one_turn k id;
  settles = one_settles k id a found one;
}

pub takes_stdin : (g : GuestCommand) → TakesValue (of_guest g) (codes "--stdin") (codes "stdin")
unfolding the_app top_app guest_app demo_app replay_app clap_on_literals
takes_stdin g = takes_value refl (takes_one refl refl refl refl refl (λ word. refl)) (λ rows p. refl) (λ rows p. and-true _)

pub takes_quantum : (g : GuestCommand) → TakesValue (of_guest g) (codes "--quantum") (codes "quantum")
unfolding the_app top_app guest_app demo_app replay_app clap_on_literals
takes_quantum g = takes_value refl (takes_one refl refl refl refl refl (λ word. refl)) (λ rows p. refl) (λ rows p. and-true _)

pub takes_schedule : (g : GuestCommand) → TakesValue (of_guest g) (codes "--schedule") (codes "schedule")
unfolding the_app top_app guest_app demo_app replay_app clap_on_literals
takes_schedule g = takes_value refl (takes_one refl refl refl refl refl (λ word. refl)) (λ rows p. refl) (λ rows p. and-true _)

pub takes_budget : (g : GuestCommand) → TakesValue (of_guest g) (codes "--budget") (codes "budget")
unfolding the_app top_app guest_app demo_app replay_app clap_on_literals
takes_budget g = takes_value refl (takes_one refl refl refl refl refl (λ word. refl)) (λ rows p. refl) (λ rows p. and-true _)

pub takes_output : (k : Subcommand) → TakesValue k (codes "-o") (codes "output")
unfolding the_app top_app guest_app demo_app replay_app clap_on_literals
takes_output (of_guest g) = takes_value refl (takes_one refl refl refl refl refl (λ word. refl)) (λ rows p. refl) (λ rows p. and-true _)
takes_output replaying = takes_value refl (takes_one refl refl refl refl refl (λ word. refl)) (λ rows p. refl) (λ rows p. and-true _)

pub run_takes_recording : TakesValue (of_guest running) (codes "--record") (codes "record")
unfolding the_app top_app guest_app demo_app replay_app clap_on_literals
run_takes_recording = takes_value refl (takes_one refl refl refl refl refl (λ word. refl)) (λ rows p. refl) (λ rows p. and-true _)

pub run_takes_stamps : TakesValue (of_guest running) (codes "--stamps") (codes "stamps")
unfolding the_app top_app guest_app demo_app replay_app clap_on_literals
run_takes_stamps = takes_value refl (takes_one refl refl refl refl refl (λ word. refl)) (λ rows p. refl) (λ rows p. and-true _)

pub replay_takes_stamps : TakesValue replaying (codes "--stamps") (codes "stamps")
unfolding the_app top_app guest_app demo_app replay_app clap_on_literals
replay_takes_stamps = takes_value refl (takes_one refl refl refl refl refl (λ word. refl)) (λ rows p. refl) (λ rows p. and-true _)

pub contexts_takes_stamps : TakesValue (of_guest telling_contexts) (codes "--stamps") (codes "stamps")
unfolding the_app top_app guest_app demo_app replay_app clap_on_literals
contexts_takes_stamps = takes_value refl (takes_one refl refl refl refl refl (λ word. refl)) (λ rows p. refl) (λ rows p. and-true _)

pub cache_takes_sets : TakesValue (of_guest caching) (codes "--sets") (codes "sets")
unfolding the_app top_app guest_app demo_app replay_app clap_on_literals
cache_takes_sets = takes_value refl (takes_one refl refl refl refl refl (λ word. refl)) (λ rows p. refl) (λ rows p. and-true _)

pub cache_takes_ways : TakesValue (of_guest caching) (codes "--ways") (codes "ways")
unfolding the_app top_app guest_app demo_app replay_app clap_on_literals
cache_takes_ways = takes_value refl (takes_one refl refl refl refl refl (λ word. refl)) (λ rows p. refl) (λ rows p. and-true _)

pub cache_takes_line : TakesValue (of_guest caching) (codes "--line") (codes "line")
unfolding the_app top_app guest_app demo_app replay_app clap_on_literals
cache_takes_line = takes_value refl (takes_one refl refl refl refl refl (λ word. refl)) (λ rows p. refl) (λ rows p. and-true _)

-- ---- the option without a value

-- The command has the flag `--stats`.
pub record TakesStats (k : Subcommand) : Type 0 where
  pub flag_word : (rows : List Row) (p : Pending) → has_row (codes "stats") (settled_rows (rules k) p rows) ≡ false
      → walked (rules k) [] (stand rows p idle 1) (codes "--stats") ≡ stand (settled_rows (rules k) p rows ++ choice_row stats ∷ []) None idle 1
  pub flag_turn : (rows : List Row) (p : Pending) → has_row (codes "stats") (settled_rows (rules k) p rows) ≡ false
      → turn k rows p idle 1 (codes "--stats") ≡ may_settle k rows p

pub run_takes_stats : TakesStats (of_guest running)
unfolding the_app top_app guest_app demo_app replay_app clap_on_literals
run_takes_stats = record {
  flag_word = λ rows p h. ap (λ (all : List Row). stand all None idle 1) (new_row (codes "stats") (codes "true" ∷ []) (settled_rows (rules (of_guest running)) p rows) h);
  flag_turn = λ rows p h. rw h (and-true _ ∙ and-true _);
}

pub replay_takes_stats : TakesStats replaying
unfolding the_app top_app guest_app demo_app replay_app clap_on_literals
replay_takes_stats = record {
  flag_word = λ rows p h. ap (λ (all : List Row). stand all None idle 1) (new_row (codes "stats") (codes "true" ∷ []) (settled_rows (rules replaying) p rows) h);
  flag_turn = λ rows p h. rw h (and-true _ ∙ and-true _);
}

-- ---- all options

-- the flag of an option
abbrev flag_of : Choice → Text
flag_of c = unwrap_or (slice_get (words_of c) 0) []

-- the command takes the option
abbrev pub TakesChoice : Subcommand → Choice → Type 0
TakesChoice k stats = TakesStats k
TakesChoice k c = TakesValue k (flag_of c) (id_of c)

no_option : {A : Type 0} → false ≡ true → A
no_option has = absurd (cc has)

pub takes_choice : (k : Subcommand) (c : Choice) → has_option k c ≡ true → TakesChoice k c
takes_choice (of_guest g) (stdin v) has = takes_stdin g
takes_choice (of_guest g) (quantum v) has = takes_quantum g
takes_choice (of_guest g) (schedule v) has = takes_schedule g
takes_choice (of_guest g) (budget v) has = takes_budget g
takes_choice k (report v) has = takes_output k
takes_choice (of_guest running) (recording v) has = run_takes_recording
takes_choice (of_guest running) (stamps v) has = run_takes_stamps
takes_choice (of_guest running) stats has = run_takes_stats
takes_choice (of_guest running) _ has = no_option has
takes_choice (of_guest tracing) _ has = no_option has
takes_choice (of_guest caching) (sets v) has = cache_takes_sets
takes_choice (of_guest caching) (ways v) has = cache_takes_ways
takes_choice (of_guest caching) (line v) has = cache_takes_line
takes_choice (of_guest caching) _ has = no_option has
takes_choice (of_guest telling_contexts) (stamps v) has = contexts_takes_stamps
takes_choice (of_guest telling_contexts) _ has = no_option has
takes_choice replaying (stamps v) has = replay_takes_stamps
takes_choice replaying stats has = replay_takes_stats
takes_choice replaying _ has = no_option has

-- ---- the image, or the trace

pub path_word : (k : Subcommand) (rows : List Row) (p : Pending) (word : Text) → IsNoFlag word
    → walked (rules k) [] (stand rows p idle 1) word ≡ stand (settled_rows (rules k) p rows) (Some (path_id k, word ∷ [])) idle 2
unfolding the_app top_app guest_app demo_app replay_app clap_on_literals
path_word (of_guest g) rows None word h = rw (h.no_dashes, h.no_long, h.no_short) refl
path_word (of_guest g) rows (Some q) word h = rw (h.no_dashes, h.no_long, h.no_short, and-false (bytes_eq q.0 (codes "image"))) refl
path_word replaying rows None word h = rw (h.no_dashes, h.no_long, h.no_short) refl
path_word replaying rows (Some q) word h = rw (h.no_dashes, h.no_long, h.no_short, and-false (bytes_eq q.0 (codes "trace"))) refl

pub path_turn : (k : Subcommand) (rows : List Row) (p : Pending) (word : Text) → IsNoFlag word
    → turn k rows p idle 1 word ≡ may_settle k rows p
unfolding the_app top_app guest_app demo_app replay_app clap_on_literals
path_turn (of_guest g) rows None word h = rw (h.no_dashes, h.no_long, h.no_short) refl
path_turn (of_guest g) rows (Some q) word h = rw (h.no_dashes, h.no_long, h.no_short, and-false (bytes_eq q.0 (codes "image"))) refl
path_turn replaying rows None word h = rw (h.no_dashes, h.no_long, h.no_short) refl
path_turn replaying rows (Some q) word h = rw (h.no_dashes, h.no_long, h.no_short, and-false (bytes_eq q.0 (codes "trace"))) refl

pub path_settles : (k : Subcommand) (rows : List Row) (path : Text) → has_row (path_id k) rows ≡ false
    → Settles k rows (Some (path_id k, path ∷ [])) (rows ++ plain_row (path_id k) (path ∷ []) ∷ [])
unfolding the_app top_app guest_app demo_app replay_app clap_on_literals
path_settles (of_guest g) rows path h = one_settles (of_guest g) (codes "image") _ refl (takes_one refl refl refl refl refl (λ word. refl)) rows path h
path_settles replaying rows path h = one_settles replaying (codes "trace") _ refl (takes_one refl refl refl refl refl (λ word. refl)) rows path h

-- ---- the further words

pub first_word : (k : Subcommand) → RunsGuest k → (rows : List Row) (image word : Text) → IsNoFlag word
    → walked (rules k) [] (stand rows (Some (path_id k, image ∷ [])) idle 2) word
    ≡ stand (settled_rows (rules k) (Some (path_id k, image ∷ [])) rows) (Some (codes "word", word ∷ [])) positional 2
unfolding the_app top_app guest_app demo_app replay_app clap_on_literals
first_word (of_guest g) guest rows image word h = rw (h.no_dashes, h.no_long, h.no_short) refl
first_word replaying guest rows image word h = absurd guest

pub first_turn : (k : Subcommand) → RunsGuest k → (rows : List Row) (image word : Text) → IsNoFlag word
    → turn k rows (Some (path_id k, image ∷ [])) idle 2 word ≡ may_settle k rows (Some (path_id k, image ∷ []))
unfolding the_app top_app guest_app demo_app replay_app clap_on_literals
first_turn (of_guest g) guest rows image word h = rw (h.no_dashes, h.no_long, h.no_short) refl
first_turn replaying guest rows image word h = absurd guest

pub further_word : (k : Subcommand) → RunsGuest k → (rows : List Row) (words : List Text) (word : Text) → IsNoFlag word
    → walked (rules k) [] (stand rows (Some (codes "word", words)) positional 2) word
    ≡ stand rows (Some (codes "word", words ++ word ∷ [])) positional 2
unfolding the_app top_app guest_app demo_app replay_app clap_on_literals
further_word (of_guest g) guest rows words word h = rw (h.no_dashes, h.no_long, h.no_short) refl
further_word replaying guest rows words word h = absurd guest

pub further_turn : (k : Subcommand) → RunsGuest k → (rows : List Row) (words : List Text) (word : Text) → IsNoFlag word
    → turn k rows (Some (codes "word", words)) positional 2 word ≡ true
unfolding the_app top_app guest_app demo_app replay_app clap_on_literals
further_turn (of_guest g) guest rows words word h = rw (h.no_dashes, h.no_long, h.no_short) refl
further_turn replaying guest rows words word h = absurd guest

pub words_settle : (k : Subcommand) → RunsGuest k → (rows : List Row) (word : Text) (words : List Text) → has_row (codes "word") rows ≡ false
    → length (word ∷ words) < 2 ^ 64
    → Settles k rows (Some (codes "word", word ∷ words)) (rows ++ plain_row (codes "word") (word ∷ words) ∷ [])
unfolding the_app top_app guest_app demo_app replay_app clap_on_literals
words_settle (of_guest g) guest rows word words h lt =
    let few : nat_le (length (word ∷ words)) usize_max ≡ true = grind (arith, nat_tests) in
    let some : nat_le 0 (length (word ∷ words)) ≡ true = grind (arith, nat_tests) in
    record { rows_are = new_row_kept (codes "word") (word ∷ words) rows h; passes = rw (some, few) (all_true words) }
words_settle replaying guest rows word words h lt = absurd guest

-- ---- defaults, and what is required

abbrev pub NoDefaults : List Rule → Type 0
NoDefaults [] = Unit {0}
NoDefaults (a ∷ rest) = (a.defaults ≡ []) × NoDefaults rest

if_none : (b : Bool) (a : Rule) (rows : List Row) → a.defaults ≡ [] → cond b rows (default_rows a.id (reading_by a) a.defaults rows) ≡ rows
if_none true a rows e = refl
if_none false a rows e = rw e refl

pub no_defaults : (as_rules : List Rule) (rows : List Row) → NoDefaults as_rules → fold with_default rows as_rules ≡ rows
no_defaults [] rows h = refl
no_defaults (a ∷ rest) rows h =
    ap (λ x. fold with_default x rest) (if_none (has_row a.id rows) a rows h.0) ∙ no_defaults rest rows h.1

-- only `--stats` has a default
finished_shared : (rest : List Rule) (rows : List Row) → fold with_default rows (shared_rules ++ rest) ≡ fold with_default rows rest
unfolding the_app top_app guest_app demo_app replay_app clap_on_literals
finished_shared rest rows = ap (λ x. fold with_default x rest) (no_defaults shared_rules rows (refl, (refl, (refl, (refl, (refl, (refl, (refl, tt))))))))

-- the command has `--stats`
abbrev pub has_stats : Subcommand → Bool
has_stats (of_guest running) = true
has_stats (of_guest _) = false
has_stats replaying = true

-- the row that is added where the command has the option and it is not given
abbrev pub added_rows : Bool → Bool → List Row
added_rows has given = cond has (unset_rows given) []

finished_own : (g : GuestCommand) (rows : List Row) → fold with_default rows (own_rules g) ≡ rows ++ added_rows (has_stats (of_guest g)) (has_row (codes "stats") rows)
unfolding the_app top_app guest_app demo_app replay_app clap_on_literals
finished_own running rows =
    ap (λ x. fold with_default x (drop 2 (own_rules running))) (no_defaults (take 2 (own_rules running)) rows (refl, (refl, tt)))
    ∙ if_unset (has_row (codes "stats") rows) rows refl
finished_own tracing rows = sym (append-nil rows)
finished_own caching rows = no_defaults (own_rules caching) rows (refl, (refl, (refl, tt))) ∙ sym (append-nil rows)
finished_own telling_contexts rows = no_defaults (own_rules telling_contexts) rows (refl, tt) ∙ sym (append-nil rows)

pub finished_rows : (k : Subcommand) (rows : List Row) → fold with_default rows (rules k) ≡ rows ++ added_rows (has_stats k) (has_row (codes "stats") rows)
unfolding the_app top_app guest_app demo_app replay_app clap_on_literals
finished_rows (of_guest g) rows = finished_shared (own_rules g) rows ∙ finished_own g rows
finished_rows replaying rows =
    ap (λ x. fold with_default x (drop 1 (rules replaying))) (no_defaults (take 1 (rules replaying)) rows (refl, tt))
    ∙ (no_defaults (drop 2 (rules replaying)) (fold with_default rows (take 1 (drop 1 (rules replaying)))) (refl, (refl, tt))
    ∙ if_unset (has_row (codes "stats") rows) rows refl)

two_needed : (rows : List Row) → (is_given (codes "image") rows && (is_given (codes "output") rows && true)) ≡ true → (is_given (codes "output") rows && (is_given (codes "image") rows && true)) ≡ true
two_needed rows h =
    let i = and_parts (is_given (codes "image") rows) _ h in
    let o = and_parts (is_given (codes "output") rows) true i.1 in
    rw (o.0, i.0) refl

-- what a command has to have: the path, and the options that it requires
abbrev pub needed : Subcommand → List Text
needed (of_guest g) = codes "image" ∷ required g
needed replaying = codes "trace" ∷ codes "output" ∷ []

pub valid_given : (k : Subcommand) (rows : List Row) → list_all (λ id. is_given id rows) (needed k) ≡ true → is_valid (shape k) rows false ≡ true
unfolding the_app top_app guest_app demo_app replay_app clap_on_literals
valid_given (of_guest caching) rows h =
    let i = and_parts (is_given (codes "image") rows) _ h in
    let s = and_parts (is_given (codes "sets") rows) _ i.1 in
    let w = and_parts (is_given (codes "ways") rows) _ s.1 in
    let l = and_parts (is_given (codes "line") rows) _ w.1 in
    let o = and_parts (is_given (codes "output") rows) true l.1 in
    rw (o.0, i.0, s.0, w.0, l.0) refl
valid_given (of_guest _) rows h = two_needed rows h
valid_given replaying rows h =
    let t = and_parts (is_given (codes "trace") rows) _ h in
    let o = and_parts (is_given (codes "output") rows) true t.1 in
    rw (o.0, t.0) refl

pub no_override : (k : Subcommand) → (shape k).args_override_self ≡ false
unfolding the_app top_app guest_app demo_app replay_app
no_override (of_guest g) = refl
no_override replaying = refl

pub defaults_pass : (k : Subcommand) → list_all default_passes (rules k) ≡ true
unfolding the_app top_app guest_app demo_app replay_app clap_on_literals
defaults_pass (of_guest running) = refl
defaults_pass _ = refl

-- ---- the name of a command

abbrev pub top_rules : List Rule
top_rules = (built the_app).top.rules

abbrev pub names : Names
names = names_of (built the_app)

-- the walk stopped at the command, with these words after it
abbrev pub at_command : Subcommand → List Text → Walk
at_command k words = record (walk_from nothing_held) { stopped = Some (name_of k, words) }

pub stops_at : (k : Subcommand) → walked top_rules names (walk_from nothing_held) (name_of k) ≡ at_command k []
unfolding the_app top_app guest_app demo_app replay_app clap_on_literals
stops_at (of_guest running) = refl
stops_at _ = refl

pub turn_at : (k : Subcommand) → turn_passes (built the_app).top names (walk_from nothing_held) (name_of k) ≡ true
unfolding the_app top_app guest_app demo_app replay_app clap_on_literals
turn_at (of_guest running) = refl
turn_at _ = refl

pub enters_command : (k : Subcommand) (rest : List Text) → entered (built the_app) (Some (name_of k, rest)) ≡ Some (name_of k, rows_after (rules k) [] rest)
unfolding the_app top_app guest_app demo_app replay_app clap_on_literals
enters_command (of_guest running) rest = refl
enters_command _ rest = refl

pub enters_passes : (k : Subcommand) (rest : List Text) → level_passes (shape k) [] nothing_held rest false ≡ true
    → entered_passes (built the_app) (Some (name_of k, rest)) ≡ true
unfolding the_app top_app guest_app demo_app replay_app clap_on_literals
enters_passes (of_guest running) rest h = h
enters_passes _ rest h = h

-- ---- one word of a walk

pub pass_step : (k : Subcommand) (w v : Walk) (word : Text) (rest : List Text) → turn_passes (shape k) [] w word ≡ true → walked (rules k) [] w word ≡ v
    → walk_passes (shape k) [] w (word ∷ rest) ≡ walk_passes (shape k) [] v rest
unfolding walk_passes
pass_step k w v word rest h e = ap₂ ◌&&◌ h (ap (λ u. walk_passes (shape k) [] u rest) e)

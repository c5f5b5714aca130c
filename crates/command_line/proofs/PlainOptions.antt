-- What is read of the rows of plain words.
use Rattle.std.proofs.Common.{◌≡◌, ℕ, Bool, true, false, refl, ap, ap₂, sym, ◌∙◌, List, [], ◌∷◌, ◌++◌, Option, Some, None, codes, inl, inr}
use Rattle.std.specs.Prelude.{option_map, unwrap_or}
use Rattle.std.specs.Str.{bytes_eq}
use Rattle.clap.specs.Words.{Row, Text, all_of, first_of}
use Rattle.stamps.specs.declared.width.StampBits.{StampBits}
use Rattle.command_line.specs.Options.{Analysis, Replay, analysis_of_rows, asked_of_rows, bits_of, budget_of, guest_asked_of_rows, guest_asked_with, guest_of_rows, guest_with, has_flag, quantum_of, replay_of_rows, replay_with, run_with, shape_said}
use Rattle.command_line.specs.Plain.{Choice, GuestCommand, PlainOptionsAreRead, PlainReplayIsRead, analysis_given, budget, caching, given, guest_given, guest_words, id_of, is_chosen, line, quantum, recording, replay_words, report, run_given, running, schedule, sets, stamps, stats, stdin, telling_contexts, tracing, value_of, ways}
use Rattle.command_line.specs.Plain as plain
use Rattle.command_line.proofs.Refusals.{asked_is, read_of}
use Rattle.command_line.proofs.PlainWords.{all_rows, end_rows, plain_subcommand, rows_are}
use Rattle.command_line.proofs.Steps.{Subcommand, has_stats, of_guest, path_id, replaying}
use Rattle.command_line.proofs.Rows.{IsNoChoice, choice_row, choice_rows, image_is_none, plain_rows, row_value, trace_is_none, word_is_none}

-- a choice of this argument has a value, where that is not `stats`
has_value : (id : Text) (c : Choice) → bytes_eq (codes "stats") id ≡ false → bytes_eq (id_of c) id ≡ true → Some (row_value c) ≡ value_of c
has_value id stats apart same = let no : false ≡ true = sym apart ∙ same in cc
has_value id _ apart same = refl

-- the value of an option, where the rows after those of the options have none
first_given : (id : Text) (cs : List Choice) (rest : List Row) → bytes_eq (codes "stats") id ≡ false → first_of id rest ≡ None
    → first_of id (choice_rows cs ++ rest) ≡ given id cs
first_given id [] rest apart h = h
first_given id (c ∷ cs) rest apart h = go (bytes_eq (id_of c) id) refl (first_given id cs rest apart h)
  where
    go : (b : Bool) → bytes_eq (id_of c) id ≡ b → first_of id (choice_rows cs ++ rest) ≡ given id cs
        → first_of id (choice_row c ∷ (choice_rows cs ++ rest)) ≡ given id (c ∷ cs)
    go true e rec = rw e (has_value id c apart e)
    go false e rec = rw e rec

-- whether `--stats` is given, where the rows after those of the options don't say so
flag_given : (cs : List Choice) (rest : List Row) → has_flag (codes "stats") rest ≡ false
    → has_flag (codes "stats") (choice_rows cs ++ rest) ≡ is_chosen (codes "stats") cs
flag_given [] rest h = h
flag_given (stats ∷ cs) rest h = refl
flag_given (_ ∷ cs) rest h = flag_given cs rest h

-- what no option is of is read of the rows after theirs
first_after : (id : Text) (cs : List Choice) (rest : List Row) → IsNoChoice id → first_of id (choice_rows cs ++ rest) ≡ first_of id rest
first_after id [] rest h = refl
first_after id (c ∷ cs) rest h = rw (h c) (first_after id cs rest h)

all_after : (id : Text) (cs : List Choice) (rest : List Row) → IsNoChoice id → all_of id (choice_rows cs ++ rest) ≡ all_of id rest
all_after id [] rest h = refl
all_after id (c ∷ cs) rest h = rw (h c) (all_after id cs rest h)

words_read : (has : Bool) (image : Text) (words : List Text) (given : Bool) → unwrap_or (all_of (codes "word") (end_rows has (codes "image") image words given)) [] ≡ words
words_read true image [] true = refl
words_read true image [] false = refl
words_read false image [] given = refl
words_read has image (w ∷ ws) given = refl

no_flag : (k : Subcommand) (path : Text) (words : List Text) (given : Bool) → has_flag (codes "stats") (end_rows true (path_id k) path words given) ≡ false
no_flag (of_guest g) path [] true = refl
no_flag (of_guest g) path [] false = refl
no_flag (of_guest g) path (w ∷ ws) true = refl
no_flag (of_guest g) path (w ∷ ws) false = refl
no_flag replaying path [] true = refl
no_flag replaying path [] false = refl
no_flag replaying path (w ∷ ws) true = refl
no_flag replaying path (w ∷ ws) false = refl

-- the argument is an option with a value
abbrev pub IsOption : Text → Type 0
IsOption id = (bytes_eq (codes "image") id ≡ false) × (bytes_eq (codes "trace") id ≡ false) × (bytes_eq (codes "word") id ≡ false) × (bytes_eq (codes "stats") id ≡ false)

-- the path has another argument
path_apart : (k : Subcommand) (id : Text) → IsOption id → bytes_eq (path_id k) id ≡ false
path_apart (of_guest g) id h = h.0
path_apart replaying id h = h.1

none_after : (has : Bool) (path_id id path : Text) (words : List Text) (given : Bool) → bytes_eq path_id id ≡ false → IsOption id
    → first_of id (end_rows has path_id path words given) ≡ None
none_after true path_id id path [] true apart h = rw apart refl
none_after true path_id id path [] false apart h = rw (apart, h.3) refl
none_after true path_id id path (w ∷ ws) true apart h = rw (apart, h.2) refl
none_after true path_id id path (w ∷ ws) false apart h = rw (apart, h.2, h.3) refl
none_after false path_id id path [] given apart h = rw apart refl
none_after false path_id id path (w ∷ ws) given apart h = rw (apart, h.2) refl

-- it is read of plain words
pub option_read : (k : Subcommand) (id : Text) (choices : List Choice) (path : Text) (words : List Text) → IsOption id
    → first_of id (all_rows k choices path words) ≡ given id choices
option_read k id choices path words h =
    let given_stats = is_chosen (codes "stats") choices in
    ap (first_of id) (rows_are (has_stats k) (path_id k) choices path words)
    ∙ first_given id choices (end_rows (has_stats k) (path_id k) path words given_stats) h.3
    (none_after (has_stats k) (path_id k) id path words given_stats (path_apart k id h) h)

-- what stands in the rows of a guest
guest_is : (rows : List Row) (turn_steps run_steps : ℕ) (image : Text) (input turns : Option Text) (words : List Text)
    → quantum_of (first_of (codes "quantum") rows) ≡ Some turn_steps → budget_of (first_of (codes "budget") rows) ≡ Some run_steps
    → first_of (codes "image") rows ≡ Some image → first_of (codes "stdin") rows ≡ input → first_of (codes "schedule") rows ≡ turns
    → unwrap_or (all_of (codes "word") rows) [] ≡ words
    → guest_of_rows rows ≡ Some (record {
      stdin = input;
      schedule = turns;
      quantum = turn_steps;
      budget = run_steps;
      image = image;
      words = words;
    })
guest_is rows turn_steps run_steps image input turns words q b i s c w =
    ap₂ (λ x y. guest_with rows x y (first_of (codes "image") rows)) q b
    ∙ (ap (λ x. guest_with rows (Some turn_steps) (Some run_steps) x) i
    ∙ λ k. Some (record {
      stdin = s k;
      schedule = c k;
      quantum = turn_steps;
      budget = run_steps;
      image = image;
      words = w k;
    }))

-- the guest of plain words
guest_read : (g : GuestCommand) (choices : List Choice) (image : Text) (words : List Text) (turn_steps run_steps : ℕ)
    → quantum_of (given (codes "quantum") choices) ≡ Some turn_steps → budget_of (given (codes "budget") choices) ≡ Some run_steps
    → guest_of_rows (all_rows (of_guest g) choices image words) ≡ Some (guest_given choices turn_steps run_steps image words)
guest_read g choices image words turn_steps run_steps q b =
    let k = of_guest g in
    let has = has_stats k in
    let rows = all_rows k choices image words in
    let is = rows_are has (codes "image") choices image words in
    let given_stats = is_chosen (codes "stats") choices in
    let end = end_rows has (codes "image") image words given_stats in
    guest_is rows turn_steps run_steps image (given (codes "stdin") choices) (given (codes "schedule") choices) words
    (ap quantum_of (option_read k (codes "quantum") choices image words (refl, refl, refl, refl)) ∙ q)
    (ap budget_of (option_read k (codes "budget") choices image words (refl, refl, refl, refl)) ∙ b)
    (ap (first_of (codes "image")) is ∙ first_after (codes "image") choices end image_is_none)
    (option_read k (codes "stdin") choices image words (refl, refl, refl, refl))
    (option_read k (codes "schedule") choices image words (refl, refl, refl, refl))
    (ap (λ (r : List Row). unwrap_or (all_of (codes "word") r) []) is
    ∙ (ap (λ (o : Option (List Text)). unwrap_or o []) (all_after (codes "word") choices end word_is_none) ∙ words_read has image words given_stats))

-- what the command has beside
run_is : (rows : List Row) (choices : List Choice) → bits_of (first_of (codes "stamps") rows) ≡ bits_of (given (codes "stamps") choices)
    → first_of (codes "record") rows ≡ given (codes "record") choices → has_flag (codes "stats") rows ≡ is_chosen (codes "stats") choices
    → run_with rows (bits_of (first_of (codes "stamps") rows)) ≡ option_map (run_given choices) (bits_of (given (codes "stamps") choices))
run_is rows choices n l f = ap (run_with rows) n ∙ by (bits_of (given (codes "stamps") choices))
  where
    by : (width : Option StampBits) → run_with rows width ≡ option_map (run_given choices) width
    by None = refl
    by (Some width) = λ i. Some (Analysis.Run (record { recording = l i; bits = width; stats = f i }))

pub analysis_read : (g : GuestCommand) (choices : List Choice) (image : Text) (words : List Text)
    → analysis_of_rows (plain.name_of g) (all_rows (of_guest g) choices image words) ≡ analysis_given g choices
analysis_read running choices image words =
    let k = of_guest running in
    let given_stats = is_chosen (codes "stats") choices in
    run_is (all_rows k choices image words) choices
    (ap bits_of (option_read k (codes "stamps") choices image words (refl, refl, refl, refl)))
    (option_read k (codes "record") choices image words (refl, refl, refl, refl))
    (flag_given choices (end_rows true (codes "image") image words given_stats) (no_flag k image words given_stats))
analysis_read tracing choices image words = refl
analysis_read caching choices image words =
    let k = of_guest caching in
    let rows = all_rows k choices image words in
    ap (option_map Analysis.Cache)
    (ap₂ (λ sets ways. shape_said sets ways (first_of (codes "line") rows))
    (option_read k (codes "sets") choices image words (refl, refl, refl, refl)) (option_read k (codes "ways") choices image words (refl, refl, refl, refl))
    ∙ ap (shape_said (given (codes "sets") choices) (given (codes "ways") choices)) (option_read k (codes "line") choices image words (refl, refl, refl, refl)))
analysis_read telling_contexts choices image words =
    ap (λ text. option_map Analysis.Contexts (bits_of text)) (option_read (of_guest telling_contexts) (codes "stamps") choices image words (refl, refl, refl, refl))

-- what a command that runs a guest asks for by its rows
pub asked_by_name : (g : GuestCommand) (rows : List Row) → asked_of_rows (plain.name_of g) rows ≡ guest_asked_of_rows (plain.name_of g) rows
asked_by_name running rows = refl
asked_by_name _ rows = refl

pub plain_options : PlainOptionsAreRead
plain_options g program choices image words plain' has zeros output turn_steps run_steps analysis o q b is =
    let k = of_guest g in
    let rows = all_rows k choices image words in
    asked_is (guest_words g program choices image words) zeros
    ∙ (ap read_of (plain_subcommand k program choices image words (inl tt) plain' has)
    ∙ (asked_by_name g rows
    ∙ (ap₂ (λ guest path. guest_asked_with guest path (analysis_of_rows (plain.name_of g) rows))
    (guest_read g choices image words turn_steps run_steps q b) (option_read k (codes "output") choices image words (refl, refl, refl, refl) ∙ o)
    ∙ ap (guest_asked_with (Some (guest_given choices turn_steps run_steps image words)) (Some output)) (analysis_read g choices image words ∙ is))))

-- what stands in the rows of `replay`
replay_is : (rows : List Row) (trace : Text) (width : StampBits) (report_path : Text) (is_given : Bool)
    → first_of (codes "trace") rows ≡ Some trace → first_of (codes "output") rows ≡ Some report_path
    → bits_of (first_of (codes "stamps") rows) ≡ Some width → has_flag (codes "stats") rows ≡ is_given
    → replay_of_rows rows ≡ Some (record { trace = trace; report = report_path; bits = width; stats = is_given })
replay_is rows trace width report_path is_given t r n f =
    ap₂ (λ x y. replay_with rows x y (bits_of (first_of (codes "stamps") rows))) t r
    ∙ (ap (λ x. replay_with rows (Some trace) (Some report_path) x) n
    ∙ λ k. Some (record { trace = trace; report = report_path; bits = width; stats = f k }))

pub plain_replay_options : PlainReplayIsRead
plain_replay_options program choices trace plain of_replay zeros report_path width r n =
    let given_stats = is_chosen (codes "stats") choices in
    let end = end_rows true (codes "trace") trace [] given_stats in
    asked_is (replay_words program choices trace) zeros
    ∙ (ap read_of (plain_subcommand replaying program choices trace [] (inr refl) plain of_replay)
    ∙ ap (option_map Replay) (replay_is (plain_rows (codes "trace") choices trace []) trace width report_path given_stats
    (first_after (codes "trace") choices end trace_is_none)
    (option_read replaying (codes "output") choices trace [] (refl, refl, refl, refl) ∙ r)
    (ap bits_of (option_read replaying (codes "stamps") choices trace [] (refl, refl, refl, refl)) ∙ n)
    (flag_given choices end (no_flag replaying trace [] given_stats))))

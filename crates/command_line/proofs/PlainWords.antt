-- Plain words are taken, and their rows are these.
use Rattle.std.proofs.Common.{◌≡◌, ◌⊎◌, inl, inr, Bool, true, false, refl, ap, ap₂, sym, ◌∙◌, ◌&&◌, ◌||◌, List, [], ◌∷◌, ◌++◌, Option, Some, None, codes, append_assoc}
use Rattle.std.proofs.lemmas.Bool.{and_parts}
use Rattle.std.proofs.lemmas.List.{append-nil}
use Rattle.std.proofs.lemmas.List.Folds.{list_any-append}
use Rattle.std.proofs.Math.Bool.{or-false}
use Rattle.std.proofs.lemmas.Slice.Eq.{bytes_eq-Decides}
use Rattle.std.specs.Prelude.{fold, is_some}
use Rattle.std.specs.List.{list_all}
use Rattle.std.specs.Str.{bytes_eq}
use Rattle.clap.specs.Simple.{argument_words, entered}
use Rattle.clap.specs.Takes.{built_takes, default_passes, entered_passes, is_given, is_valid, level_passes, settle_passes, walk_passes}
use Rattle.clap.specs.Walk.{Walk, finished, has_row, idle, nothing_held, rows_after, settled_rows, walk_from, walked, with_default}
use Rattle.clap.specs.Words.{Row, Text, built, subcommand_of, takes}
use Rattle.clap.proofs.OnLiterals.{clap_on_literals}
use Rattle.command_line.specs.App.{the_app, top_app, guest_app, demo_app, replay_app}
use Rattle.command_line.specs.Plain.{ArePlain, Choice, HasRequired, PlainReplayIsTaken, PlainWordsAreTaken, choice_words, id_of, is_chosen, named_words, required, stats}
use Rattle.command_line.proofs.Choices.{MayFollow, ends_command}
use Rattle.command_line.proofs.Fixed.{the_app_is_simple}
use Rattle.command_line.proofs.Rows.{choice_rows, image_is_none, made_rows, plain_rows, tail_rows, trace_is_none, unset_rows, IsNoChoice}
use Rattle.command_line.proofs.Steps.{Subcommand, added_rows, at_command, defaults_pass, enters_command, enters_passes, finished_rows, has_option, has_stats, name_of, names, needed, no_override, of_guest, path_id, replaying, rules, shape, stand, stops_at, top_rules, turn_at, valid_given}

-- ---- defaults

chosen_stats : (cs : List Choice) → has_row (codes "stats") (choice_rows cs) ≡ is_chosen (codes "stats") cs
chosen_stats [] = refl
chosen_stats (stats ∷ cs) = refl
chosen_stats (_ ∷ cs) = chosen_stats cs

no_stats_tail : (k : Subcommand) (path : Text) (words : List Text) → has_row (codes "stats") (tail_rows (path_id k) path words) ≡ false
no_stats_tail (of_guest g) path [] = refl
no_stats_tail (of_guest g) path (w ∷ ws) = refl
no_stats_tail replaying path [] = refl
no_stats_tail replaying path (w ∷ ws) = refl

-- the rows that plain words make of a command, where it has `--stats` or not
abbrev pub rows_by : Bool → Text → List Choice → Text → List Text → List Row
rows_by true id choices path words = plain_rows id choices path words
rows_by false id choices path words = made_rows id choices path words

abbrev pub all_rows : Subcommand → List Choice → Text → List Text → List Row
all_rows k choices path words = rows_by (has_stats k) (path_id k) choices path words

finished_plain : (k : Subcommand) (choices : List Choice) (path : Text) (words : List Text)
    → fold with_default (made_rows (path_id k) choices path words) (rules k) ≡ all_rows k choices path words
finished_plain k choices path words = finished_rows k made ∙ by (has_stats k)
  where
    made : List Row
    made = made_rows (path_id k) choices path words

    tail : List Row
    tail = tail_rows (path_id k) path words

    chosen : has_row (codes "stats") made ≡ is_chosen (codes "stats") choices
    chosen =
        list_any-append (λ r. bytes_eq r.id (codes "stats")) (choice_rows choices) tail
        ∙ (ap₂ ◌||◌ (chosen_stats choices) (no_stats_tail k path words) ∙ or-false _)

    by : (has : Bool) → made ++ added_rows has (has_row (codes "stats") made) ≡ rows_by has (path_id k) choices path words
    by true = ap (λ b. made ++ unset_rows b) chosen ∙ append_assoc (choice_rows choices) tail (unset_rows (is_chosen (codes "stats") choices))
    by false = append-nil made

-- ---- what is required is there

given_left : (id : Text) (xs ys : List Row) → is_given id xs ≡ true → is_given id (xs ++ ys) ≡ true
given_left id [] ys h = let bad : false ≡ true = h in cc
given_left id (x ∷ xs) ys h = go (bytes_eq x.id id) refl h (given_left id xs ys)
  where
    go : (b : Bool) → bytes_eq x.id id ≡ b → is_given id (x ∷ xs) ≡ true → (is_given id xs ≡ true → is_given id (xs ++ ys) ≡ true)
        → is_given id (x ∷ (xs ++ ys)) ≡ true
    go true e k rec = rw e (rw e at k)
    go false e k rec = rw e (rec (rw e at k))

-- an option that is chosen is given
given_chosen : (id : Text) (cs : List Choice) → is_chosen id cs ≡ true → is_given id (choice_rows cs) ≡ true
given_chosen id [] h = let bad : false ≡ true = h in cc
given_chosen id (c ∷ cs) h = go (bytes_eq id (id_of c)) refl h (given_chosen id cs)
  where
    -- the first is of this argument, or another
    first : (b : Bool) → bytes_eq (id_of c) id ≡ b → is_given id (choice_rows cs) ≡ true ⊎ (bytes_eq (id_of c) id ≡ true) → is_given id (choice_rows (c ∷ cs)) ≡ true
    first true e or = rw e refl
    first false e (inl rest) = rw e rest
    first false e (inr same) = let no : false ≡ true = sym e ∙ same in cc

    go : (b : Bool) → bytes_eq id (id_of c) ≡ b → is_chosen id (c ∷ cs) ≡ true → (is_chosen id cs ≡ true → is_given id (choice_rows cs) ≡ true)
        → is_given id (choice_rows (c ∷ cs)) ≡ true
    go true e k rec = first (bytes_eq (id_of c) id) refl (inr ((bytes_eq-Decides (id_of c) id).1 (sym ((bytes_eq-Decides id (id_of c)).0 e))))
    go false e k rec = first (bytes_eq (id_of c) id) refl (inl (rec (rw e at k)))

-- the row of the image follows those of the options
given_after : (id : Text) (cs : List Choice) (rest : List Row) → IsNoChoice id → is_given id rest ≡ true
    → is_given id (choice_rows cs ++ rest) ≡ true
given_after id [] rest h g = g
given_after id (c ∷ cs) rest h g = rw (h c) (given_after id cs rest h g)

-- an option that is chosen is given among all rows, and so is the image
given_first : (id : Text) (choices : List Choice) (rest : List Row) → is_chosen id choices ≡ true → is_given id (choice_rows choices ++ rest) ≡ true
given_first id choices rest chosen = given_left id (choice_rows choices) rest (given_chosen id choices chosen)

all_given : (choices : List Choice) (rest : List Row) (ids : List Text) → list_all (λ id. is_chosen id choices) ids ≡ true
    → list_all (λ id. is_given id (choice_rows choices ++ rest)) ids ≡ true
all_given choices rest [] h = refl
all_given choices rest (id ∷ ids) h =
    let two = and_parts (is_chosen id choices) (list_all (λ id. is_chosen id choices) ids) h in
    ap₂ ◌&&◌ (given_first id choices rest two.0) (all_given choices rest ids two.1)

-- the options that a command has to have are among the choices
abbrev pub HasAll : Subcommand → List Choice → Type 0
HasAll (of_guest g) cs = HasRequired g cs
HasAll replaying cs = is_chosen (codes "output") cs ≡ true

-- the rows after those of the options
abbrev pub end_rows : Bool → Text → Text → List Text → Bool → List Row
end_rows has id path words given = tail_rows id path words ++ added_rows has given

pub rows_are : (has : Bool) (id : Text) (choices : List Choice) (path : Text) (words : List Text)
    → rows_by has id choices path words ≡ choice_rows choices ++ end_rows has id path words (is_chosen (codes "stats") choices)
rows_are true id choices path words = refl
rows_are false id choices path words = ap (λ (end : List Row). choice_rows choices ++ end) (sym (append-nil (tail_rows id path words)))

all_needed : (k : Subcommand) (choices : List Choice) (path : Text) (words : List Text) → HasAll k choices
    → list_all (λ id. is_given id (choice_rows choices ++ end_rows (has_stats k) (path_id k) path words (is_chosen (codes "stats") choices))) (needed k) ≡ true
all_needed (of_guest g) choices path words chosen =
    let end = end_rows (has_stats (of_guest g)) (codes "image") path words (is_chosen (codes "stats") choices) in
    ap₂ ◌&&◌ (given_after (codes "image") choices end image_is_none refl) (all_given choices end (required g) chosen)
all_needed replaying choices path words chosen =
    let end = end_rows true (codes "trace") path words (is_chosen (codes "stats") choices) in
    ap₂ ◌&&◌ (given_after (codes "trace") choices end trace_is_none refl) (ap₂ ◌&&◌ (given_first (codes "output") choices end chosen) refl)

command_valid : (k : Subcommand) (choices : List Choice) (path : Text) (words : List Text) → HasAll k choices
    → is_valid (shape k) (all_rows k choices path words) false ≡ true
command_valid k choices path words chosen =
    valid_given k (all_rows k choices path words)
    (ap (λ rows. list_all (λ id. is_given id rows) (needed k)) (rows_are (has_stats k) (path_id k) choices path words) ∙ all_needed k choices path words chosen)

-- ---- the command and its words

command_rows : (k : Subcommand) (choices : List Choice) (image : Text) (words : List Text) → MayFollow k words → ArePlain choices image words → list_all (has_option k) choices ≡ true
    → rows_after (rules k) [] (choice_words choices ++ image ∷ words) ≡ all_rows k choices image words
command_rows k choices image words may plain has =
    let end = ends_command k choices image words may plain has in
    ap (λ w. fold with_default (settled_rows (rules k) w.held.pending w.held.rows) (rules k)) end.walk
    ∙ (ap (λ rows. fold with_default rows (rules k)) end.settles.rows_are ∙ finished_plain k choices image words)

level_from : (k : Subcommand) (words : List Text) (w : Walk) → fold (walked (rules k) []) (stand [] None idle 1) words ≡ w
    → walk_passes (shape k) [] (stand [] None idle 1) words ≡ true
    → settle_passes (rules k) false w.held ≡ true → is_valid (shape k) (finished (rules k) w.held) false ≡ true
    → level_passes (shape k) [] nothing_held words false ≡ true
level_from k words w walk pass settles valid =
    ap₂ ◌&&◌ pass
    (ap (λ (v : Walk). settle_passes (rules k) (shape k).args_override_self v.held
    && (list_all default_passes (rules k) && is_valid (shape k) (finished (rules k) v.held) false)) walk
    ∙ ap₂ ◌&&◌ (ap (λ (b : Bool). settle_passes (rules k) b w.held) (no_override k) ∙ settles) (ap₂ ◌&&◌ (defaults_pass k) valid))

command_passes : (k : Subcommand) (choices : List Choice) (image : Text) (words : List Text) → MayFollow k words → ArePlain choices image words → list_all (has_option k) choices ≡ true
    → HasAll k choices
    → level_passes (shape k) [] nothing_held (choice_words choices ++ image ∷ words) false ≡ true
command_passes k choices image words may plain has chosen =
    let end = ends_command k choices image words may plain has in
    let valid = command_valid k choices image words chosen in
    level_from k _ _ end.walk end.pass end.settles.passes
    (ap (λ rows. is_valid (shape k) (fold with_default rows (rules k)) false) end.settles.rows_are
    ∙ (ap (λ rows. is_valid (shape k) rows false) (finished_plain k choices image words) ∙ valid))

-- ---- the subcommand

stays_at : (k : Subcommand) (rest before : List Text) → fold (walked top_rules names) (at_command k before) rest ≡ at_command k (before ++ rest)
unfolding walked
stays_at k [] before = ap (at_command k) (sym (append-nil before))
stays_at k (w ∷ ws) before = stays_at k ws (before ++ w ∷ []) ∙ ap (at_command k) (append_assoc before (w ∷ []) ws)

passes_at : (k : Subcommand) (rest before : List Text) → walk_passes (built the_app).top names (at_command k before) rest ≡ true
unfolding walked walk_passes
passes_at k [] before = refl
passes_at k (w ∷ ws) before = passes_at k ws (before ++ w ∷ [])

top_walk : (k : Subcommand) (rest : List Text) → fold (walked top_rules names) (walk_from nothing_held) (name_of k ∷ rest) ≡ at_command k rest
top_walk k rest = ap (λ w. fold (walked top_rules names) w rest) (stops_at k) ∙ stays_at k rest []

top_passes : (k : Subcommand) (rest : List Text) → walk_passes (built the_app).top names (walk_from nothing_held) (name_of k ∷ rest) ≡ true
unfolding walk_passes
top_passes k rest =
    ap₂ ◌&&◌ (turn_at k) (ap (λ w. walk_passes (built the_app).top names w rest) (stops_at k) ∙ passes_at k rest [])

-- what holds after the walk of the top command, by what was met and whether it has matches
abbrev pub top_ends : Walk → Bool → Bool
top_ends w has_subcommand = settle_passes top_rules (built the_app).top.args_override_self w.held
    && (list_all default_passes top_rules && is_valid (built the_app).top (finished top_rules w.held) has_subcommand)

top_valid : (k : Subcommand) (rest : List Text) → top_ends (at_command k rest) true ≡ true
unfolding the_app top_app guest_app demo_app replay_app clap_on_literals
top_valid k rest = refl

built_takes_command : (k : Subcommand) (rest : List Text) → level_passes (shape k) [] nothing_held rest false ≡ true
    → built_takes (built the_app) nothing_held (name_of k ∷ rest) ≡ true
built_takes_command k rest h =
    let walk = top_walk k rest in
    ap₂ ◌&&◌ (ap (λ (w : Walk). entered_passes (built the_app) w.stopped) walk ∙ enters_passes k rest h)
    (ap₂ ◌&&◌ (top_passes k rest)
    (ap (λ (w : Walk). top_ends w (is_some (entered (built the_app) w.stopped))) walk
    ∙ (ap (λ (o : Option (Text × List Row)). top_ends (at_command k rest) (is_some o)) (enters_command k rest) ∙ top_valid k rest)))

pub after_program : (program : Text) (words : List Text) → argument_words the_app (program ∷ words) ≡ words
unfolding the_app top_app guest_app demo_app replay_app
after_program program words = refl

-- the words of a whole command line
abbrev pub command_words : Subcommand → Text → List Choice → Text → List Text → List Text
command_words k program choices image words = named_words (name_of k) program choices image words

plain_taken : (k : Subcommand) (program : Text) (choices : List Choice) (image : Text) (words : List Text) → MayFollow k words → ArePlain choices image words
    → list_all (has_option k) choices ≡ true → HasAll k choices → takes the_app (command_words k program choices image words) ≡ true
plain_taken k program choices image words may plain has chosen =
    let rest = choice_words choices ++ image ∷ words in
    ap₂ ◌&&◌ the_app_is_simple
    (ap (built_takes (built the_app) nothing_held) (after_program program (name_of k ∷ rest))
    ∙ built_takes_command k rest (command_passes k choices image words may plain has chosen))

pub plain_words : PlainWordsAreTaken
plain_words command program choices image words plain has chosen = plain_taken (of_guest command) program choices image words (inl tt) plain has chosen

pub plain_replay : PlainReplayIsTaken
plain_replay program choices trace plain of_replay chosen = plain_taken replaying program choices trace [] (inr refl) plain of_replay chosen

pub plain_subcommand : (k : Subcommand) (program : Text) (choices : List Choice) (image : Text) (words : List Text) → MayFollow k words → ArePlain choices image words
    → list_all (has_option k) choices ≡ true
    → subcommand_of the_app (command_words k program choices image words) ≡ Some (name_of k, all_rows k choices image words)
plain_subcommand k program choices image words may plain has =
    let rest = choice_words choices ++ image ∷ words in
    ap (λ ws. entered (built the_app) (fold (walked top_rules names) (walk_from nothing_held) ws).stopped) (after_program program (name_of k ∷ rest))
    ∙ (ap (λ (w : Walk). entered (built the_app) w.stopped) (top_walk k rest)
    ∙ (enters_command k rest ∙ ap (λ (rows : List Row). Some (name_of k, rows)) (command_rows k choices image words may plain has)))

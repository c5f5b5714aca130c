-- The walk over the options, the image and the further words.
use Rattle.std.proofs.Common.{◌≡◌, ◌<◌, ◌^◌, true, false, refl, ap, ap₂, subst, sym, ◌∙◌, ◌||◌, append_assoc, List, [], ◌∷◌, ◌++◌, length, Some, None, codes, ◌⊎◌, inl, inr}
use Rattle.std.proofs.lemmas.List.{append-nil}
use Rattle.std.proofs.lemmas.List.Sums.{fold-append}
use Rattle.std.specs.Prelude.{fold}
use Rattle.std.specs.List.{list_all}
use Rattle.std.specs.Str.{bytes_eq}
use Rattle.std.proofs.lemmas.Bool.{and_parts, or_parts}
use Rattle.clap.specs.Takes.{walk_passes}
use Rattle.clap.specs.Walk.{Waiting, Walk, has_row, idle, option, positional, settled_rows, walked}
use Rattle.clap.specs.Words.{Row, Text}
use Rattle.command_line.specs.Plain.{ArePlain, Choice, HasNoRepeat, budget, choice_words, has_plain_value, id_of, is_chosen, is_plain_word, line, quantum, recording, report, schedule, sets, stamps, stats, stdin, ways, words_of}
use Rattle.command_line.proofs.Rows.{absent_in_both, IsNoChoice, choice_row, choice_rows, image_is_none, made_rows, no_choice_row, plain_row, tail_rows, trace_is_none, word_is_none, word_rows}
use Rattle.command_line.proofs.Steps.{IsNoFlag, Pending, RunsGuest, Settles, Subcommand, TakesStats, TakesValue, first_turn, first_word, further_turn, further_word, has_option, of_guest, pass_step, path_id, path_settles, path_turn, path_word, plain_is_no_flag, replaying, rules, shape, stand, takes_choice, turn, words_settle}

-- ---- the options

-- After these words, which pass, what is held settles with these rows, and another option may come.
record Goes (k : Subcommand) (rows : List Row) (p : Pending) (words : List Text) (all : List Row) : Type 0 where
  rows2 : List Row
  p2 : Pending
  walk : fold (walked (rules k) []) (stand rows p idle 1) words ≡ stand rows2 p2 idle 1
  pass : (rest : List Text) → walk_passes (shape k) [] (stand rows p idle 1) (words ++ rest)
      ≡ walk_passes (shape k) [] (stand rows2 p2 idle 1) rest
  settles : Settles k rows2 p2 all

goes_value : (k : Subcommand) (flag id v : Text) (rows : List Row) (p : Pending) (all : List Row) → TakesValue k flag id → Settles k rows p all
    → IsNoFlag v → has_row id all ≡ false → Goes k rows p (flag ∷ v ∷ []) (all ++ plain_row id (v ∷ []) ∷ [])
goes_value k flag id v rows p all takes h plain fresh =
    let first : walked (rules k) [] (stand rows p idle 1) flag ≡ stand all (Some (id, [])) (option id) 1 =
    takes.flag_word rows p ∙ ap (λ (xs : List Row). stand xs (Some (id, [])) (option id) 1) h.rows_are in
    let second = takes.value_word all v plain in
    let one : turn k rows p idle 1 flag ≡ true = takes.flag_turn rows p ∙ h.passes in
    let two : turn k all (Some (id, [])) (option id) 1 v ≡ true = takes.value_turn all v plain in
    record {
      rows2 = all;
      p2 = Some (id, v ∷ []);
      walk = ap (λ w. walked (rules k) [] w v) first ∙ second;
      pass = λ rest. pass_step k _ _ flag (v ∷ rest) one first ∙ pass_step k _ _ v rest two second;
      settles = takes.settles all v fresh;
    }

goes_stats : (k : Subcommand) (rows : List Row) (p : Pending) (all : List Row) → TakesStats k → Settles k rows p all → has_row (codes "stats") all ≡ false
    → Goes k rows p (codes "--stats" ∷ []) (all ++ choice_row stats ∷ [])
goes_stats k rows p all takes h fresh =
    let absent : has_row (codes "stats") (settled_rows (rules k) p rows) ≡ false = rw h.rows_are fresh in
    let step = takes.flag_word rows p absent ∙ ap (λ (xs : List Row). stand (xs ++ choice_row stats ∷ []) None idle 1) h.rows_are in
    record {
      rows2 = all ++ choice_row stats ∷ [];
      p2 = None;
      walk = step;
      pass = λ rest. pass_step k _ _ (codes "--stats") rest (takes.flag_turn rows p absent ∙ h.passes) step;
      settles = record { rows_are = refl; passes = refl };
    }

goes_choice : (k : Subcommand) (c : Choice) (rows : List Row) (p : Pending) (all : List Row) → Settles k rows p all → has_option k c ≡ true
    → has_plain_value c ≡ true → has_row (id_of c) all ≡ false → Goes k rows p (words_of c) (all ++ choice_row c ∷ [])
goes_choice k (stdin v) rows p all h has plain fresh = goes_value k _ _ v rows p all (takes_choice k (stdin v) has) h (plain_is_no_flag v plain) fresh
goes_choice k (quantum v) rows p all h has plain fresh = goes_value k _ _ v rows p all (takes_choice k (quantum v) has) h (plain_is_no_flag v plain) fresh
goes_choice k (schedule v) rows p all h has plain fresh = goes_value k _ _ v rows p all (takes_choice k (schedule v) has) h (plain_is_no_flag v plain) fresh
goes_choice k (recording v) rows p all h has plain fresh = goes_value k _ _ v rows p all (takes_choice k (recording v) has) h (plain_is_no_flag v plain) fresh
goes_choice k (budget v) rows p all h has plain fresh = goes_value k _ _ v rows p all (takes_choice k (budget v) has) h (plain_is_no_flag v plain) fresh
goes_choice k (stamps v) rows p all h has plain fresh = goes_value k _ _ v rows p all (takes_choice k (stamps v) has) h (plain_is_no_flag v plain) fresh
goes_choice k stats rows p all h has plain fresh = goes_stats k rows p all (takes_choice k stats has) h fresh
goes_choice k (report v) rows p all h has plain fresh = goes_value k _ _ v rows p all (takes_choice k (report v) has) h (plain_is_no_flag v plain) fresh
goes_choice k (sets v) rows p all h has plain fresh = goes_value k _ _ v rows p all (takes_choice k (sets v) has) h (plain_is_no_flag v plain) fresh
goes_choice k (ways v) rows p all h has plain fresh = goes_value k _ _ v rows p all (takes_choice k (ways v) has) h (plain_is_no_flag v plain) fresh
goes_choice k (line v) rows p all h has plain fresh = goes_value k _ _ v rows p all (takes_choice k (line v) has) h (plain_is_no_flag v plain) fresh

-- none of the choices has a row
abbrev AllFresh : List Row → List Choice → Type 0
AllFresh all [] = Unit {0}
AllFresh all (c ∷ cs) = (has_row (id_of c) all ≡ false) × AllFresh all cs

fresh_more : (all : List Row) (c : Choice) (cs : List Choice) → AllFresh all cs → is_chosen (id_of c) cs ≡ false
    → AllFresh (all ++ choice_row c ∷ []) cs
fresh_more all c [] f h = tt
fresh_more all c (d ∷ ds) f h =
    let e = or_parts (bytes_eq (id_of c) (id_of d)) (is_chosen (id_of c) ds) h in
    (absent_in_both (id_of d) all (choice_row c ∷ []) f.0 (ap₂ ◌||◌ e.0 refl), fresh_more all c ds f.1 e.1)

fresh_at_first : (cs : List Choice) → AllFresh [] cs
fresh_at_first [] = tt
fresh_at_first (c ∷ cs) = (refl, fresh_at_first cs)

goes_choices : (k : Subcommand) (cs : List Choice) (rows : List Row) (p : Pending) (all : List Row) → Settles k rows p all
    → list_all (has_option k) cs ≡ true → list_all has_plain_value cs ≡ true → HasNoRepeat cs → AllFresh all cs
    → Goes k rows p (choice_words cs) (all ++ choice_rows cs)
goes_choices k [] rows p all h has plain once fresh = record {
  rows2 = rows;
  p2 = p;
  walk = refl;
  pass = λ rest. refl;
  settles = subst (Settles k rows p) (sym (append-nil all)) h;
}
goes_choices k (c ∷ cs) rows p all h has plain once fresh =
    let values = and_parts (has_plain_value c) (list_all has_plain_value cs) plain in
    let options = and_parts (has_option k c) (list_all (has_option k) cs) has in
    let one = goes_choice k c rows p all h options.0 values.0 fresh.0 in
    let more = goes_choices k cs one.rows2 one.p2 (all ++ choice_row c ∷ []) one.settles options.1 values.1 once.1
    (fresh_more all c cs fresh.1 once.0) in
    record {
      rows2 = more.rows2;
      p2 = more.p2;
      walk = fold-append (walked (rules k) []) (stand rows p idle 1) (words_of c) (choice_words cs)
          ∙ (ap (λ w. fold (walked (rules k) []) w (choice_words cs)) one.walk ∙ more.walk);
      pass = λ rest. ap (λ ws. walk_passes (shape k) [] (stand rows p idle 1) ws) (append_assoc (words_of c) (choice_words cs) rest)
          ∙ (one.pass (choice_words cs ++ rest) ∙ more.pass rest);
      settles = subst (Settles k more.rows2 more.p2) (append_assoc all (choice_row c ∷ []) (choice_rows cs)) more.settles;
    }

-- ---- the path and the further words

pub path_is_none : (k : Subcommand) → IsNoChoice (path_id k)
path_is_none (of_guest g) = image_is_none
path_is_none replaying = trace_is_none

-- no row of the path is one of further words
path_is_no_word : (k : Subcommand) → bytes_eq (path_id k) (codes "word") ≡ false
path_is_no_word (of_guest g) = refl
path_is_no_word replaying = refl

-- further words stand behind the path only of a command that runs a guest
abbrev pub MayFollow : Subcommand → List Text → Type 0
MayFollow k words = RunsGuest k ⊎ (words ≡ [])

some_follow : (k : Subcommand) (w : Text) (ws : List Text) → MayFollow k (w ∷ ws) → RunsGuest k
some_follow k w ws (inl guest) = guest
some_follow k w ws (inr none) = absurd (cc)

-- After all words, which pass, what is held settles with these rows.
pub record Ends (k : Subcommand) (w : Walk) (words : List Text) (all : List Row) : Type 0 where
  pub rows2 : List Row
  pub p2 : Pending
  pub waits : Waiting
  pub walk : fold (walked (rules k) []) w words ≡ stand rows2 p2 waits 2
  pub pass : walk_passes (shape k) [] w words ≡ true
  pub settles : Settles k rows2 p2 all

further_words : (k : Subcommand) → RunsGuest k → (ws : List Text) (rows : List Row) (before : List Text) → list_all is_plain_word ws ≡ true
    → (fold (walked (rules k) []) (stand rows (Some (codes "word", before)) positional 2) ws
    ≡ stand rows (Some (codes "word", before ++ ws)) positional 2)
    × (walk_passes (shape k) [] (stand rows (Some (codes "word", before)) positional 2) ws ≡ true)
unfolding walk_passes
further_words k guest [] rows before h =
    (ap (λ (vs : List Text). stand rows (Some (codes "word", vs)) positional 2) (sym (append-nil before)), refl)
further_words k guest (w ∷ ws) rows before h =
    let two = and_parts (is_plain_word w) (list_all is_plain_word ws) h in
    let plain = plain_is_no_flag w two.0 in
    let step = further_word k guest rows before w plain in
    let more = further_words k guest ws rows (before ++ w ∷ []) two.1 in
    let joined = append_assoc before (w ∷ []) ws in (
      ap (λ u. fold (walked (rules k) []) u ws) step
          ∙ (more.0 ∙ ap (λ (vs : List Text). stand rows (Some (codes "word", vs)) positional 2) joined),
      pass_step k _ _ w ws (further_turn k guest rows before w plain) step ∙ more.1,
    )

ends_words : (k : Subcommand) (ws : List Text) (rows : List Row) (image : Text) → MayFollow k ws → list_all is_plain_word ws ≡ true → length ws < 2 ^ 64
    → has_row (path_id k) rows ≡ false → has_row (codes "word") rows ≡ false
    → Ends k (stand rows (Some (path_id k, image ∷ [])) idle 2) ws (rows ++ tail_rows (path_id k) image ws)
unfolding walk_passes
ends_words k [] rows image may h few i w = record {
  rows2 = rows;
  p2 = Some (path_id k, image ∷ []);
  waits = idle;
  walk = refl;
  pass = refl;
  settles = path_settles k rows image i;
}
ends_words k (v ∷ vs) rows image may h few i w =
    let guest = some_follow k v vs may in
    let two = and_parts (is_plain_word v) (list_all is_plain_word vs) h in
    let plain = plain_is_no_flag v two.0 in
    let row = plain_row (path_id k) (image ∷ []) in
    let all = rows ++ row ∷ [] in
    let settled = path_settles k rows image i in
    let step : walked (rules k) [] (stand rows (Some (path_id k, image ∷ [])) idle 2) v
    ≡ stand all (Some (codes "word", v ∷ [])) positional 2 =
    first_word k guest rows image v plain ∙ ap (λ (xs : List Row). stand xs (Some (codes "word", v ∷ [])) positional 2) settled.rows_are in
    let more = further_words k guest vs all (v ∷ []) two.1 in
    record {
      rows2 = all;
      p2 = Some (codes "word", v ∷ vs);
      waits = positional;
      walk = ap (λ u. fold (walked (rules k) []) u vs) step ∙ more.0;
      pass = pass_step k _ _ v vs (first_turn k guest rows image v plain ∙ settled.passes) step ∙ more.1;
      settles = subst (Settles k all (Some (codes "word", v ∷ vs))) (append_assoc rows (row ∷ []) (word_rows (v ∷ vs)))
          (words_settle k guest all v vs (absent_in_both (codes "word") rows (row ∷ []) w (ap₂ ◌||◌ (path_is_no_word k) refl)) few);
    }

pub ends_command : (k : Subcommand) (choices : List Choice) (image : Text) (words : List Text) → MayFollow k words → ArePlain choices image words → list_all (has_option k) choices ≡ true
    → Ends k (stand [] None idle 1) (choice_words choices ++ image ∷ words) (made_rows (path_id k) choices image words)
ends_command k choices image words may plain has =
    let start : Settles k [] None [] = record { rows_are = refl; passes = refl } in
    let one = goes_choices k choices [] None [] start has plain.plain_values plain.once (fresh_at_first choices) in
    let image_plain = plain_is_no_flag image plain.plain_image in
    let step : walked (rules k) [] (stand one.rows2 one.p2 idle 1) image
    ≡ stand (choice_rows choices) (Some (path_id k, image ∷ [])) idle 2 =
    path_word k one.rows2 one.p2 image image_plain
    ∙ ap (λ (xs : List Row). stand xs (Some (path_id k, image ∷ [])) idle 2) one.settles.rows_are in
    let two = ends_words k words (choice_rows choices) image may plain.plain_words plain.few
    (no_choice_row (path_id k) choices (path_is_none k)) (no_choice_row (codes "word") choices word_is_none) in
    record {
      rows2 = two.rows2;
      p2 = two.p2;
      waits = two.waits;
      walk = fold-append (walked (rules k) []) (stand [] None idle 1) (choice_words choices) (image ∷ words)
          ∙ (ap (λ w. fold (walked (rules k) []) w (image ∷ words)) one.walk
          ∙ (ap (λ w. fold (walked (rules k) []) w words) step ∙ two.walk));
      pass = one.pass (image ∷ words)
          ∙ (pass_step k _ _ image words (path_turn k one.rows2 one.p2 image image_plain ∙ one.settles.passes) step ∙ two.pass);
      settles = two.settles;
    }

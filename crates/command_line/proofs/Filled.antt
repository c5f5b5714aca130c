-- Each use of an argument that takes one value leaves a value in its row, all through `clap`'s walk.
use Rattle.std.proofs.Common.{◌≡◌, ℕ, zero, suc, Bool, true, false, refl, ap, sym, ◌∙◌, ◌&&◌, ◌||◌, List, [], ◌∷◌, ◌++◌, Option, Some, None, is_some, cond, drop, length, nat_le, not, subst}
use Rattle.std.specs.Prelude.{encode_utf8, find, fold, slice_get}
use Rattle.std.specs.Option.{option_map_or}
use Rattle.std.specs.Str.{bytes_eq, chars}
use Rattle.std.proofs.lemmas.Slice.Eq.{bytes_eq-Decides}
use Rattle.clap.proofs.WalkLemmas.{both}
use Rattle.clap.specs.Lexer.{long_of, short_of}
use Rattle.clap.specs.Simple.{Shape}
use Rattle.clap.specs.Takes.{bundle_passes, bundle_step_passes, flag_word_passes, flags_pass, long_passes, option_passes, other_passes, positional_passes, react_passes, settle_passes, short_passes, step_passes, turn_passes, use_passes, walk_passes, word_passes}
use Rattle.clap.specs.Walk.{action_of, attached_value, bundle, has_long, has_short, idle, option, option_word, positional, reading_by, settled_rows, used_as, used_by_id, values_or_missing, Held, Names, Outcome, Step, Waiting, Walk, after_flag, after_step, arg_by_id, arg_by_index, arg_by_long, arg_by_short, at_row, bundle_met, bundle_step, done, flag_met, is_pending, long_met, long_or_other, more_values, next, option_met, plain, plain_word, reacted, refused, settled, short_met, short_or_plain, stronger, subcommand, subcommand_met, subcommand_or_other, takes_several, takes_values, to_positional, trailing, used, value, waits, walked, walked_from, with_values, without, word_met}
use Rattle.clap.specs.Words.{Row, Rule, Text}
use Rattle.clap.specs.Facts.{unwrap_or_range}
use Rattle.clap.specs.declared.builder.ArgAction.{ArgAction}
use Rattle.clap.specs.declared.builder.ArgAction.TheVariants.{Append, Set, SetTrue}
use Rattle.clap.specs.declared.builder.value_parser.Reading.{Reading}
use Rattle.clap.specs.declared.parser.matches.ValueSource.{ValueSource}
use Rattle.clap.specs.declared.parser.matches.ValueSource.TheVariants.{CommandLine}

-- the row of an argument
abbrev pub row_for : Text → List Row → Option Row
row_for id rows = find (λ r. bytes_eq r.id id) rows

-- its row, if it has one, has a value
abbrev pub is_filled : Text → List Row → Bool
is_filled id rows = option_map_or (λ (r : Row). is_some (slice_get r.values 0)) (row_for id rows) true

-- ---- rows

-- another argument's row changes
other_row : (id other : Text) (change : Row → List Row) (missing rows : List Row) → bytes_eq other id ≡ false → row_for id missing ≡ None
    → ((r : Row) (rs : List Row) → bytes_eq r.id id ≡ false → row_for id (change r ++ rs) ≡ row_for id rs)
    → row_for id (at_row other change missing rows) ≡ row_for id rows
other_row id other change missing [] apart none keeps = none
other_row id other change missing (r ∷ rs) apart none keeps = go (bytes_eq r.id other) refl (other_row id other change missing rs apart none keeps)
  where
    go : (b : Bool) → bytes_eq r.id other ≡ b → row_for id (at_row other change missing rs) ≡ row_for id rs
        → row_for id (at_row other change missing (r ∷ rs)) ≡ row_for id (r ∷ rs)
    go true e rec =
        let same : r.id ≡ other = (bytes_eq-Decides r.id other).0 e in
        let not_it : bytes_eq r.id id ≡ false = ap (λ (t : Text). bytes_eq t id) same ∙ apart in
        ap (λ b. row_for id (cond b (change r ++ rs) (r ∷ at_row other change missing rs))) e
        ∙ (keeps r rs not_it ∙ sym (ap (λ b. cond b (Some r) (row_for id rs)) not_it))
    go false e rec =
        ap (λ b. row_for id (cond b (change r ++ rs) (r ∷ at_row other change missing rs))) e
        ∙ ap (λ (o : Option Row). cond (bytes_eq r.id id) (Some r) o) rec

-- a row that is made of values, and one that gets more
abbrev values_row : Text → Reading → ValueSource → List Text → Row
values_row id how source values = record {
  id = id;
  values = values;
  count = None;
  source = Some source;
  reading = how;
}

abbrev longer_row : ValueSource → List Text → Row → Row
longer_row source values r = record r { values = r.values ++ values; source = Some (stronger r.source source) }

other_values : (id other : Text) (how : Reading) (source : ValueSource) (values : List Text) (rows : List Row) → bytes_eq other id ≡ false
    → row_for id (with_values other how source values rows) ≡ row_for id rows
other_values id other how source values rows apart =
    other_row id other (more_values source values) (values_row other how source values ∷ []) rows apart
    (ap (λ b. cond b (Some (values_row other how source values)) None) apart)
    (λ r rs not_it. ap (λ b. cond b (Some (longer_row source values r)) (row_for id rs)) not_it)

other_without : (id other : Text) (rows : List Row) → bytes_eq other id ≡ false → row_for id (without other rows) ≡ row_for id rows
other_without id other rows apart = other_row id other (λ _. []) [] rows apart refl (λ r rs not_it. refl)

some_first : (xs ys : List Text) → is_some (slice_get ys 0) ≡ true → is_some (slice_get (xs ++ ys) 0) ≡ true
some_first [] ys h = h
some_first (x ∷ xs) ys h = refl

-- its own row gets a value
own_values : (id : Text) (how : Reading) (source : ValueSource) (values : List Text) (rows : List Row) → bytes_eq id id ≡ true
    → is_some (slice_get values 0) ≡ true → is_filled id (with_values id how source values rows) ≡ true
own_values id how source values [] same some =
    ap (λ b. option_map_or (λ (r : Row). is_some (slice_get r.values 0)) (cond b (Some (values_row id how source values)) None) true) same ∙ some
own_values id how source values (r ∷ rs) same some = go (bytes_eq r.id id) refl (own_values id how source values rs same some)
  where
    go : (b : Bool) → bytes_eq r.id id ≡ b → is_filled id (with_values id how source values rs) ≡ true
        → is_filled id (with_values id how source values (r ∷ rs)) ≡ true
    go true e rec =
        ap (λ b. is_filled id (cond b (longer_row source values r ∷ rs) (r ∷ with_values id how source values rs))) e
        ∙ (ap (λ b. option_map_or (λ (x : Row). is_some (slice_get x.values 0)) (cond b (Some (longer_row source values r)) (row_for id rs)) true) e
        ∙ some_first r.values values some)
    go false e rec =
        let rest = with_values id how source values rs in
        ap (λ b. is_filled id (cond b (longer_row source values r ∷ rs) (r ∷ rest))) e
        ∙ (ap (λ b. option_map_or (λ (x : Row). is_some (slice_get x.values 0)) (cond b (Some r) (row_for id rest)) true) e ∙ rec)

-- ---- one use

-- The argument's uses leave the row of `id` filled.
abbrev pub Keeps : Text → Rule → Type 0
Keeps id a = (again : Bool) (values : List Text) (rows : List Row) → use_passes again a values rows ≡ true → is_filled id rows ≡ true
    → is_filled id (used a values rows) ≡ true

abbrev pub AllKeep : Text → List Rule → Type 0
AllKeep id [] = Unit {0}
AllKeep id (a ∷ rest) = Keeps id a × AllKeep id rest

pub filled_same : (id : Text) (xs ys : List Row) → row_for id xs ≡ row_for id ys → is_filled id ys ≡ true → is_filled id xs ≡ true
filled_same id xs ys same h = ap (λ (o : Option Row). option_map_or (λ (r : Row). is_some (slice_get r.values 0)) o true) same ∙ h

-- another argument that is set, to a value or to `true`, or that gets more values
other_set : (id : Text) (a : Rule) (vs : List Text) (rows : List Row) → bytes_eq a.id id ≡ false → is_filled id rows ≡ true
    → is_filled id (with_values a.id (reading_by a) CommandLine vs (without a.id rows)) ≡ true
other_set id a vs rows apart h =
    filled_same id _ rows (other_values id a.id (reading_by a) CommandLine vs (without a.id rows) apart ∙ other_without id a.id rows apart) h

set_keeps : (id : Text) (a : Rule) → bytes_eq a.id id ≡ false → action_of a ≡ Set → Keeps id a
set_keeps id a apart action again values rows passes h =
    let vs = values_or_missing a values in
    ap (λ (x : ArgAction). is_filled id (used_as x a.id (reading_by a) vs rows)) action ∙ other_set id a vs rows apart h

set_true_keeps : (id : Text) (a : Rule) → bytes_eq a.id id ≡ false → action_of a ≡ SetTrue → Keeps id a
set_true_keeps id a apart action again values rows passes h =
    let vs = values_or_missing a values in
    ap (λ (x : ArgAction). is_filled id (used_as x a.id (reading_by a) vs rows)) action ∙ other_set id a vs rows apart h

append_keeps : (id : Text) (a : Rule) → bytes_eq a.id id ≡ false → action_of a ≡ Append → Keeps id a
append_keeps id a apart action again values rows passes h =
    let vs = values_or_missing a values in
    ap (λ (x : ArgAction). is_filled id (used_as x a.id (reading_by a) vs rows)) action
    ∙ filled_same id _ rows (other_values id a.id (reading_by a) CommandLine vs rows apart) h

some_values : (a : Rule) (values : List Text) → nat_le 1 (length values) ≡ true → is_some (slice_get (values_or_missing a values) 0) ≡ true
some_values a [] h = let no : false ≡ true = h in cc
some_values a (v ∷ vs) h = refl

-- the argument itself, that takes a value at least
own_keeps : (a : Rule) → bytes_eq a.id a.id ≡ true → action_of a ≡ Set → (unwrap_or_range a.range).start_inclusive ≡ 1 → Keeps a.id a
own_keeps a same action one again values rows passes h =
    let vs = values_or_missing a values in
    let enough : nat_le 1 (length values) ≡ true =
    sym (ap (λ n. nat_le n (length values)) one) ∙ (both (nat_le (unwrap_or_range a.range).start_inclusive (length values)) _ passes).0 in
    ap (λ (x : ArgAction). is_filled a.id (used_as x a.id (reading_by a) vs rows)) action
    ∙ own_values a.id (reading_by a) CommandLine vs (without a.id rows) same (some_values a values enough)

-- why an argument's uses leave the row of `id` filled
pub data IsKept (id : Text) (a : Rule) : Type 0 where
  is_set : bytes_eq a.id id ≡ false → action_of a ≡ Set → IsKept id a
  is_flag : bytes_eq a.id id ≡ false → action_of a ≡ SetTrue → IsKept id a
  is_appended : bytes_eq a.id id ≡ false → action_of a ≡ Append → IsKept id a
  is_own : a.id ≡ id → action_of a ≡ Set → (unwrap_or_range a.range).start_inclusive ≡ 1 → IsKept id a

pub kept_keeps : (id : Text) (a : Rule) → bytes_eq id id ≡ true → IsKept id a → Keeps id a
kept_keeps id a same (is_set apart action) = set_keeps id a apart action
kept_keeps id a same (is_flag apart action) = set_true_keeps id a apart action
kept_keeps id a same (is_appended apart action) = append_keeps id a apart action
kept_keeps id a same (is_own own action one) =
    let same2 : bytes_eq a.id a.id ≡ true = rw own same in
    subst (λ (t : Text). Keeps t a) own (own_keeps a same2 action one)

-- ---- the walk

abbrev KeepsFound : Text → Option Rule → Type 0
KeepsFound id None = Unit {0}
KeepsFound id (Some a) = Keeps id a

found_keeps : (id : Text) (test : Rule → Bool) (c : List Rule) → AllKeep id c → KeepsFound id (find test c)
found_keeps id test [] k = tt
found_keeps id test (a ∷ rest) k = go (test a) k.0 (found_keeps id test rest k.1)
  where
    go : (b : Bool) → Keeps id a → KeepsFound id (find test rest) → KeepsFound id (cond b (Some a) (find test rest))
    go true one more = one
    go false one more = more

used_keeps : (id : Text) (again : Bool) (o : Option Rule) (values : List Text) (rows : List Row) → KeepsFound id o
    → option_map_or (λ a. use_passes again a values rows) o true ≡ true → is_filled id rows ≡ true → is_filled id (used_by_id o values rows) ≡ true
used_keeps id again None values rows k passes h = h
used_keeps id again (Some a) values rows k passes h = k again values rows passes h

module _ (id : Text) (c : List Rule) (again : Bool) (all : AllKeep id c) where
  settled_keeps : (p : Option (Text × List Text)) (rows : List Row)
      → option_map_or (λ p. option_map_or (λ a. use_passes again a p.1 rows) (arg_by_id c p.0) true) p true ≡ true
      → is_filled id rows ≡ true → is_filled id (settled_rows c p rows) ≡ true
  settled_keeps None rows passes h = h
  settled_keeps (Some p) rows passes h = used_keeps id again (arg_by_id c p.0) p.1 rows (found_keeps id (λ a. bytes_eq a.id p.0) c all) passes h

  pub settle_keeps : (h : Held) → settle_passes c again h ≡ true → is_filled id h.rows ≡ true → is_filled id (settled c h).rows ≡ true
  settle_keeps h passes f = settled_keeps h.pending h.rows passes f

  react_keeps : (a : Rule) (values : List Text) (h : Held) → Keeps id a → react_passes c again a values h ≡ true → is_filled id h.rows ≡ true
      → is_filled id (reacted c a values h).rows ≡ true
  react_keeps a values h k passes f =
      let two = both (settle_passes c again h) (use_passes again a values (settled c h).rows) passes in
      k again values (settled c h).rows two.1 (settle_keeps h two.0 f)

  option_keeps : (a : Rule) (v : Option Text) (h : Held) → Keeps id a → option_passes c again a v h ≡ true → is_filled id h.rows ≡ true
      → is_filled id (option_met c a v h).0.rows ≡ true
  option_keeps a (Some v) h k passes f = react_keeps a (v ∷ []) h k passes f
  option_keeps a None h k passes f = settle_keeps h passes f

  flag_keeps : (a : Rule) (v : Option Text) (h : Held) → Keeps id a → (not (is_some v) && react_passes c again a [] h) ≡ true
      → is_filled id h.rows ≡ true → is_filled id (flag_met c a v h).0.rows ≡ true
  flag_keeps a (Some v) h k passes f = f
  flag_keeps a None h k passes f = react_keeps a [] h k passes f

  long_keeps : (o : Option Rule) (v : Option Text) (h : Held) → KeepsFound id o → long_passes c again o v h ≡ true → is_filled id h.rows ≡ true
      → is_filled id (long_met c o v h).0.rows ≡ true
  long_keeps None v h k passes f = f
  long_keeps (Some a) v h k passes f = go (takes_values a) passes
    where
      go : (b : Bool) → cond b (option_passes c again a v h) (not (is_some v) && react_passes c again a [] h) ≡ true
          → is_filled id (cond b (option_met c a v h) (flag_met c a v h)).0.rows ≡ true
      go true p = option_keeps a v h k p f
      go false p = flag_keeps a v h k p f

  short_keeps : (o : Option Rule) (rest : Text) (h : Held) (pass : Held → Bool) (met : Held → Held × Outcome) → KeepsFound id o
      → ((g : Held) → pass g ≡ true → is_filled id g.rows ≡ true → is_filled id (met g).0.rows ≡ true)
      → short_passes c again o rest h pass ≡ true → is_filled id h.rows ≡ true → is_filled id (short_met c o rest h met).0.rows ≡ true
  short_keeps None rest h pass met k step passes f = f
  short_keeps (Some a) rest h pass met k step passes f = go (takes_values a) passes
    where
      go : (b : Bool) → cond b (option_passes c again a (attached_value rest) h) (react_passes c again a [] h && pass (reacted c a [] h)) ≡ true
          → is_filled id (cond b (option_met c a (attached_value rest) h) (met (reacted c a [] h))).0.rows ≡ true
      go true p = option_keeps a (attached_value rest) h k p f
      go false p =
          let two = both (react_passes c again a [] h) (pass (reacted c a [] h)) p in
          step (reacted c a [] h) two.1 (react_keeps a [] h k two.0 f)

  bundle_step_keeps : (o : Option ℕ) (flags : Text) (skip : ℕ) (so_far : Outcome) (h : Held) (pass : Text → ℕ → Held → Bool)
      (met : Text → ℕ → Outcome → Held → Held × Outcome)
      → ((fs : Text) (n : ℕ) (x : Outcome) (g : Held) → pass fs n g ≡ true → is_filled id g.rows ≡ true → is_filled id (met fs n x g).0.rows ≡ true)
      → bundle_step_passes c again o flags skip h pass ≡ true → is_filled id h.rows ≡ true
      → is_filled id (bundle_step c o flags skip so_far h met).0.rows ≡ true
  bundle_step_keeps None flags skip so_far h pass met step passes f = f
  bundle_step_keeps (Some x) flags zero so_far h pass met step passes f =
      let rest = drop (length (encode_utf8 x)) flags in
      short_keeps (arg_by_short c x) rest h (pass rest 0) (met rest 0 done) (found_keeps id (λ a. not (is_some a.index) && has_short a x) c all)
      (step rest 0 done) passes f
  bundle_step_keeps (Some x) flags (suc skip) so_far h pass met step passes f = step (drop (length (encode_utf8 x)) flags) skip so_far h passes f

  bundle_keeps : (k : ℕ) (flags : Text) (skip : ℕ) (so_far : Outcome) (h : Held) → flags_pass c again k flags skip h ≡ true
      → is_filled id h.rows ≡ true → is_filled id (bundle_met c k flags skip so_far h).0.rows ≡ true
  unfolding flags_pass bundle_met
  bundle_keeps zero flags skip so_far h passes f = f
  bundle_keeps (suc k) flags skip so_far h passes f =
      bundle_step_keeps (slice_get (chars flags) 0) flags skip so_far h (flags_pass c again k) (bundle_met c k) (bundle_keeps k) passes f

  option_word_rows : (o : Option Rule) (name word : Text) (h : Held) → (option_word o name word h).0.rows ≡ h.rows
  option_word_rows None name word h = refl
  option_word_rows (Some a) name word h = refl

  plain_word_rows : (waiting : Waiting) (word : Text) (h : Held) → (plain_word c waiting word h).0.rows ≡ h.rows
  plain_word_rows idle word h = refl
  plain_word_rows positional word h = refl
  plain_word_rows (option name) word h = option_word_rows (arg_by_id c name) name word h

  after_flag_rows : (waiting : Waiting) (word : Text) (h : Held) (x : Outcome) → (after_flag c waiting word h x).0.rows ≡ h.rows
  after_flag_rows waiting word h done = refl
  after_flag_rows waiting word h (waits name) = refl
  after_flag_rows waiting word h plain = plain_word_rows waiting word h
  after_flag_rows waiting word h refused = plain_word_rows waiting word h

  filled_rows : (xs ys : List Row) → xs ≡ ys → is_filled id ys ≡ true → is_filled id xs ≡ true
  filled_rows xs ys same f = ap (is_filled id) same ∙ f

  short_word_keeps : (waiting : Waiting) (word : Text) (flags : Option Text) (h : Held)
      → option_map_or (λ flags. bundle_passes c again flags h) flags true ≡ true → is_filled id h.rows ≡ true
      → is_filled id (short_or_plain c waiting word flags h).0.rows ≡ true
  short_word_keeps waiting word None h passes f = filled_rows _ h.rows (plain_word_rows waiting word h) f
  short_word_keeps waiting word (Some flags) h passes f =
      let met = bundle c flags h in
      filled_rows _ met.0.rows (after_flag_rows waiting word met.0 met.1) (bundle_keeps (length flags) flags h.skip plain (record h { skip = 0 }) passes f)

  flag_word_keeps : (waiting : Waiting) (word : Text) (name : Option (Text × Option Text)) (h : Held) → flag_word_passes c again name word h ≡ true
      → is_filled id h.rows ≡ true → is_filled id (long_or_other c waiting word name h).0.rows ≡ true
  flag_word_keeps waiting word None h passes f = short_word_keeps waiting word (short_of word) h passes f
  flag_word_keeps waiting word (Some p) h passes f =
      let met = long_met c (arg_by_long c p.0) p.1 h in
      filled_rows _ met.0.rows (after_flag_rows waiting word met.0 met.1)
      (long_keeps (arg_by_long c p.0) p.1 h (found_keeps id (λ a. not (is_some a.index) && has_long a p.0) c all) passes f)

  positional_keeps : (o : Option Rule) (word : Text) (w : Walk) (h : Held) → option_map_or (λ a. positional_passes c again a h) o false ≡ true
      → is_filled id h.rows ≡ true → is_filled id (to_positional c o word w h).held.rows ≡ true
  positional_keeps None word w h passes f = f
  positional_keeps (Some a) word w h passes f = go (is_pending a h.pending && takes_several a) passes
    where
      go : (b : Bool) → (b || settle_passes c again h) ≡ true → is_filled id (cond b h (settled c h)).rows ≡ true
      go true p = f
      go false p = settle_keeps h p f

-- a step of the walk of a command
module _ (id : Text) (s : Shape) (all : AllKeep id s.rules) where
  step_keeps : (step : Step) (word : Text) (w : Walk) (h : Held) → step_passes s w.position h step ≡ true → is_filled id h.rows ≡ true
      → is_filled id (after_step s.rules word w h step).held.rows ≡ true
  step_keeps (next waiting) word w h passes f = f
  step_keeps (trailing position) word w h passes f = f
  step_keeps (subcommand name) word w h passes f = f
  step_keeps value word w h passes f = positional_keeps id s.rules s.args_override_self all (arg_by_index s.rules w.position) word w h passes f

  other_keeps : (sub : Option Text) (waiting : Waiting) (position : ℕ) (word : Text) (h : Held) → other_passes s sub word h ≡ true
      → is_filled id h.rows ≡ true → is_filled id (subcommand_or_other s.rules sub waiting position word h).0.rows ≡ true
  other_keeps (Some name) waiting position word h passes f = f
  other_keeps None waiting position word h passes f = go (bytes_eq word (45 ∷ 45 ∷ [])) passes
    where
      go : (b : Bool) → (b || flag_word_passes s.rules s.args_override_self (long_of word) word h) ≡ true
          → is_filled id (cond b (h, trailing position) (long_or_other s.rules waiting word (long_of word) h)).0.rows ≡ true
      go true p = f
      go false p = flag_word_keeps id s.rules s.args_override_self all waiting word (long_of word) h p f

  word_keeps : (names : Names) (is_trailing : Bool) (waiting : Waiting) (position : ℕ) (word : Text) (h : Held)
      → word_passes s names is_trailing waiting word h ≡ true → is_filled id h.rows ≡ true
      → is_filled id (word_met s.rules names is_trailing waiting position word h).0.rows ≡ true
  word_keeps names true waiting position word h passes f = f
  word_keeps names false waiting position word h passes f = other_keeps (subcommand_met names waiting word) waiting position word h passes f

  turn_keeps : (names : Names) (stop : Option (Text × List Text)) (w : Walk) (word : Text)
      → (is_some stop || (word_passes s names w.is_trailing w.waiting word w.held
      && step_passes s w.position (word_met s.rules names w.is_trailing w.waiting w.position word w.held).0
      (word_met s.rules names w.is_trailing w.waiting w.position word w.held).1)) ≡ true
      → is_filled id w.held.rows ≡ true → is_filled id (walked_from s.rules names stop w word).held.rows ≡ true
  turn_keeps names (Some p) w word passes f = f
  turn_keeps names None w word passes f =
      let met = word_met s.rules names w.is_trailing w.waiting w.position word w.held in
      let two = both (word_passes s names w.is_trailing w.waiting word w.held) (step_passes s w.position met.0 met.1) passes in
      step_keeps met.1 word w met.0 two.1 (word_keeps names w.is_trailing w.waiting w.position word w.held two.0 f)

  pub walk_keeps : (names : Names) (words : List Text) (w : Walk) → walk_passes s names w words ≡ true → is_filled id w.held.rows ≡ true
      → is_filled id (fold (walked s.rules names) w words).held.rows ≡ true
  unfolding walk_passes walked
  walk_keeps names [] w passes f = f
  walk_keeps names (word ∷ rest) w passes f =
      let after = walked s.rules names w word in
      let two = both (turn_passes s names w word) (walk_passes s names after rest) passes in
      walk_keeps names rest after two.1 (turn_keeps names w.stopped w word two.0 f)

-- Rows of `clap`'s matches, as plain words make them.
use Rattle.std.proofs.Common.{◌≡◌, Bool, true, false, refl, ap, ap₂, sym, ◌∙◌, ◌||◌, List, [], ◌∷◌, ◌++◌, Some, None, codes, cond, unwrap_or}
use Rattle.std.proofs.lemmas.List.{append-nil}
use Rattle.std.proofs.lemmas.List.Folds.{list_any-append}
use Rattle.std.specs.Str.{bytes_eq}
use Rattle.clap.specs.Walk.{at_row, has_row, more_values, reading_by, with_values, without}
use Rattle.clap.specs.Words.{Row, Text}
use Rattle.clap.specs.declared.parser.matches.ValueSource.TheVariants.{CommandLine, DefaultValue}
use Rattle.command_line.specs.App.{word_rule}
use Rattle.command_line.specs.Plain.{Choice, id_of, is_chosen, stdin, value_of}

-- the row of an argument that the words give these values
abbrev pub plain_row : Text → List Text → Row
plain_row id values = record {
  id = id;
  values = values;
  count = None;
  source = Some CommandLine;
  reading = reading_by word_rule;
}

-- the value in its row: that of a flag is `true`
abbrev pub row_value : Choice → Text
row_value c = unwrap_or (value_of c) (codes "true")

abbrev pub choice_row : Choice → Row
choice_row c = plain_row (id_of c) (row_value c ∷ [])

abbrev pub choice_rows : List Choice → List Row
choice_rows [] = []
choice_rows (c ∷ cs) = choice_row c ∷ choice_rows cs

-- no row where there are no further words
abbrev pub word_rows : List Text → List Row
word_rows [] = []
word_rows (w ∷ ws) = plain_row (codes "word") (w ∷ ws) ∷ []

-- the rows of the path behind the options, by its argument, and the further words
abbrev pub tail_rows : Text → Text → List Text → List Row
tail_rows id path words = plain_row id (path ∷ []) ∷ word_rows words

-- the row that is added where `--stats` is not given
abbrev pub unset_row : Row
unset_row = record (plain_row (codes "stats") (codes "false" ∷ [])) { source = Some DefaultValue }

abbrev pub unset_rows : Bool → List Row
unset_rows given = cond given [] (unset_row ∷ [])

-- the rows that plain words make, and all rows
abbrev pub made_rows : Text → List Choice → Text → List Text → List Row
made_rows id choices path words = choice_rows choices ++ tail_rows id path words

abbrev pub plain_rows : Text → List Choice → Text → List Text → List Row
plain_rows id choices path words = choice_rows choices ++ (tail_rows id path words ++ unset_rows (is_chosen (codes "stats") choices))

absent_at_end : (id : Text) (change : Row → List Row) (missing rows : List Row) → has_row id rows ≡ false
    → at_row id change missing rows ≡ rows ++ missing
absent_at_end id change missing [] h = refl
absent_at_end id change missing (r ∷ rs) h = go (bytes_eq r.id id) refl h (absent_at_end id change missing rs)
  where
    go : (b : Bool) → bytes_eq r.id id ≡ b → (bytes_eq r.id id || has_row id rs) ≡ false
        → (has_row id rs ≡ false → at_row id change missing rs ≡ rs ++ missing)
        → at_row id change missing (r ∷ rs) ≡ r ∷ (rs ++ missing)
    go true e h2 rec = let bad : true ≡ false = rw e at h2 in cc
    go false e h2 rec = rw e (ap (λ (t : List Row). r ∷ t) (rec (rw e at h2)))

-- a new row stands at the end
pub new_row_kept : (id : Text) (values : List Text) (rows : List Row) → has_row id rows ≡ false
    → with_values id (reading_by word_rule) CommandLine values rows ≡ rows ++ plain_row id values ∷ []
new_row_kept id values rows h = absent_at_end id (more_values CommandLine values) (plain_row id values ∷ []) rows h

pub new_row : (id : Text) (values : List Text) (rows : List Row) → has_row id rows ≡ false
    → with_values id (reading_by word_rule) CommandLine values (without id rows) ≡ rows ++ plain_row id values ∷ []
new_row id values rows h =
    let gone : without id rows ≡ rows = absent_at_end id (λ _. []) [] rows h ∙ append-nil rows in
    rw gone (new_row_kept id values rows h)

-- a default stands at the end, where there is no row
pub if_unset : (b : Bool) (rows : List Row) → has_row (codes "stats") rows ≡ b
    → cond b rows (with_values (codes "stats") (reading_by word_rule) DefaultValue (codes "false" ∷ []) rows) ≡ rows ++ unset_rows b
if_unset true rows e = sym (append-nil rows)
if_unset false rows e = absent_at_end (codes "stats") (more_values DefaultValue (codes "false" ∷ [])) (unset_row ∷ []) rows e

pub absent_in_both : (id : Text) (xs ys : List Row) → has_row id xs ≡ false → has_row id ys ≡ false
    → has_row id (xs ++ ys) ≡ false
absent_in_both id xs ys h k = list_any-append (λ r. bytes_eq r.id id) xs ys ∙ ap₂ ◌||◌ h k

-- no choice is of this argument
abbrev pub IsNoChoice : Text → Type 0
IsNoChoice id = (c : Choice) → bytes_eq (id_of c) id ≡ false

pub image_is_none : IsNoChoice (codes "image")
image_is_none (stdin v) = refl
image_is_none _ = refl

pub trace_is_none : IsNoChoice (codes "trace")
trace_is_none (stdin v) = refl
trace_is_none _ = refl

pub word_is_none : IsNoChoice (codes "word")
word_is_none (stdin v) = refl
word_is_none _ = refl

pub no_choice_row : (id : Text) (cs : List Choice) → IsNoChoice id → has_row id (choice_rows cs) ≡ false
no_choice_row id [] h = refl
no_choice_row id (c ∷ cs) h = ap₂ ◌||◌ (h c) (no_choice_row id cs h)

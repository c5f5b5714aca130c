-- `demo` and a plain word are taken, and its row is this.
use Rattle.std.proofs.Common.{◌≡◌, Bool, true, false, refl, ap, ap₂, ◌∙◌, ◌&&◌, List, [], ◌∷◌, Option, Some, codes}
use Rattle.std.specs.Prelude.{fold, is_some, option_map}
use Rattle.std.specs.List.{list_all}
use Rattle.clap.specs.Simple.{entered}
use Rattle.clap.specs.Takes.{built_takes, default_passes, entered_passes, is_valid, level_passes, settle_passes, turn_passes, walk_passes}
use Rattle.clap.specs.Walk.{Held, Walk, finished, nothing_held, rows_after, walk_from, walked}
use Rattle.clap.specs.Words.{Row, Rule, Text, built, subcommand_of}
use Rattle.clap.proofs.OnLiterals.{clap_on_literals}
use Rattle.command_line.specs.App.{the_app, top_app, guest_app, demo_app, replay_app}
use Rattle.command_line.specs.Options.{Demo}
use Rattle.command_line.specs.Plain.{PlainDemoIsRead, PlainDemoIsTaken, demo_words}
use Rattle.command_line.proofs.Fixed.{the_app_is_simple}
use Rattle.command_line.proofs.PlainWords.{after_program, top_ends}
use Rattle.command_line.proofs.Refusals.{asked_is, read_of}
use Rattle.command_line.proofs.Rows.{plain_row}
use Rattle.command_line.proofs.Steps.{IsNoFlag, demo_shape, names, plain_is_no_flag, top_rules}

abbrev demo_rules : List Rule
demo_rules = demo_shape.rules

-- the words of `demo`, and its row
abbrev after_name : Text → List Text
after_name number = codes "demo" ∷ number ∷ []

abbrev demo_row : Text → List Row
demo_row number = plain_row (codes "number") (number ∷ []) ∷ []

-- the walk stopped at `demo`, with the number after it
abbrev at_demo : Text → Walk
at_demo number = record (walk_from nothing_held) { stopped = Some (codes "demo", number ∷ []) }

top_walk : (number : Text) → fold (walked top_rules names) (walk_from nothing_held) (after_name number) ≡ at_demo number
unfolding the_app top_app guest_app demo_app replay_app clap_on_literals
top_walk number = refl

top_passes : (number : Text) → walk_passes (built the_app).top names (walk_from nothing_held) (after_name number) ≡ true
unfolding the_app top_app guest_app demo_app replay_app clap_on_literals
top_passes number = refl

top_valid : (number : Text) → top_ends (at_demo number) true ≡ true
unfolding the_app top_app guest_app demo_app replay_app clap_on_literals
top_valid number = refl

enters_demo : (number : Text)
    → entered (built the_app) (Some (codes "demo", number ∷ [])) ≡ Some (codes "demo", rows_after demo_rules [] (number ∷ []))
unfolding the_app top_app guest_app demo_app replay_app clap_on_literals
enters_demo number = refl

-- what is held after the number
abbrev demo_held : Text → Held
demo_held number = record nothing_held { pending = Some (codes "number", number ∷ []) }

number_word : (number : Text) → IsNoFlag number
    → walked demo_rules [] (walk_from nothing_held) number ≡ record (walk_from nothing_held) { held = demo_held number; position = 2 }
unfolding the_app top_app guest_app demo_app replay_app clap_on_literals
number_word number h = rw (h.no_dashes, h.no_long, h.no_short) refl

number_turn : (number : Text) → IsNoFlag number → turn_passes demo_shape [] (walk_from nothing_held) number ≡ true
unfolding the_app top_app guest_app demo_app replay_app clap_on_literals
number_turn number h = rw (h.no_dashes, h.no_long, h.no_short) refl

demo_rows : (number : Text) → finished demo_rules (demo_held number) ≡ demo_row number
unfolding the_app top_app guest_app demo_app replay_app clap_on_literals
demo_rows number = refl

-- what holds after the walk of `demo`, by what is held
abbrev demo_ends : Held → Bool
demo_ends held = settle_passes demo_rules demo_shape.args_override_self held
    && (list_all default_passes demo_rules && is_valid demo_shape (finished demo_rules held) false)

demo_valid : (number : Text) → demo_ends (demo_held number) ≡ true
unfolding the_app top_app guest_app demo_app replay_app clap_on_literals
demo_valid number = refl

demo_passes : (number : Text) → IsNoFlag number → level_passes demo_shape [] nothing_held (number ∷ []) false ≡ true
unfolding walk_passes
demo_passes number h =
    ap₂ ◌&&◌ (ap (λ b. b && true) (number_turn number h)) (ap (λ (w : Walk). demo_ends w.held) (number_word number h) ∙ demo_valid number)

enters_passes : (number : Text) → level_passes demo_shape [] nothing_held (number ∷ []) false ≡ true
    → entered_passes (built the_app) (Some (codes "demo", number ∷ [])) ≡ true
unfolding the_app top_app guest_app demo_app replay_app clap_on_literals
enters_passes number h = h

built_takes_demo : (number : Text) → IsNoFlag number → built_takes (built the_app) nothing_held (after_name number) ≡ true
built_takes_demo number h =
    let walk = top_walk number in
    ap₂ ◌&&◌ (ap (λ (w : Walk). entered_passes (built the_app) w.stopped) walk ∙ enters_passes number (demo_passes number h))
    (ap₂ ◌&&◌ (top_passes number)
    (ap (λ (w : Walk). top_ends w (is_some (entered (built the_app) w.stopped))) walk
    ∙ (ap (λ (o : Option (Text × List Row)). top_ends (at_demo number) (is_some o)) (enters_demo number) ∙ top_valid number)))

pub plain_demo : PlainDemoIsTaken
plain_demo program number plain =
    ap₂ ◌&&◌ the_app_is_simple
    (ap (built_takes (built the_app) nothing_held) (after_program program (after_name number))
    ∙ built_takes_demo number (plain_is_no_flag number plain))

pub demo_subcommand : (program number : Text) → IsNoFlag number
    → subcommand_of the_app (demo_words program number) ≡ Some (codes "demo", demo_row number)
demo_subcommand program number h =
    let rows = ap (λ (w : Walk). finished demo_rules w.held) (number_word number h) ∙ demo_rows number in
    ap (λ ws. entered (built the_app) (fold (walked top_rules names) (walk_from nothing_held) ws).stopped) (after_program program (after_name number))
    ∙ (ap (λ (w : Walk). entered (built the_app) w.stopped) (top_walk number)
    ∙ (enters_demo number ∙ ap (λ (rows : List Row). Some (codes "demo", rows)) rows))

pub plain_number : PlainDemoIsRead
plain_number program text number plain zeros in_range =
    asked_is (demo_words program text) zeros
    ∙ (ap read_of (demo_subcommand program text (plain_is_no_flag text plain)) ∙ ap (option_map Demo) in_range)

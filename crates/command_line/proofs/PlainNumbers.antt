-- Plain words with a number out of its form or range.
use Rattle.std.proofs.Common.{◌≡◌, ◌⊎◌, ℕ, Bool, true, false, refl, ap, ◌∙◌, inl, inr, List, [], Option, Some, None, codes, cond}
use Rattle.std.specs.Prelude.{option_map}
use Rattle.std.specs.List.{list_all, list_any}
use Rattle.clap.specs.Words.{Row, Text, first_of, subcommand_of}
use Rattle.command_line.specs.App.{the_app}
use Rattle.command_line.specs.Options.{Demo, GuestOptions, Replay, analysis_of_rows, asked_of, asked_of_rows, bits_of, budget_of, guest_asked_of_rows, guest_asked_with, guest_of_rows, guest_with, has_zero, quantum_of, replay_of_rows, replay_with}
use Rattle.command_line.specs.Plain.{ArePlain, Choice, GiveBadNumber, GiveBadSteps, GuestCommand, PlainNumbersAreRefused, demo_words}
use Rattle.command_line.specs.Plain as plain
use Rattle.command_line.specs.Taken.{HasBadSteps, HasBadWidth}
use Rattle.command_line.proofs.Choices.{MayFollow}
use Rattle.command_line.proofs.PlainDemo.{demo_subcommand}
use Rattle.command_line.proofs.PlainOptions.{analysis_read, asked_by_name, option_read}
use Rattle.command_line.proofs.PlainWords.{all_rows, command_words, plain_subcommand}
use Rattle.command_line.proofs.Refusals.{read_of}
use Rattle.command_line.proofs.Steps.{Subcommand, has_option, name_of, of_guest, plain_is_no_flag, replaying}

-- ---- words whose rows say nothing
asks_nothing : (words : List Text) → read_of (subcommand_of the_app words) ≡ None → asked_of words ≡ None
unfolding asked_of
asks_nothing words none = by (list_any has_zero words)
  where
    by : (b : Bool) → cond b None (read_of (subcommand_of the_app words)) ≡ None
    by true = refl
    by false = none

command_asks_nothing : (k : Subcommand) (program : Text) (choices : List Choice) (path : Text) (words : List Text) → MayFollow k words → ArePlain choices path words
    → list_all (has_option k) choices ≡ true → asked_of_rows (name_of k) (all_rows k choices path words) ≡ None → asked_of (command_words k program choices path words) ≡ None
command_asks_nothing k program choices path words may plain has none =
    asks_nothing (command_words k program choices path words) (ap read_of (plain_subcommand k program choices path words may plain has) ∙ none)

-- ---- rows with a bad number
guest_without_budget : (rows : List Row) (quantum : Option ℕ) (image : Option Text) → guest_with rows quantum None image ≡ None
guest_without_budget rows None image = refl
guest_without_budget rows (Some q) image = refl

no_guest : (rows : List Row) → HasBadSteps rows → guest_of_rows rows ≡ None
no_guest rows (inl q) = ap (λ x. guest_with rows x (budget_of (first_of (codes "budget") rows)) (first_of (codes "image") rows)) q
no_guest rows (inr b) =
    ap (λ x. guest_with rows (quantum_of (first_of (codes "quantum") rows)) x (first_of (codes "image") rows)) b
    ∙ guest_without_budget rows (quantum_of (first_of (codes "quantum") rows)) (first_of (codes "image") rows)

nothing_asked : (guest : Option GuestOptions) (output : Option Text) → guest_asked_with guest output None ≡ None
nothing_asked None output = refl
nothing_asked (Some g) None = refl
nothing_asked (Some g) (Some o) = refl

replay_without_width : (rows : List Row) (trace report : Option Text) → replay_with rows trace report None ≡ None
replay_without_width rows None report = refl
replay_without_width rows (Some t) None = refl
replay_without_width rows (Some t) (Some r) = refl

no_replay : (rows : List Row) → HasBadWidth rows → replay_of_rows rows ≡ None
no_replay rows width =
    ap (λ n. replay_with rows (first_of (codes "trace") rows) (first_of (codes "output") rows) n) width
    ∙ replay_without_width rows (first_of (codes "trace") rows) (first_of (codes "output") rows)

-- ---- the rows of plain words
bad_steps : (k : Subcommand) (choices : List Choice) (path : Text) (words : List Text) → GiveBadSteps choices → HasBadSteps (all_rows k choices path words)
bad_steps k choices path words (inl q) = inl (ap quantum_of (option_read k (codes "quantum") choices path words (refl, refl, refl, refl)) ∙ q)
bad_steps k choices path words (inr b) = inr (ap budget_of (option_read k (codes "budget") choices path words (refl, refl, refl, refl)) ∙ b)

guest_asks_nothing : (g : GuestCommand) (choices : List Choice) (image : Text) (words : List Text) → GiveBadSteps choices ⊎ GiveBadNumber g choices
    → guest_asked_of_rows (plain.name_of g) (all_rows (of_guest g) choices image words) ≡ None
guest_asks_nothing g choices image words (inl steps) =
    let rows = all_rows (of_guest g) choices image words in
    ap (λ guest. guest_asked_with guest (first_of (codes "output") rows) (analysis_of_rows (plain.name_of g) rows))
    (no_guest rows (bad_steps (of_guest g) choices image words steps))
guest_asks_nothing g choices image words (inr number) =
    let rows = all_rows (of_guest g) choices image words in
    ap (guest_asked_with (guest_of_rows rows) (first_of (codes "output") rows)) (analysis_read g choices image words ∙ number)
    ∙ nothing_asked (guest_of_rows rows) (first_of (codes "output") rows)

pub plain_numbers : PlainNumbersAreRefused
plain_numbers = record {
  guest = λ g program choices image words plain' has bad.
      command_asks_nothing (of_guest g) program choices image words (inl tt) plain' has
      (asked_by_name g (all_rows (of_guest g) choices image words) ∙ guest_asks_nothing g choices image words bad);
  replay = λ program choices trace plain' has bad.
      command_asks_nothing replaying program choices trace [] (inr refl) plain' has
      (ap (option_map Replay) (no_replay (all_rows replaying choices trace [])
      (ap bits_of (option_read replaying (codes "stamps") choices trace [] (refl, refl, refl, refl)) ∙ bad)));
  demo = λ program number plain bad.
      asks_nothing (demo_words program number)
      (ap read_of (demo_subcommand program number (plain_is_no_flag number plain)) ∙ ap (option_map Demo) bad);
}

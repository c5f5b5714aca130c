-- The numbers of what words ask for are in their ranges.
use Rattle.std.proofs.Common.{◌≡◌, ℕ, ◌≤◌, Bool, true, false, cond, ◌&&◌, List, Option, Some, None, IfSome, refl, subst, sym, inl, inr, arith}
use Rattle.std.specs.Prelude.{codes, nat_le, option_and_then, option_map}
use Rattle.std.specs.Str.{bytes_eq}
use Rattle.std.specs.List.{list_any}
use Rattle.std.specs.Str.Parse.{digits_value}
use Rattle.std.proofs.lemmas.Bool.{and_parts}
use Rattle.std.proofs.lemmas.Bool.Decides.{nat_tests}
use Rattle.clap.specs.Words.{Row, Text, first_of, subcommand_of}
use Rattle.command_line.specs.App.{the_app}
use Rattle.command_line.specs.Options.{Analysis, Asked, AsksFor, GuestOptions, ReplayOptions, analysis_of_rows, asked_of, asked_of_rows, budget_of, demo_of, demo_of_rows, guest_asked_of_rows, guest_asked_with, guest_of_rows, guest_with, has_zero, is_numeral, number_between, quantum_of, replay_of_rows}
use Rattle.command_line.specs.Options.Asked.{Guest, Replay, Demo}
use Rattle.guest_words.specs.declared.limits.TheConstants.{DEMO_ROUTINES, RUN_STEPS}

-- the budget of a run, and the number of a demo
abbrev pub IsInRange : Asked → Type 0
IsInRange (Guest guest path analysis) = guest.budget ≤ RUN_STEPS
IsInRange (Replay options) = Unit {0}
IsInRange (Demo number) = (1 ≤ number) × (number ≤ DEMO_ROUTINES)

between : (least greatest : ℕ) (text : List ℕ) → IfSome (number_between least greatest text) (λ n. (least ≤ n) × (n ≤ greatest))
between least greatest text = by (digits_value 10 text) (is_numeral text && nat_le least (digits_value 10 text) && nat_le (digits_value 10 text) greatest) refl
  where
    low : (n : ℕ) → nat_le least n ≡ true → least ≤ n
    low n is = grind (arith, nat_tests, is)

    high : (n : ℕ) → nat_le n greatest ≡ true → n ≤ greatest
    high n is = grind (arith, nat_tests, is)

    by : (n : ℕ) (b : Bool) → (is_numeral text && nat_le least n && nat_le n greatest) ≡ b → IfSome (cond b (Some n) None) (λ m. (least ≤ m) × (m ≤ greatest))
    by n false is = tt
    by n true is =
        let both = and_parts (is_numeral text && nat_le least n) (nat_le n greatest) is in
        (low n (and_parts (is_numeral text) (nat_le least n) both.0).1, high n both.1)

budget_small : (text : Option (List ℕ)) → IfSome (budget_of text) (λ n. n ≤ RUN_STEPS)
budget_small None = omega arith
budget_small (Some text) = by (number_between 1 RUN_STEPS text) (between 1 RUN_STEPS text)
  where
    by : (o : Option ℕ) → IfSome o (λ n. (1 ≤ n) × (n ≤ RUN_STEPS)) → IfSome o (λ n. n ≤ RUN_STEPS)
    by None is = tt
    by (Some n) is = is.1

guest_small : (rows : List Row) → IfSome (guest_of_rows rows) (λ (guest : GuestOptions). guest.budget ≤ RUN_STEPS)
guest_small rows = by (quantum_of (first_of _ rows)) (budget_of (first_of _ rows)) (first_of _ rows) (budget_small (first_of _ rows))
  where
    by : (q b : Option ℕ) (i : Option (List ℕ)) → IfSome b (λ n. n ≤ RUN_STEPS) → IfSome (guest_with rows q b i) (λ (guest : GuestOptions). guest.budget ≤ RUN_STEPS)
    by (Some q) (Some b) (Some i) small = small
    by (Some q) (Some b) None small = tt
    by (Some q) None i small = tt
    by None b i small = tt

guest_in_range : (guest : Option GuestOptions) (path : Option (List ℕ)) (analysis : Option Analysis)
    → IfSome guest (λ (g : GuestOptions). g.budget ≤ RUN_STEPS) → IfSome (guest_asked_with guest path analysis) IsInRange
guest_in_range (Some guest) (Some path) (Some analysis) small = small
guest_in_range (Some guest) (Some path) None small = tt
guest_in_range (Some guest) None analysis small = tt
guest_in_range None path analysis small = tt

demo_in_range : (text : Option (List ℕ)) → IfSome (option_map Demo (option_and_then demo_of text)) IsInRange
demo_in_range None = tt
demo_in_range (Some text) = by (demo_of text) (between 1 DEMO_ROUTINES text)
  where
    by : (o : Option ℕ) → IfSome o (λ n. (1 ≤ n) × (n ≤ DEMO_ROUTINES)) → IfSome (option_map Demo o) IsInRange
    by None is = tt
    by (Some n) is = is

replay_in_range : (o : Option ReplayOptions) → IfSome (option_map Replay o) IsInRange
replay_in_range None = tt
replay_in_range (Some options) = tt

either : (b : Bool) (x y : Option Asked) → IfSome x IsInRange → IfSome y IsInRange → IfSome (cond b x y) IsInRange
either true x y first second = first
either false x y first second = second

rows_in_range : (name : List ℕ) (rows : List Row) → IfSome (asked_of_rows name rows) IsInRange
rows_in_range name rows =
    let demo = option_map Demo (demo_of_rows rows) in
    let guest = guest_asked_of_rows name rows in
    either (bytes_eq name (codes "replay")) (option_map Replay (replay_of_rows rows)) (cond (bytes_eq name (codes "demo")) demo guest) (replay_in_range (replay_of_rows rows))
    (either (bytes_eq name (codes "demo")) demo guest (demo_in_range (first_of (codes "number") rows))
    (guest_in_range (guest_of_rows rows) (first_of (codes "output") rows) (analysis_of_rows name rows) (guest_small rows)))

words_in_range : (words : List (List ℕ)) → IfSome (asked_of words) IsInRange
unfolding asked_of
words_in_range words = either (list_any has_zero words) None _ tt (by (subcommand_of the_app words))
  where
    by : (found : Option (Text × List Row)) → IfSome (option_and_then (λ p. asked_of_rows p.0 p.1) found) IsInRange
    by None = tt
    by (Some found) = rows_in_range found.0 found.1

pub asked_in_range : (words : List (List ℕ)) (asked : Option Asked) → AsksFor words asked → IfSome asked IsInRange
asked_in_range words asked (inl is) = subst (λ (a : Option Asked). IfSome a IsInRange) (sym is) (words_in_range words)
asked_in_range words asked (inr (none, untaken)) = subst (λ (a : Option Asked). IfSome a IsInRange) (sym none) tt

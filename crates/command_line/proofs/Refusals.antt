-- What the words ask for, by what was seen of them.
use Rattle.std.proofs.Common.{◌≡◌, Bool, true, false, refl, ap, sym, ◌∙◌, List, Option, Some, None, ℕ, cond, inl, inr}
use Rattle.std.specs.Prelude.{option_and_then}
use Rattle.clap.specs.Words.{Row, Text, subcommand_of, takes}
use Rattle.command_line.specs.App.{the_app}
use Rattle.command_line.specs.Options.{Asked, AsksFor, asked_of, asked_of_rows, has_zero}
use Rattle.std.specs.List.{list_any}

-- what is read of the rows of a subcommand
abbrev pub read_of : Option (Text × List Row) → Option Asked
read_of found = option_and_then (λ p. asked_of_rows p.0 p.1) found

pub zero_is_refused : (words : List (List ℕ)) → list_any has_zero words ≡ true → AsksFor words None
unfolding asked_of
zero_is_refused words h = inl (sym (ap (λ b. cond b None (read_of (subcommand_of the_app words))) h))

-- words with no zero byte ask for what the rows say
pub asked_is : (words : List (List ℕ)) → list_any has_zero words ≡ false → asked_of words ≡ read_of (subcommand_of the_app words)
unfolding asked_of
asked_is words h = ap (λ b. cond b None (read_of (subcommand_of the_app words))) h

pub rows_ask : (words : List (List ℕ)) (found : Option (Text × List Row)) → list_any has_zero words ≡ false → found ≡ subcommand_of the_app words
    → AsksFor words (read_of found)
rows_ask words found h e = inl (ap read_of e ∙ sym (asked_is words h))

pub untaken_is_refused : (words : List (List ℕ)) → (takes the_app words ≡ true → ⊥) → AsksFor words None
untaken_is_refused words h = go (takes the_app words) refl
  where
    go : (b : Bool) → takes the_app words ≡ b → AsksFor words None
    go true e = absurd (h e)
    go false e = inr (refl, e)

-- words that ask for something have no zero byte
pub no_zero : (words : List (List ℕ)) (asked : Asked) → AsksFor words (Some asked) → list_any has_zero words ≡ false
unfolding asked_of
no_zero words asked (inl is) = by (list_any has_zero words) is
  where
    by : (b : Bool) → Some asked ≡ cond b None (read_of (subcommand_of the_app words)) → b ≡ false
    by true same = absurd (cc)
    by false same = refl
no_zero words asked (inr (none, untaken)) = absurd (cc)

use Rattle.std.proofs.Common.{◌≡◌, ℕ, ◌<◌, ◌^◌, List, ◌∷◌, ◌++◌, codes, true, Some, ◌∙◌, refl, sym, subst, ap, ap₂, arith}
use Rattle.std.specs.Result.{MatchResult, IfErr}
use Rattle.std.proofs.lemmas.Result.{MatchResult-at_ok, MatchResult-at_err, err_from_is_err_and}
use Rattle.guest_words.specs.Names.{is_name}
use Rattle.profile_report.specs.declared.line.Line.{Line}
use Rattle.profile_report.specs.declared.line.Line.TheVariants.{OfRoutine}
use Rattle.profile_report.specs.declared.line.LineError.TheVariants.{Memory}
use Rattle.profile_report.specs.Grammar.{FitsLine, line_text}
use Rattle.profile_report.specs.LineForms.{hex_address}
use Rattle.profile_report.specs.Reading.{HasName}
use Rattle.guest_words.proofs.Cuts.{cut_once}
use Rattle.profile_report.proofs.Digits.{lacks_address}
use Rattle.guest_words.proofs.Found.{nothing, same}
use Rattle.profile_report.proofs.OneText.{routine_words}
use Rattle.profile_report.proofs.line_reader.routine_of.Goals as goal

pub returns-in_err-name_of-in-Some-address-clause-only : goal.returns-in_err-name_of-in-Some-address-clause-only
returns-in_err-name_of-in-Some-address-clause-only c entry name fits is =
    let parts = cut_once 32 _ _ _ _ c.in-Some.ensures.parts.0 (lacks_address 32 entry refl) (sym c.in-Some.ensures.parts.1 ∙ is) in
    let given = err_from_is_err_and c.from_residual.result c.from_residual.ensures.1 in
    let memory = MatchResult-at_err (λ x. x ≡ name) (λ e. e ≡ Memory) _ c.in_err-name_of-in-Some-address.was (c.name_of.ensures.only name fits.1 parts.1) in
    subst (λ r. MatchResult r (λ l. l ≡ OfRoutine entry name) (λ e. e ≡ Memory)) (sym given.1) (given.2 ∙ memory)

abbrev SaysName : List ℕ → Type 0
SaysName words = (l : Line) × FitsLine l × (codes "routine " ++ words ≡ line_text l) × HasName l

named : (words entry name : List ℕ) (at : ℕ) → words ≡ entry ++ 32 ∷ name → at < 2 ^ 32 → entry ≡ hex_address at → is_name name ≡ true → SaysName words
named words entry name at is fits here names =
    let text = ap (λ w. codes "routine " ++ w) (is ∙ ap (λ a. a ++ 32 ∷ name) here) ∙ sym (routine_words at (Some name)) in
    (OfRoutine at (Some name), (fits, names), text, tt)

pub returns-in_err-name_of-in-Some-address-clause-memory : goal.returns-in_err-name_of-in-Some-address-clause-memory
returns-in_err-name_of-in-Some-address-clause-memory c =
    let given = err_from_is_err_and c.from_residual.result c.from_residual.ensures.1 in
    let at = c.in-Some-address.ensures.found in
    subst (λ r. IfErr r (λ e. e ≡ Memory → SaysName c.args.words.now)) (sym given.1)
    (λ e. named c.args.words.now _ _ _ c.in-Some.ensures.parts.1 (omega arith) at (c.in_err-name_of-in-Some-address.ensures.memory (sym given.2 ∙ e)))

pub returns-in_ok-name_of-in-Some-address-clause-only : goal.returns-in_ok-name_of-in-Some-address-clause-only
returns-in_ok-name_of-in-Some-address-clause-only c entry name fits is =
    let parts = cut_once 32 _ _ _ _ c.in-Some.ensures.parts.0 (lacks_address 32 entry refl) (sym c.in-Some.ensures.parts.1 ∙ is) in
    ap₂ OfRoutine (same c.address.result _ _ c.in-Some-address.is (c.address.ensures.only entry fits.0 parts.0))
    (MatchResult-at_ok (λ x. x ≡ name) (λ e. e ≡ Memory) _ c.in_ok-name_of-in-Some-address.was (c.name_of.ensures.only name fits.1 parts.1))

pub returns-in-None-clause-only : goal.returns-in-None-clause-only
returns-in-None-clause-only c entry name fits is =
    let parts = cut_once 32 _ _ _ _ c.in-Some.ensures.parts.0 (lacks_address 32 entry refl) (sym c.in-Some.ensures.parts.1 ∙ is) in
    absurd (nothing c.address.result _ c.in-None.is (c.address.ensures.only entry fits.0 parts.0))

-- Words that begin with `=`.
use Rattle.std.proofs.Common.{◌≡◌, ℕ, Bool, true, false, refl, ap, ◌∷◌, arith, List, [], Option, Some, None, nat_eq, ◌≤◌, zero, suc, length, take, map}
use Rattle.std.proofs.lemmas.Bool.Decides.{nat_tests}
use Rattle.std.specs.Prelude.{MatchOption}
use Rattle.std.specs.Borrow.{Bor}
use Rattle.command_line.specs.Options.{argument_of, is_plain_argument}

pub plain_after : (word rest : List ℕ) → word ≡ 61 ∷ rest → (is_plain_argument word ≡ true) × (rest ≡ argument_of word)
plain_after word rest e = rw e (refl, refl)

no_equals : (b : Bool) (x : ℕ) (xs : List ℕ) → nat_eq 61 x ≡ b → ((rest : List ℕ) → x ∷ xs ≡ 61 ∷ rest → ⊥) → is_plain_argument (x ∷ xs) ≡ false
no_equals true x xs e h = absurd (h xs (let same : x ≡ 61 = grind (arith, nat_tests) in ap (λ y. y ∷ xs) same))
no_equals false x xs e h = rw e refl

pub plain_never : (word : List ℕ) → ((rest : List ℕ) → word ≡ 61 ∷ rest → ⊥) → is_plain_argument word ≡ false
plain_never [] h = refl
plain_never (x ∷ xs) h = no_equals (nat_eq 61 x) x xs refl h

-- what `strip_prefix` answers
pub plain_stripped : (word : List ℕ) (r : Option (Bor (List ℕ))) → MatchOption r ((rest : List ℕ) → word ≡ 61 ∷ rest → ⊥) (λ text. word ≡ 61 ∷ text.now)
    → MatchOption r (is_plain_argument word ≡ false) (λ text. (is_plain_argument word ≡ true) × (text.now ≡ argument_of word))
plain_stripped word None h = plain_never word h
plain_stripped word (Some text) h = plain_after word text.now h

-- the arguments of all words
pub all_arguments : (words : List (Bor (List ℕ))) (i : ℕ) → length words ≤ i
    → map (λ word. argument_of word.now) (take i words) ≡ map argument_of (map (λ word. word.now) words)
all_arguments [] zero le = refl
all_arguments [] (suc i) le = refl
all_arguments (w ∷ ws) zero le = absurd (omega arith)
all_arguments (w ∷ ws) (suc i) le = ap (λ (rest : List (List ℕ)). argument_of w.now ∷ rest) (all_arguments ws i (omega arith))

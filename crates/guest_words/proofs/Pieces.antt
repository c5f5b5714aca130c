-- Texts that are written a piece at a time.
use Rattle.std.proofs.Common.{◌≡◌, ℕ, ◌++◌, ◌∷◌, List, [], sym, ap, ◌∙◌, append_assoc, append-nil}
use Rattle.std.specs.List.{flat_map}
use Rattle.std.proofs.lemmas.Grind.{flat_map-append}

-- what one more says comes behind what those before it say
pub one_more : {A : Type 0} (f : A → List ℕ) (some more : List A) (x : A) (start before after : List ℕ) → more ≡ some ++ x ∷ [] →
    before ≡ start ++ flat_map f some → after ≡ before ++ f x → after ≡ start ++ flat_map f more
one_more f some more x start before after are was is =
    is ∙ ap (λ b. b ++ f x) was ∙ append_assoc start (flat_map f some) (f x)
    ∙ ap (λ t. start ++ t) (sym (ap (flat_map f) are ∙ flat_map-append f some (x ∷ []) ∙ ap (λ t. flat_map f some ++ t) (append-nil (f x))))

-- An element that passes is found where there is one.
use Rattle.std.proofs.Common.{◌≡◌, ℕ, suc, Bool, true, false, List, [], ◌∷◌, length, Some, None, arith, refl, ◌∙◌}
use Rattle.std.specs.Prelude.{not, ◌+◌, ◌||◌, is_some, nat_lt, cond}
use Rattle.std.specs.List.{list_any, position, position_or_len}
use Rattle.std.proofs.lemmas.Bool.Decides.{nat_tests}

some_where : (b : Bool) (n : ℕ) → is_some (cond b (Some n) None) ≡ b
some_where true n = refl
some_where false n = refl

one_more : (b : Bool) (n len : ℕ) (any : Bool) → nat_lt n len ≡ any → nat_lt (cond (not b) (1 + n) 0) (suc len) ≡ (b || any)
one_more true n len any h = grind (arith, nat_tests)
one_more false n len any h = grind (arith, nat_tests, h)

in_range : {X : Type 0} (p : X → Bool) (xs : List X) → nat_lt (position_or_len p xs) (length xs) ≡ list_any p xs
in_range p [] = refl
in_range p (x ∷ xs) = one_more (p x) (position_or_len p xs) (length xs) (list_any p xs) (in_range p xs)

pub found_where_any : {X : Type 0} (p : X → Bool) (xs : List X) → is_some (position p xs) ≡ list_any p xs
found_where_any p xs = some_where (nat_lt (position_or_len p xs) (length xs)) (position_or_len p xs) ∙ in_range p xs

-- What a reader found is one value.
use Rattle.std.proofs.Common.{◌≡◌, Option, Some, None}

-- nothing was found, and something was
pub nothing : {A : Type 0} (o : Option A) (x : A) → o ≡ None → o ≡ Some x → ⊥
nothing o x e f = cc

-- what was found twice is the same
pub same : {A : Type 0} (o : Option A) (x y : A) → o ≡ Some x → o ≡ Some y → x ≡ y
same o x y e f = cc

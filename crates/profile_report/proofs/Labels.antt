-- What stands behind a label.
use Rattle.std.proofs.Common.{◌≡◌, ℕ, List, Option, None, subst}
use Rattle.std.specs.Option.{IsSomeAnd}
use denote.Ref.{Bor}

-- nothing stands behind a label, and something does
pub nothing_behind : (r : Option (Bor (List ℕ))) (rest : List ℕ) → r ≡ None → IsSomeAnd r (λ x. x.now ≡ rest) → ⊥
nothing_behind r rest e f = subst (λ q. IsSomeAnd q (λ x. x.now ≡ rest)) e f

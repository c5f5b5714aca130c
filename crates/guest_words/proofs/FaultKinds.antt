-- The kinds of a fault and their numbers.
use Rattle.std.proofs.Common.{◌≡◌, ◌≤◌, ℕ, cond, eqb, refl, sym, ap, ◌∙◌, arith}
use Rattle.guest_words.specs.declared.endings.FaultKind.{FaultKind}
use Rattle.guest_words.specs.declared.endings.FaultKind.TheVariants.{Illegal, Fetch, Load, Store, JumpAlign, AtomicAlign, Break}
use Rattle.guest_words.specs.Endings.{kind_number}

-- the kind of a number
abbrev pub kind_at : ℕ → FaultKind
kind_at n = cond (eqb n 1) Illegal (cond (eqb n 2) Fetch (cond (eqb n 3) Load (cond (eqb n 4) Store (cond (eqb n 5) JumpAlign (cond (eqb n 6) AtomicAlign Break)))))

pub kind_back : (k : FaultKind) → kind_at (kind_number k) ≡ k
kind_back Illegal = refl
kind_back _ = refl

pub kind_same : (j k : FaultKind) → kind_number j ≡ kind_number k → j ≡ k
kind_same j k is = sym (kind_back j) ∙ ap kind_at is ∙ kind_back k

pub kind_in_range : (kind : FaultKind) → (1 ≤ kind_number kind) × (kind_number kind ≤ 7)
kind_in_range Illegal = (omega arith, omega arith)
kind_in_range _ = (omega arith, omega arith)

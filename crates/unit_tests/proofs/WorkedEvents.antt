-- The events of the test of two threads may come one after the other.
use Rattle.std.proofs.Common.{◌≡◌, ℕ, List, [], ◌∷◌, refl, sym, subst, arith}
use Rattle.trace_model.specs.declared.event_kinds.Event.{Event}
use Rattle.trace_model.specs.declared.event_kinds.Event.TheVariants.{Step, Call, Ret, Start, End}
use Rattle.trace_model.specs.WellFormed.{IsWellFormed}

abbrev pub past_1 : List Event
past_1 = Start 1 256 ∷ []

abbrev pub past_2 : List Event
past_2 = Step 1 ∷ past_1

abbrev pub past_3 : List Event
past_3 = Call 1 512 260 ∷ past_2

abbrev pub past_4 : ℕ → List Event
past_4 second = Start second 768 ∷ past_3

abbrev pub past_5 : ℕ → List Event
past_5 second = Ret 1 260 ∷ past_4 second

abbrev pub past_6 : ℕ → List Event
past_6 second = End second ∷ past_5 second

pub formed_1 : IsWellFormed past_1
formed_1 = (omega arith, omega arith, tt)

pub formed_2 : IsWellFormed past_2
formed_2 = (refl, omega arith, formed_1)

pub formed_3 : IsWellFormed past_3
formed_3 = ((refl, refl), omega arith, formed_2)

pub formed_4 : (second : ℕ) → second ≡ 2 → IsWellFormed (past_4 second)
formed_4 second is = subst (λ n. IsWellFormed (past_4 n)) (sym is) (omega arith, omega arith, formed_3)

pub formed_5 : (second : ℕ) → second ≡ 2 → IsWellFormed (past_5 second)
formed_5 second is = subst (λ n. IsWellFormed (past_5 n)) (sym is) ((refl, refl), omega arith, formed_4 2 refl)

pub formed_6 : (second : ℕ) → second ≡ 2 → IsWellFormed (past_6 second)
formed_6 second is = subst (λ n. IsWellFormed (past_6 n)) (sym is) (refl, omega arith, formed_5 2 refl)

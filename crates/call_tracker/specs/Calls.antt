-- The open calls of a thread. Which of them a return ends is said beside the open activations of a trace.
use Rattle.std.specs.Prelude.{ℕ, List, map, Option, refl}
use Rattle.std.specs.Coded.{Coded, code_by, coded×, coded_ℕ, coded_list}
use Rattle.call_tracker.specs.declared.open_calls.OpenCall.{OpenCall}

-- The open calls, the outermost first, and how many can be pushed without allocating.
pub record CallStack (C : Type 0) : Type 0 where
  pub calls : List C
  pub spare : ℕ

-- a stack is stored as the pair of its fields
abbrev pub stack_code : {C : Type 0} → Coded C → Coded (CallStack C)
stack_code {C} code = code_by (List C × ℕ) (coded× (coded_list code) coded_ℕ) (λ s. (s.calls, s.spare)) (λ p. record { calls = p.0; spare = p.1 }) (λ _. refl)

-- the return addresses of the calls, in their order
abbrev pub backs : List OpenCall → List (Option ℕ)
backs calls = map (λ c. c.back) calls

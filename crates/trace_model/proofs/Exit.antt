-- The profile of a thread that runs and ends without a call or an access.
use Rattle.std.proofs.Common.{◌≡◌, ℕ, zero, suc, ◌+◌, ◌-◌, Bool, not, cond, eqb, List, [], ◌∷◌, ◌++◌, length, take, map, replicate, None, refl, ap, ◌∙◌, arith}
use Rattle.std.proofs.lemmas.Bool.{eq-eqb}
use Rattle.std.proofs.lemmas.List.{append-nil, length-append, length-replicate, take_at}
use Rattle.trace_model.specs.declared.event_kinds.Event.{Event}
use Rattle.trace_model.specs.declared.event_kinds.Event.TheVariants.{Step, Start, End}
use Rattle.trace_model.specs.declared.activations.Activation.{Activation}
use Rattle.trace_model.specs.Activations.{backs, open_calls}
use Rattle.trace_model.specs.declared.slow_profile.Done.{Done}
use Rattle.trace_model.specs.Sizes.{since, before, accessed, known, count_pairs, cost}
use Rattle.trace_model.specs.Causes.{Cause, Plain, OtherThread, Kernel, counts_by, part}
use Rattle.trace_model.specs.Profile.{done, done_of, steps}
use Rattle.trace_model.specs.Depth.{pending}
use Rattle.trace_model.specs.Laws.{plain_trace, IsOneActivation}

abbrev root_of : ℕ → Activation
root_of entry = record { at = 0; entry = entry; back = None }

pub plain_calls : (t entry n : ℕ) → open_calls (plain_trace t entry n) t ≡ root_of entry ∷ []
plain_calls t entry zero = ap (λ b. cond b (root_of entry ∷ []) [] ++ []) (eq-eqb t t refl)
plain_calls t entry (suc n) = plain_calls t entry n

pub plain_pending : (t entry n : ℕ) → pending (plain_trace t entry n) ≡ 1
plain_pending t entry zero = refl
plain_pending t entry (suc n) = omega (arith, plain_pending t entry n)

pub plain_done : (t entry n : ℕ) → done (plain_trace t entry n) ≡ []
plain_done t entry zero = refl
plain_done t entry (suc n) = append-nil (done (plain_trace t entry n)) ∙ plain_done t entry n

pub plain_steps : (t entry n : ℕ) → steps (plain_trace t entry n) ≡ n
plain_steps t entry zero = refl
plain_steps t entry (suc n) = omega (arith, plain_steps t entry n)

plain_pairs : (test : List Event → ℕ → Bool) (t n : ℕ) → count_pairs test (replicate n (Step t)) t ≡ 0
plain_pairs test t zero = refl
plain_pairs test t (suc n) = omega (arith, plain_pairs test t n)

plain_cost : (t n : ℕ) → cost (replicate n (Step t)) t ≡ n
plain_cost t zero = refl
plain_cost t (suc n) = omega (arith, plain_cost t n, ap {B = ℕ} (λ b. cond b 1 0) (eq-eqb t t refl))

-- what lies inside the one activation are the steps
plain_inside : (t entry n : ℕ) → since (plain_trace t entry n) 0 ≡ replicate n (Step t)
plain_inside t entry n =
    let run = replicate n (Step t) in
    let long : length (plain_trace t entry n) - 1 ≡ n = omega (arith, length-append run (Start t entry ∷ []), length-replicate n (Step t)) in
    ap (λ m. take m (plain_trace t entry n)) long ∙ take_at run (Start t entry ∷ []) n (length-replicate n (Step t))

abbrev without_reads : ℕ → ℕ → ℕ → Done
without_reads t entry n = record { tid = t; entry = entry; size = 0; cost = n; plain = 0; thread = 0; kernel = 0; bare = 0 }

plain_done_of : (t entry n : ℕ) → done_of (plain_trace t entry n) t (root_of entry) ≡ without_reads t entry n
plain_done_of t entry n =
    let trace = plain_trace t entry n in
    let none : (test : List Event → ℕ → Bool) → count_pairs test (since trace 0) t ≡ 0 =
    λ test. ap (λ es. count_pairs test es t) (plain_inside t entry n) ∙ plain_pairs test t n in
    let cost_is = ap (λ es. cost es t) (plain_inside t entry n) ∙ plain_cost t n in
    let part_is : (cause : Cause) → part cause (since trace 0) (before trace 1) t ≡ 0 =
    λ cause. none (λ earlier l. counts_by cause earlier (before trace 1) t l) in
    λ i. record {
      tid = t;
      entry = entry;
      size = none (λ earlier l. not (known earlier t l)) i;
      cost = cost_is i;
      plain = part_is Plain i;
      thread = part_is OtherThread i;
      kernel = part_is Kernel i;
      bare = none (λ earlier l. not (accessed earlier t l)) i;
    }

-- the end of a thread with one open activation ends that one
ending_one : (calls : List Activation) (a : Activation) (t : ℕ) → calls ≡ a ∷ [] → take (cond (eqb t t) (length (backs calls)) 0) calls ≡ a ∷ []
ending_one calls a t one =
    ap (λ b. take (cond b (length (backs calls)) 0) calls) (eq-eqb t t refl) ∙ ap (λ cs. take (length (backs cs)) cs) one

pub exit_pending : (t entry n : ℕ) → pending (End t ∷ plain_trace t entry n) ≡ 0
exit_pending t entry n =
    let past = plain_trace t entry n in
    let one = ap length (ending_one (open_calls past t) (root_of entry) t (plain_calls t entry n)) in
    ap (λ m. (pending past - m) + 0) one ∙ ap (λ p. (p - 1) + 0) (plain_pending t entry n)

pub exit_done : (t entry n : ℕ) → done (End t ∷ plain_trace t entry n) ≡ without_reads t entry n ∷ []
exit_done t entry n =
    let past = plain_trace t entry n in
    let one = ending_one (open_calls past t) (root_of entry) t (plain_calls t entry n) in
    ap (λ ds. done past ++ ds) (ap (map (done_of past t)) one ∙ ap (λ d. d ∷ []) (plain_done_of t entry n))
    ∙ ap (λ ds. ds ++ without_reads t entry n ∷ []) (plain_done t entry n)

pub one_activation : (t entry n : ℕ) → IsOneActivation t entry n
one_activation t entry n = record {
  one_open = plain_pending t entry n;
  none_done = plain_done t entry n;
  run = plain_steps t entry n;
  none_open = exit_pending t entry n;
  one_done = exit_done t entry n;
  all_run = plain_steps t entry n;
}

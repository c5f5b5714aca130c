-- The threads of the state where one of them changes, comes or goes.
use Rattle.std.proofs.Common.{◌≡◌, ◌≢◌, ℕ, ◌<◌, Bool, true, false, not, cond, List, [], ◌∷◌, ◌++◌, Some, refl, sym, ap, ◌∙◌, arith}
use Rattle.std.specs.Prelude.{◌==◌}
use Rattle.std.specs.Option.{option_map_or}
use Rattle.std.proofs.lemmas.Bool.{eq-eqb, eqb-true}
use Rattle.std.proofs.lemmas.Bool.Decides.{nat_tests}
use Rattle.std.proofs.lemmas.List.Elements.{All-head, All-tail}
use Rattle.guest_words.specs.ByThread.{numbers, value_of, with_value, without_thread}
use Rattle.stamp_renumber.specs.Threads.{Stamped}
use Rattle.stamp_table.specs.Table.{Thread}
use Rattle.shadow_core.specs.State.{as_thread, as_threads}
use Rattle.shadow_core.specs.Private.StateThreads.{ThreadsChange, ThreadsCome, ThreadsGo, LastChanges}

-- ---- numbers
pub differ : (t u : ℕ) → t ≢ u → (t == u) ≡ false
differ t u other = by (t == u) refl
  where
    by : (b : Bool) → (t == u) ≡ b → b ≡ false
    by true is = absurd (other (eqb-true t u is))
    by false is = refl

pub own_test : {X : Type 0} (t : ℕ) (a b : X) → cond (t == t) a b ≡ a
own_test t a b = ap (λ c. cond c a b) (eq-eqb t t refl)

-- ---- threads
pub value_as : (live : List (ℕ × Stamped)) (t : ℕ) (s : Stamped) → value_of live t ≡ Some s → value_of (as_threads live) t ≡ Some (as_thread s)
value_as [] t s found = absurd (cc)
value_as (x ∷ live) t s found = by (x.0 == t) found (λ later. value_as live t s later)
  where
    by : (b : Bool) → cond b (Some x.1) (value_of live t) ≡ Some s → (value_of live t ≡ Some s → value_of (as_threads live) t ≡ Some (as_thread s)) →
        cond b (Some (as_thread x.1)) (value_of (as_threads live) t) ≡ Some (as_thread s)
    by true found later = let same : x.1 ≡ s = cc in ap (λ (v : Stamped). Some (as_thread v)) same
    by false found later = later found

with_as : (t : ℕ) (s : Stamped) (live : List (ℕ × Stamped)) → as_threads (with_value live t s) ≡ with_value (as_threads live) t (as_thread s)
with_as t s [] = refl
with_as t s (x ∷ live) = by (x.0 == t) (with_as t s live)
  where
    by : (b : Bool) → as_threads (with_value live t s) ≡ with_value (as_threads live) t (as_thread s) →
        as_threads (cond b ((x.0, s) ∷ live) (x ∷ with_value live t s))
        ≡ cond b ((x.0, as_thread s) ∷ as_threads live) ((x.0, as_thread x.1) ∷ with_value (as_threads live) t (as_thread s))
    by true later = refl
    by false later = ap (λ (ys : List (ℕ × Thread)). (x.0, as_thread x.1) ∷ ys) later

pub threads_change : ThreadsChange
threads_change live t was is change found changes =
    let ys = as_threads live in
    with_as t is live
    ∙ ap (with_value ys t) changes
    ∙ sym (ap (λ o. option_map_or (λ (thread : Thread). with_value ys t (change thread)) o ys) (value_as live t was found))

pub threads_come : ThreadsCome
threads_come [] t is = refl
threads_come (x ∷ live) t is = ap (λ (ys : List (ℕ × Thread)). (x.0, as_thread x.1) ∷ ys) (threads_come live t is)

pub threads_go : ThreadsGo
threads_go [] t = refl
threads_go (x ∷ live) t = by (x.0 == t) (threads_go live t)
  where
    by : (b : Bool) → as_threads (without_thread live t) ≡ without_thread (as_threads live) t →
        as_threads (cond (not b) (x ∷ without_thread live t) (without_thread live t))
        ≡ cond (not b) ((x.0, as_thread x.1) ∷ without_thread (as_threads live) t) (without_thread (as_threads live) t)
    by true later = later
    by false later = ap (λ (ys : List (ℕ × Thread)). (x.0, as_thread x.1) ∷ ys) later

pub last_changes : LastChanges
last_changes [] t was is below = ap (λ b. cond b ((t, is) ∷ []) ((t, was) ∷ [])) (eq-eqb t t refl)
last_changes (x ∷ live) t was is below =
    let low : x.0 < t = All-head (λ n. n < t) x.0 (numbers live) below in
    let apart : (x.0 == t) ≡ false = grind (arith, nat_tests, low) in
    ap (λ b. cond b ((x.0, is) ∷ live ++ (t, was) ∷ []) (x ∷ with_value (live ++ (t, was) ∷ []) t is)) apart
    ∙ ap (λ ys. x ∷ ys) (last_changes live t was is (All-tail (λ n. n < t) x.0 (numbers live) below))

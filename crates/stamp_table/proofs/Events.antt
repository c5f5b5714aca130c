-- What an event leaves of a thread that is not its own, and what it counts.
use Rattle.std.proofs.Common.{◌≡◌, ◌≢◌, ℕ, false, ◌||◌, List, [], ◌∷◌, ◌++◌, length, drop, Option, Some, ap, ◌∙◌, arith}
use Rattle.std.proofs.lemmas.Bool.Decides.{nat_tests}
use Rattle.trace_model.specs.declared.event_kinds.Event.{Event}
use Rattle.trace_model.specs.declared.event_kinds.Touch.{Touch}
use Rattle.trace_model.specs.Events.{touch, words_read, steps_run, thread_of}
use Rattle.trace_model.specs.Activations.{begun, count_ending, open_calls, backs}
use Rattle.trace_model.specs.Sizes.{newer, is_own}
use Rattle.trace_model.specs.WellFormed.{is_live}
use Rattle.stamp_table.specs.Past.{is_by_others, writes_word}

-- the event is of another thread, or of none
pub record IsApart (e : Event) (t : ℕ) : Type 0 where
  pub own : (l : ℕ) → is_own (touch e t l) ≡ false
  pub reads : words_read e t ≡ []
  pub steps : steps_run e t ≡ 0
  pub begins : (at : ℕ) → begun e t at ≡ []
  pub ends : (bs : List (Option ℕ)) → count_ending e t bs ≡ 0
  pub lives : (past : List Event) → is_live (e ∷ past) t ≡ is_live past t
  -- a write by it is foreign
  pub writes : (l : ℕ) (before : Touch) → is_by_others (newer (touch e t l) before) ≡ (writes_word e l || is_by_others before)

own_apart : (e : Event) (t l : ℕ) → thread_of e ≢ Some t → is_own (touch e t l) ≡ false
own_apart e t l h = grind (arith, nat_tests)

reads_apart : (e : Event) (t : ℕ) → thread_of e ≢ Some t → words_read e t ≡ []
reads_apart e t h = grind (arith, nat_tests)

steps_apart : (e : Event) (t : ℕ) → thread_of e ≢ Some t → steps_run e t ≡ 0
steps_apart e t h = grind (arith, nat_tests)

begins_apart : (e : Event) (t at : ℕ) → thread_of e ≢ Some t → begun e t at ≡ []
begins_apart e t at h = grind (arith, nat_tests)

ends_apart : (e : Event) (t : ℕ) (bs : List (Option ℕ)) → thread_of e ≢ Some t → count_ending e t bs ≡ 0
ends_apart e t bs h = grind (arith, nat_tests)

lives_apart : (e : Event) (t : ℕ) (past : List Event) → thread_of e ≢ Some t → is_live (e ∷ past) t ≡ is_live past t
lives_apart e t past h = grind (arith, nat_tests)

writes_apart : (e : Event) (t l : ℕ) (before : Touch) → thread_of e ≢ Some t →
    is_by_others (newer (touch e t l) before) ≡ (writes_word e l || is_by_others before)
writes_apart e t l before h = grind (arith, nat_tests)

pub apart : (e : Event) (t : ℕ) → thread_of e ≢ Some t → IsApart e t
apart e t h = record {
  own = λ l. own_apart e t l h;
  reads = reads_apart e t h;
  steps = steps_apart e t h;
  begins = λ at. begins_apart e t at h;
  ends = λ bs. ends_apart e t bs h;
  lives = λ past. lives_apart e t past h;
  writes = λ l before. writes_apart e t l before h;
}

pub open_calls-apart : (e : Event) (past : List Event) (t : ℕ) → IsApart e t → open_calls (e ∷ past) t ≡ open_calls past t
open_calls-apart e past t h =
    ap (λ b. b ++ drop (count_ending e t (backs (open_calls past t))) (open_calls past t)) (h.begins (length past))
    ∙ ap (λ n. drop n (open_calls past t)) (h.ends (backs (open_calls past t)))

-- The profile follows the events.
use Rattle.std.proofs.Common.{◌≡◌, ℕ, zero, suc, true, ◌+◌, ◌-◌, ◌<◌, ◌≤◌, inl, inr, Bool, cond, List, [], ◌∷◌, ◌++◌, length, map, reverse, refl, sym, ap, ◌∙◌, subst, arith}
use Rattle.std.specs.Prelude.{◌⊎◌, slice_get, Option, Some, None}
use Rattle.std.specs.Option.{option_map, option_map_or}
use Rattle.std.specs.List.{count_by}
use Rattle.std.proofs.Math.Logic.{∥∥₁_map}
use Rattle.std.proofs.lemmas.List.{append-nil}
use Rattle.std.proofs.lemmas.List.Elements.{All-map}
use Rattle.std.proofs.lemmas.List.Sums.{sum_by-cons}
use Rattle.trace_model.specs.declared.event_kinds.Event.{Event}
use Rattle.trace_model.specs.declared.event_kinds.Event.TheVariants.{Call, End, Fill, Read, Ret, Start, Step, Write}
use Rattle.trace_model.specs.Events.{thread_of}
use Rattle.trace_model.specs.Observing.{MayStepBy, MayTake, with_steps}
use Rattle.trace_model.specs.Profile.{steps}
use Rattle.trace_model.specs.WellFormed.{IsWellFormed, is_live}
use Rattle.trace_order.specs.Progress.{IsProgressOf, ProgressState}
use Rattle.guest_words.specs.declared.limits.TheConstants.{TRACE_WEIGHT}
use Rattle.trace_order.proofs.Progressing.{allowed_by, heavier}
use Rattle.trace_model.specs.Depth.{pending}
use Rattle.trace_model.specs.declared.activations.Activation.{Activation}
use Rattle.trace_model.specs.Activations.{open_calls}
use Rattle.call_tracker.specs.declared.open_calls.OpenCall.{OpenCall}
use Rattle.call_tracker.specs.CallStacks.{Stacks, call_of}
use Rattle.call_tracker.specs.CallStacks as calls
use Rattle.cache_lines.specs.Held.{Held}
use Rattle.cache_lines.specs.Kept as lines
use Rattle.cache_lines.specs.Shapes.{Dimensions}
use Rattle.cache_profile.specs.ByRoutine.{LineAccess, accesses_of, all_accesses, by_routine, innermost, routine_at}
use Rattle.cache_profile.specs.LineAccesses.{line_accesses, lines_accessed, lines_over, missed}
use Rattle.cache_profile.specs.Private.Other.{IsOther}
use Rattle.cache_profile.specs.Profile.{IsOfSome, KeptMisses, MayCome, MissesStandFor, lives}
use Rattle.cache_profile.proofs.Accessed.{count_missed}
use Rattle.cache_profile.proofs.Bounds.{length-accesses_of}
use Rattle.cache_profile.proofs.Groups.{AreOf}

-- an event that begins and ends nothing leaves the number of open activations
unmoved : (n : ℕ) → n ≡ (n - 0) + 0
unmoved n = omega arith

count_named : (entry : ℕ) (ms : List Bool) → count_by (λ (a : LineAccess). a.missed) (map (λ m. record { entry = entry; missed = m }) ms) ≡ count_by (λ m. m) ms
count_named entry [] = refl
count_named entry (m ∷ ms) =
    let rest = count_named entry ms in
    let here : LineAccess = record { entry = entry; missed = m } in
    sum_by-cons (λ (a : LineAccess). cond a.missed 1 0) here (map (λ m. record { entry = entry; missed = m }) ms)
    ∙ ap (λ n. cond m 1 0 + n) rest ∙ sym (sum_by-cons (λ b. cond b 1 0) m ms)

-- what the accesses of a read come to
pub are_of : (shape : Dimensions) (past : List Event) (tid first count entry accesses misses : ℕ) → entry ≡ innermost past tid → 1 ≤ accesses →
    accesses ≡ length (lines_over shape first count) → misses ≡ count_missed shape (line_accesses shape past) (lines_over shape first count) →
    AreOf entry accesses misses (accesses_of shape (Read tid first count) past)
are_of shape past tid first count entry accesses misses whose some all missing =
    let ms = missed shape (line_accesses shape past) (lines_over shape first count) in
    record {
      some = some;
      entries = All-map (λ (a : LineAccess). a.entry ≡ entry) (λ m. record { entry = innermost past tid; missed = m }) ms (λ k d inside. sym whose);
      all = length-accesses_of shape (Read tid first count) past ∙ sym all;
      missing = count_named (innermost past tid) ms ∙ sym missing;
    }

-- and where the cache stands for the accesses before
pub are_counted : (shape : Dimensions) (past : List Event) (tid first count : ℕ) (cache : Held) (entry accesses misses : ℕ) → cache.shape ≡ shape → lines.CacheStandsFor cache (line_accesses shape past) →
    entry ≡ innermost past tid → 1 ≤ accesses → accesses ≡ length (lines_over cache.shape first count) →
    ((earlier : List ℕ) → lines.CacheStandsFor cache earlier → misses ≡ count_missed cache.shape earlier (lines_over cache.shape first count)) →
    AreOf entry accesses misses (accesses_of shape (Read tid first count) past)
are_counted shape past tid first count cache entry accesses misses same stands whose some all missing =
    are_of shape past tid first count entry accesses misses whose some (all ∙ ap (λ (form : Dimensions). length (lines_over form first count)) same)
    (missing (line_accesses shape past) stands ∙ ap (λ (form : Dimensions). count_missed form (line_accesses shape past) (lines_over form first count)) same)

-- ---- which event may come next
pub formed_next : (shape : Dimensions) (kept : KeptMisses) (past : List Event) (e : Event) → MissesStandFor shape kept past → MayCome kept e → IsWellFormed (e ∷ past)
formed_next shape kept past e stands may = (allowed_by e (lives kept) kept.progress past stands.progress_is stands.calls.threads_live).0 may

-- what follows the events of some past is of some past
pub of_some : (shape : Dimensions) (old new : KeptMisses) (e : Event) → ∥ IsOfSome shape old ∥₁ → ((past : List Event) → MissesStandFor shape old past → MissesStandFor shape new (e ∷ past)) → ∥ IsOfSome shape new ∥₁
of_some shape old new e of goes = ∥∥₁_map of (λ is. record { past = e ∷ is.past; now = goes is.past is.now })

-- the open calls take the event
pub may_calls : (shape : Dimensions) (kept : KeptMisses) (e : Event) → ∥ IsOfSome shape kept ∥₁ → MayCome kept e → ∥ MayTake calls.StacksStandFor kept.calls e ∥₁
may_calls shape kept e of may = ∥∥₁_map of (λ is. record { past = is.past; now = is.now.calls; formed = formed_next shape kept is.past e is.now may })

-- ---- an access
module _ (shape : Dimensions) (past : List Event) (tid first count : ℕ) (old new : KeptMisses) (stands : MissesStandFor shape old past) (same : new.cache.shape ≡ old.cache.shape)
    (after : (earlier : List ℕ) → lines.CacheStandsFor old.cache earlier → lines.CacheStandsFor new.cache (reverse (lines_over old.cache.shape first count) ++ earlier))
    (calls_same : new.calls ≡ old.calls) (steps_same : new.steps ≡ old.steps)
    (counted : new.routines ≡ by_routine (all_accesses shape past ++ accesses_of shape (Read tid first count) past)) where
  lines_after : lines.CacheStandsFor new.cache (reverse (lines_over shape first count) ++ line_accesses shape past)
  lines_after = subst (λ (form : Dimensions). lines.CacheStandsFor new.cache (reverse (lines_over form first count) ++ line_accesses shape past)) stands.shape_is (after (line_accesses shape past) stands.cache)

  calls_after : calls.StacksStandFor new.calls (Read tid first count ∷ past)
  calls_after = subst (λ (s : Stacks). calls.StacksStandFor s (Read tid first count ∷ past)) (sym calls_same) (record {
    threads_live = stands.calls.threads_live;
    threads_began = stands.calls.threads_began;
    calls_are = stands.calls.calls_are;
    pending_is = stands.calls.pending_is ∙ unmoved (pending past);
  })

  after_read : IsProgressOf new.progress (Read tid first count ∷ past) → MissesStandFor shape new (Read tid first count ∷ past)
  after_read progress = record {
    shape_is = same ∙ stands.shape_is;
    cache = lines_after;
    calls = calls_after;
    routines = counted;
    steps_are = steps_same ∙ stands.steps_are;
    progress_is = progress;
  }

  -- a write accesses as a read does
  after_write : IsProgressOf new.progress (Write tid first count ∷ past) → MissesStandFor shape new (Write tid first count ∷ past)
  after_write progress = record {
    shape_is = same ∙ stands.shape_is;
    cache = lines_after;
    calls = record {
      threads_live = calls_after.threads_live;
      threads_began = calls_after.threads_began;
      calls_are = calls_after.calls_are;
      pending_is = calls_after.pending_is;
    };
    routines = counted;
    steps_are = steps_same ∙ stands.steps_are;
    progress_is = progress;
  }

  pub after_access : (e : Event) → (e ≡ Read tid first count) ⊎ (e ≡ Write tid first count) → IsProgressOf new.progress (e ∷ past) → MissesStandFor shape new (e ∷ past)
  after_access e (inl is) progress =
      subst (λ (f : Event). MissesStandFor shape new (f ∷ past)) (sym is) (after_read (subst (λ (f : Event). IsProgressOf new.progress (f ∷ past)) is progress))
  after_access e (inr is) progress =
      subst (λ (f : Event). MissesStandFor shape new (f ∷ past)) (sym is) (after_write (subst (λ (f : Event). IsProgressOf new.progress (f ∷ past)) is progress))

-- ---- steps in a row, which access nothing
live_same : (t n : ℕ) (past : List Event) (u : ℕ) → is_live (with_steps t n past) u ≡ is_live past u
live_same t zero past u = refl
live_same t (suc n) past u = live_same t n past u

-- They may come, as what is kept shows.
formed_on : (shape : Dimensions) (kept : KeptMisses) (t n : ℕ) (past : List Event) → lives kept t ≡ true → kept.progress.weight + n < TRACE_WEIGHT → MissesStandFor shape kept past → IsWellFormed (with_steps t n past)
formed_on shape kept t zero past alive light s = s.progress_is.formed
formed_on shape kept t (suc n) past alive light s = (
  live_same t n past t ∙ sym (s.calls.threads_live t) ∙ alive,
  omega (arith, heavier t (suc n) past, s.progress_is.weight, light),
  formed_on shape kept t n past alive (omega (arith, light)) s,
)

pub may_steps : (shape : Dimensions) (kept : KeptMisses) (t n : ℕ) → 1 ≤ n → MayStepBy (MissesStandFor shape) (λ past. true) kept t n → (lives kept t ≡ true) × (kept.progress.weight + n < TRACE_WEIGHT)
may_steps shape kept t zero some may = absurd (omega (arith, some))
may_steps shape kept t (suc n) some may = (
  may.now.calls.threads_live t ∙ sym (live_same t n may.past t) ∙ may.formed.0,
  omega (arith, heavier t (suc n) may.past, may.now.progress_is.weight, may.formed.1),
)

steps_more : (t n : ℕ) (past : List Event) → steps (with_steps t n past) ≡ steps past + n
steps_more t zero past = omega arith
steps_more t (suc n) past = omega (arith, steps_more t n past)

same_lines : (shape : Dimensions) (t n : ℕ) (past : List Event) → line_accesses shape past ≡ line_accesses shape (with_steps t n past)
same_lines shape t zero past = refl
same_lines shape t (suc n) past = same_lines shape t n past

same_accesses : (shape : Dimensions) (t n : ℕ) (past : List Event) → all_accesses shape past ≡ all_accesses shape (with_steps t n past)
same_accesses shape t zero past = refl
same_accesses shape t (suc n) past = same_accesses shape t n past ∙ sym (append-nil (all_accesses shape (with_steps t n past)))

calls_stay : (s : Stacks) (t n : ℕ) (past : List Event) → calls.StacksStandFor s past → calls.StacksStandFor s (with_steps t n past)
calls_stay s t zero past stands = stands
calls_stay s t (suc n) past stands =
    let before = calls_stay s t n past stands in
    record {
      threads_live = before.threads_live;
      threads_began = before.threads_began;
      calls_are = before.calls_are;
      pending_is = before.pending_is ∙ unmoved (pending (with_steps t n past));
    }

pub after_steps : (shape : Dimensions) (past : List Event) (t n : ℕ) (old : KeptMisses) (steps : ℕ) (progress : ProgressState) → lives old t ≡ true → old.progress.weight + n < TRACE_WEIGHT → steps ≡ old.steps + n →
    (IsProgressOf old.progress past → IsWellFormed (with_steps t n past) → IsProgressOf progress (with_steps t n past)) → MissesStandFor shape old past →
    MissesStandFor shape (record old { steps = steps; progress = progress }) (with_steps t n past)
after_steps shape past t n old steps progress alive light more goes stands = record {
  shape_is = stands.shape_is;
  cache = subst (lines.CacheStandsFor old.cache) (same_lines shape t n past) stands.cache;
  calls = calls_stay old.calls t n past stands.calls;
  routines = stands.routines ∙ ap by_routine (same_accesses shape t n past);
  steps_are = omega (arith, more, stands.steps_are, steps_more t n past);
  progress_is = goes stands.progress_is (formed_on shape old t n past alive light stands);
}

-- ---- any other event
no_lines : (shape : Dimensions) (e : Event) → IsOther e → lines_accessed shape e ≡ []
no_lines shape (Read tid first count) other = absurd other
no_lines shape (Write tid first count) other = absurd other
no_lines shape (Step tid) other = refl
no_lines shape (Fill first count) other = refl
no_lines shape (Call tid entry back) other = refl
no_lines shape (Ret tid target) other = refl
no_lines shape (Start tid entry) other = refl
no_lines shape (End tid) other = refl

no_step : (e : Event) (past : List Event) → IsOther e → steps past ≡ steps (e ∷ past)
no_step (Read tid first count) past other = absurd other
no_step (Write tid first count) past other = absurd other
no_step (Step tid) past other = absurd other
no_step (Fill first count) past other = refl
no_step (Call tid entry back) past other = refl
no_step (Ret tid target) past other = refl
no_step (Start tid entry) past other = refl
no_step (End tid) past other = refl

pub after_other : (shape : Dimensions) (past : List Event) (e : Event) (old new : KeptMisses) → IsOther e → MissesStandFor shape old past → new.cache ≡ old.cache → new.routines ≡ old.routines → new.steps ≡ old.steps →
    calls.StacksStandFor new.calls (e ∷ past) → IsProgressOf new.progress (e ∷ past) → MissesStandFor shape new (e ∷ past)
after_other shape past e old new other stands cache routines same called progress = record {
  shape_is = ap (λ (h : Held). h.shape) cache ∙ stands.shape_is;
  cache = subst (λ (ls : List ℕ). lines.CacheStandsFor new.cache (reverse ls ++ line_accesses shape past)) (sym (no_lines shape e other))
      (subst (λ (h : Held). lines.CacheStandsFor h (line_accesses shape past)) (sym cache) stands.cache);
  calls = called;
  routines = routines ∙ stands.routines ∙ ap by_routine (sym (append-nil (all_accesses shape past)) ∙ ap (λ ls. all_accesses shape past ++ map (λ m. record { entry = routine_at past (thread_of e); missed = m }) (missed shape (line_accesses shape past) ls)) (sym (no_lines shape e other)));
  steps_are = same ∙ stands.steps_are ∙ no_step e past other;
  progress_is = progress;
}

-- ---- the routine that runs
entry_seen : (o : Option Activation) → option_map_or (λ (c : OpenCall). c.entry) (option_map call_of o) 0 ≡ option_map_or (λ (a : Activation). a.entry) o 0
entry_seen None = refl
entry_seen (Some a) = refl

pub innermost_is : (past : List Event) (t : ℕ) (top : Option OpenCall) → top ≡ option_map call_of (slice_get (open_calls past t) 0) →
    option_map_or (λ (c : OpenCall). c.entry) top 0 ≡ innermost past t
innermost_is past t top is = ap (λ (o : Option OpenCall). option_map_or (λ (c : OpenCall). c.entry) o 0) is ∙ entry_seen (slice_get (open_calls past t) 0)

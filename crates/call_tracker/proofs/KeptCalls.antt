-- The open calls of the threads as they are kept, the outermost first, and as they are seen, the innermost first.
use Rattle.std.proofs.Common.{◌≡◌, ℕ, ◌-◌, ◌≤◌, true, List, [], ◌∷◌, ◌++◌, length, take, drop, map, reverse, Option, Some, None, refl, ap, sym, ◌∙◌, Bor, MutBor}
use Rattle.std.specs.Prelude.{is_some, slice_get}
use Rattle.std.specs.Option.{IsSome, option_copied, option_copied_mut, option_map, option_map_or}
use Rattle.std.proofs.lemmas.List.{reverse-append}
use Rattle.guest_words.specs.ByThread.{value_of, with_value}
use Rattle.guest_words.proofs.ThreadTables as tables
use Rattle.trace_model.specs.declared.activations.Activation.{Activation}
use Rattle.trace_model.proofs.Ended.{reverse-take}
use Rattle.call_tracker.specs.declared.open_calls.OpenCall.{OpenCall}
use Rattle.call_tracker.specs.Calls.{CallStack}
use Rattle.call_tracker.specs.CallStacks.{Stacks, calls_of}

-- the calls of a thread, as they are seen
abbrev pub inward : CallStack OpenCall → List OpenCall
inward c = reverse c.calls

abbrev pub seen : List (ℕ × CallStack OpenCall) → List (ℕ × List OpenCall)
seen xs = tables.seen inward xs

module _ (xs : List (ℕ × CallStack OpenCall)) (stacks : Stacks) (is : seen xs ≡ stacks.threads) (t : ℕ) where
  value_seen : value_of stacks.threads t ≡ option_map inward (value_of xs t)
  value_seen = ap (λ (ys : List (ℕ × List OpenCall)). value_of ys t) (sym is) ∙ tables.value_of-seen inward xs t

  pub kept : (r : Option (MutBor (CallStack OpenCall))) → option_copied_mut r ≡ value_of xs t → is_some (value_of stacks.threads t) ≡ true → IsSome r
  kept None found lives =
      let none : is_some (value_of stacks.threads t) ≡ is_some (option_map inward None) = ap is_some (value_seen ∙ ap (option_map inward) (sym found)) in
      absurd (cc)
  kept (Some c) found lives = refl

  pub lives_kept : (r : Option (Bor (CallStack OpenCall))) → option_copied r ≡ value_of xs t → is_some r ≡ is_some (value_of stacks.threads t)
  lives_kept None found = sym (ap is_some (value_seen ∙ ap (option_map inward) (sym found)))
  lives_kept (Some c) found = sym (ap is_some (value_seen ∙ ap (option_map inward) (sym found)))

  pub calls_kept : (c : CallStack OpenCall) → value_of xs t ≡ Some c → calls_of stacks t ≡ inward c
  calls_kept c here = ap (λ (o : Option (List OpenCall)). option_map_or (λ calls. calls) o []) (value_seen ∙ ap (option_map inward) here)

  pub no_calls_kept : value_of xs t ≡ None → calls_of stacks t ≡ []
  no_calls_kept here = ap (λ (o : Option (List OpenCall)). option_map_or (λ calls. calls) o []) (value_seen ∙ ap (option_map inward) here)

  written : (new : CallStack OpenCall) (calls : List OpenCall) → inward new ≡ calls → seen (with_value xs t new) ≡ with_value stacks.threads t calls
  written new calls are =
      tables.with_value-seen inward xs t new ∙ ap (λ ys. with_value ys t (inward new)) is ∙ ap (λ cs. with_value stacks.threads t cs) are

  pub called : (old new : CallStack OpenCall) (call : OpenCall) → value_of xs t ≡ Some old → new.calls ≡ old.calls ++ call ∷ [] →
      seen (with_value xs t new) ≡ with_value stacks.threads t (call ∷ calls_of stacks t)
  called old new call here pushed =
      written new (call ∷ calls_of stacks t) (ap reverse pushed ∙ reverse-append old.calls (call ∷ []) ∙ ap (λ cs. call ∷ cs) (sym (calls_kept old here)))

  pub returned : (old new : CallStack OpenCall) (n : ℕ) → value_of xs t ≡ Some old → n ≤ length old.calls → new.calls ≡ take (length old.calls - n) old.calls →
      seen (with_value xs t new) ≡ with_value stacks.threads t (drop n (calls_of stacks t))
  returned old new n here within left =
      written new (drop n (calls_of stacks t)) (ap reverse left ∙ reverse-take n old.calls within ∙ ap (drop n) (sym (calls_kept old here)))

  -- a thread with the calls that it had
  pub refused : (old new : CallStack OpenCall) → value_of xs t ≡ Some old → new.calls ≡ old.calls → seen (with_value xs t new) ≡ stacks.threads
  refused old new here same = tables.seen_same inward xs t new old here (ap reverse same) ∙ is

pub slice_get-map : (f : Activation → OpenCall) (calls : List Activation) → slice_get (map f calls) 0 ≡ option_map f (slice_get calls 0)
slice_get-map f [] = refl
slice_get-map f (a ∷ calls) = refl

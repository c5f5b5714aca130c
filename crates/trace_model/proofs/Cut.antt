-- Pasts that grow, and where they are cut: the cut is the longest prefix of the trace, in time, that fits.
use Rattle.std.proofs.Common.{inl, inr, ◌≡◌, ℕ, zero, suc, ◌+◌, ◌*◌, ◌≤◌, Bool, true, false, cond, leb, List, [], ◌∷◌, ◌++◌, length, drop, reverse, refl, sym, ap, subst, ◌∙◌, append_assoc, arith}
use Rattle.std.proofs.lemmas.Bool.{le-leb, leb-true, cases_Bool, and_parts, and_from, false≢true}
use Rattle.std.proofs.lemmas.List.{length-drop, reverse-append}
use Rattle.std.proofs.Math.Seq.{drop-nil}
use Rattle.trace_model.specs.declared.event_kinds.Event.{Event}
use Rattle.trace_model.specs.declared.event_kinds.Event.TheVariants.{Step}
use Rattle.trace_model.specs.Cut.{IsPrefixClosed, cut, past_after}
use Rattle.trace_model.specs.Depth.{is_within, pending}
use Rattle.trace_model.specs.Observing.{StepsFit}
use Rattle.trace_model.specs.Laws.{CutIsTheLongestPrefix, EachPrefixIsWithin, WithinIsOfEachPrefix}

-- ---- the test by the greatest stamp
empty_within : (most : ℕ) → 3 ≤ most → EachPrefixIsWithin [] most
empty_within most least k = subst (λ past. 3 * (pending past + 1) ≤ most) (sym (drop-nil k)) least

within_each : (past : List Event) (most : ℕ) → is_within most past ≡ true → EachPrefixIsWithin past most
within_each [] most is = empty_within most (leb-true 3 most is)
within_each (e ∷ past) most is =
    let both = and_parts (leb (3 * (pending (e ∷ past) + 1)) most) (is_within most past) is in
    at both.0 (within_each past most both.1)
  where
    at : leb (3 * (pending (e ∷ past) + 1)) most ≡ true → EachPrefixIsWithin past most → EachPrefixIsWithin (e ∷ past) most
    at now before zero = leb-true (3 * (pending (e ∷ past) + 1)) most now
    at now before (suc k) = before k

each_within : (past : List Event) (most : ℕ) → EachPrefixIsWithin past most → is_within most past ≡ true
each_within [] most each = le-leb 3 most (each 0)
each_within (e ∷ past) most each =
    and_from (leb (3 * (pending (e ∷ past) + 1)) most) (is_within most past) (le-leb (3 * (pending (e ∷ past) + 1)) most (each 0))
    (each_within past most (λ k. each (suc k)))

pub within_is_of_each : WithinIsOfEachPrefix
within_is_of_each past most = (within_each past most, each_within past most)

pub within_closed : (most : ℕ) → IsPrefixClosed (is_within most)
within_closed most e past is = (and_parts (leb (3 * (pending (e ∷ past) + 1)) most) (is_within most past) is).1

-- a step opens nothing
pub steps_within : (most : ℕ) → StepsFit (is_within most)
steps_within most tid past is =
    and_from (leb (3 * (pending (Step tid ∷ past) + 1)) most) (is_within most past) (ap (λ n. leb (3 * (n + 1)) most) (let e : pending (Step tid ∷ past) ≡ pending past = omega arith in e) ∙ now past is) is
  where
    now : (past : List Event) → is_within most past ≡ true → leb (3 * (pending past + 1)) most ≡ true
    now [] is = is
    now (e ∷ past) is = (and_parts (leb (3 * (pending (e ∷ past) + 1)) most) (is_within most past) is).0

-- ---- pasts that grow
pub past_after-append : (past events more : List Event) → past_after past (events ++ more) ≡ past_after (past_after past events) more
past_after-append past events more = ap (λ es. es ++ past) (reverse-append events more) ∙ append_assoc (reverse more) (reverse events) past

pub past_after-cons : (past : List Event) (e : Event) (events : List Event) → past_after past (e ∷ events) ≡ past_after (e ∷ past) events
past_after-cons past e events = past_after-append past (e ∷ []) events

-- what does not fit never does so with more events, and is cut at the same event
pub fits-earlier : (fits : List Event → Bool) → IsPrefixClosed fits → (past newer : List Event) → fits past ≡ false → fits (newer ++ past) ≡ false
fits-earlier fits closed past [] not_fits = not_fits
fits-earlier fits closed past (e ∷ newer) not_fits = by (fits (e ∷ newer ++ past)) refl (fits-earlier fits closed past newer not_fits)
  where
    by : (b : Bool) → fits (e ∷ newer ++ past) ≡ b → fits (newer ++ past) ≡ false → b ≡ false
    by true is before = absurd (false≢true (sym before ∙ closed e (newer ++ past) is))
    by false is before = refl

pub cut-earlier : (fits : List Event → Bool) → IsPrefixClosed fits → (past newer : List Event) → fits past ≡ false → cut fits (newer ++ past) ≡ cut fits past
cut-earlier fits closed past [] not_fits = refl
cut-earlier fits closed past (e ∷ newer) not_fits =
    ap (λ b. cond b (e ∷ newer ++ past) (cut fits (newer ++ past))) (fits-earlier fits closed past (e ∷ newer) not_fits) ∙ cut-earlier fits closed past newer not_fits

-- what fits is not cut
pub cut-fits : (fits : List Event → Bool) (past : List Event) → fits past ≡ true → cut fits past ≡ past
cut-fits fits [] is = refl
cut-fits fits (e ∷ past) is = ap (λ b. cond b (e ∷ past) (cut fits past)) is

-- it is cut before the first event with which it does not fit
pub cut-here : (fits : List Event → Bool) → IsPrefixClosed fits → (past newer : List Event) (e : Event) →
    fits past ≡ true → fits (e ∷ past) ≡ false → cut fits (newer ++ e ∷ past) ≡ past
cut-here fits closed past newer e is not_fits =
    cut-earlier fits closed (e ∷ past) newer not_fits ∙ ap (λ b. cond b (e ∷ past) (cut fits past)) not_fits ∙ cut-fits fits past is

-- ---- the cut
cut_prefix : (fits : List Event → Bool) (past : List Event) → (k : ℕ) × (cut fits past ≡ drop k past)
cut_prefix fits [] = (0, refl)
cut_prefix fits (e ∷ past) =
    elim (cases_Bool (fits (e ∷ past))) [
      | inl whole ↦ (0, ap (λ b. cond b (e ∷ past) (cut fits past)) whole)
      | inr less ↦ (suc (cut_prefix fits past).0, ap (λ b. cond b (e ∷ past) (cut fits past)) less ∙ (cut_prefix fits past).1)
    ]

cut_fits : (fits : List Event → Bool) (past : List Event) → fits [] ≡ true → fits (cut fits past) ≡ true
cut_fits fits [] empty = empty
cut_fits fits (e ∷ past) empty = by (fits (e ∷ past)) refl (cut_fits fits past empty)
  where
    by : (b : Bool) → fits (e ∷ past) ≡ b → fits (cut fits past) ≡ true → fits (cond b (e ∷ past) (cut fits past)) ≡ true
    by true whole before = whole
    by false less before = before

cut_longest : (fits : List Event → Bool) (past : List Event) (k : ℕ) → fits (drop k past) ≡ true → length (drop k past) ≤ length (cut fits past)
cut_longest fits [] k is = subst (λ (es : List Event). length es ≤ 0) (sym (drop-nil k)) (omega arith)
cut_longest fits (e ∷ past) k is = at (fits (e ∷ past)) refl k is (cut_longest fits past)
  where
    at : (b : Bool) → fits (e ∷ past) ≡ b → (k : ℕ) → fits (drop k (e ∷ past)) ≡ true →
        ((k : ℕ) → fits (drop k past) ≡ true → length (drop k past) ≤ length (cut fits past)) →
        length (drop k (e ∷ past)) ≤ length (cond b (e ∷ past) (cut fits past))
    at true whole k is before = omega (arith, length-drop k (e ∷ past))
    at false less zero is before = absurd (false≢true (sym less ∙ is))
    at false less (suc k) is before = before k is

pub cut_is_longest : CutIsTheLongestPrefix
cut_is_longest fits past empty = record {
  prefix = cut_prefix fits past;
  fitting = cut_fits fits past empty;
  longest = cut_longest fits past;
}

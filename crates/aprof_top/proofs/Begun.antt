-- The open calls of a thread are those that were open when each of them began.
use Rattle.std.proofs.Common.{◌≡◌, ℕ, zero, suc, ◌+◌, ◌<◌, ◌≤◌, Bool, true, false, cond, eqb, List, [], ◌∷◌, ◌++◌, length, drop, get_or, Some, None, refl, sym, ap, ◌∙◌, arith}
use Rattle.std.proofs.lemmas.List.{drop-drop, get_or-drop, length-drop}
use Rattle.std.proofs.lemmas.List.Elements.{All-get_or}
use Rattle.trace_model.specs.declared.event_kinds.Event.{Event}
use Rattle.trace_model.specs.declared.event_kinds.Event.TheVariants.{Step, Read, Write, Fill, Call, Ret, Start, End}
use Rattle.trace_model.specs.declared.activations.Activation.{Activation}
use Rattle.trace_model.specs.Activations.{backs, count_ending, open_calls}
use Rattle.trace_model.specs.Sizes.{before}
use Rattle.trace_model.proofs.Ended.{open_calls_begun}
use Rattle.trace_model.proofs.Positions.{before_all, before_more}

-- an event begins one activation at most, which stands at the position
begun_if : (b : Bool) (e : Event) (past : List Event) (t : ℕ) (first a : Activation) (calls : List Activation) → first.at ≡ length past
    → open_calls (e ∷ past) t ≡ cond b (first ∷ []) [] ++ calls
    → ((j : ℕ) → j < length calls → drop j calls ≡ open_calls (before past ((get_or calls j a).at + 1)) t × ((get_or calls j a).at + 1 ≤ length past))
    → (i : ℕ) → i < length (cond b (first ∷ []) [] ++ calls)
    → drop i (cond b (first ∷ []) [] ++ calls) ≡ open_calls (before (e ∷ past) ((get_or (cond b (first ∷ []) [] ++ calls) i a).at + 1)) t
begun_if true e past t first a calls at is rest zero inside =
    let all : length (e ∷ past) ≤ first.at + 1 = omega (arith, at) in
    sym is ∙ sym (ap (λ h. open_calls h t) (before_all (e ∷ past) (first.at + 1) all))
begun_if true e past t first a calls at is rest (suc i) inside =
    let one = rest i (omega (arith, inside)) in
    one.0 ∙ sym (ap (λ h. open_calls h t) (before_more e past ((get_or calls i a).at + 1) one.1))
begun_if false e past t first a calls at is rest i inside =
    let one = rest i inside in
    one.0 ∙ sym (ap (λ h. open_calls h t) (before_more e past ((get_or calls i a).at + 1) one.1))

module _ (t : ℕ) (a : Activation) where
  abbrev IsBegunSo : List Event → List Activation → ℕ → Type 0
  IsBegunSo past calls i = drop i calls ≡ open_calls (before past ((get_or calls i a).at + 1)) t

  -- what an event leaves of the calls stands as it stood
  left_so : (past : List Event) (k : ℕ) → ((i : ℕ) → i < length (open_calls past t) → IsBegunSo past (open_calls past t) i)
      → (j : ℕ) → j < length (drop k (open_calls past t))
      → IsBegunSo past (drop k (open_calls past t)) j × ((get_or (drop k (open_calls past t)) j a).at + 1 ≤ length past)
  left_so past k so j inside =
      let calls = open_calls past t in
      let in_all : k + j < length calls = omega (arith, inside, length-drop k calls) in
      let here : get_or (drop k calls) j a ≡ get_or calls (k + j) a = get_or-drop k calls j a in
      let low : (get_or calls (k + j) a).at < length past = All-get_or (λ (b : Activation). b.at < length past) calls (k + j) a in_all (open_calls_begun past t) in (
        drop-drop j k calls ∙ so (k + j) in_all ∙ ap (λ (b : Activation). open_calls (before past (b.at + 1)) t) (sym here),
        omega (arith, low, ap (λ (b : Activation). b.at) here),
      )

  abbrev none : ℕ → Activation
  none at = record { at = at; entry = 0; back = None }

  pub begun_so : (past : List Event) (i : ℕ) → i < length (open_calls past t) → IsBegunSo past (open_calls past t) i
  begun_so [] i inside = absurd (omega (arith, inside))
  begun_so (Start tid entry ∷ past) i inside =
      begun_if (eqb tid t) (Start tid entry) past t (record { at = length past; entry = entry; back = None }) a (drop 0 (open_calls past t)) refl refl (left_so past 0 (begun_so past)) i inside
  begun_so (Call tid entry back ∷ past) i inside =
      begun_if (eqb tid t) (Call tid entry back) past t (record { at = length past; entry = entry; back = Some back }) a (drop 0 (open_calls past t)) refl refl (left_so past 0 (begun_so past)) i inside
  begun_so (Ret tid target ∷ past) i inside =
      let k = count_ending (Ret tid target) t (backs (open_calls past t)) in
      begun_if false (Ret tid target) past t (none (length past)) a (drop k (open_calls past t)) refl refl (left_so past k (begun_so past)) i inside
  begun_so (End tid ∷ past) i inside =
      let k = count_ending (End tid) t (backs (open_calls past t)) in
      begun_if false (End tid) past t (none (length past)) a (drop k (open_calls past t)) refl refl (left_so past k (begun_so past)) i inside
  begun_so (Step tid ∷ past) i inside = begun_if false (Step tid) past t (none (length past)) a (drop 0 (open_calls past t)) refl refl (left_so past 0 (begun_so past)) i inside
  begun_so (Read tid first count ∷ past) i inside = begun_if false (Read tid first count) past t (none (length past)) a (drop 0 (open_calls past t)) refl refl (left_so past 0 (begun_so past)) i inside
  begun_so (Write tid first count ∷ past) i inside = begun_if false (Write tid first count) past t (none (length past)) a (drop 0 (open_calls past t)) refl refl (left_so past 0 (begun_so past)) i inside
  begun_so (Fill first count ∷ past) i inside = begun_if false (Fill first count) past t (none (length past)) a (drop 0 (open_calls past t)) refl refl (left_so past 0 (begun_so past)) i inside

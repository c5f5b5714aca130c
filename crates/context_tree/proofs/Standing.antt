-- The contexts of every run can be numbered, each by the one above it and its last entry.
use Rattle.std.proofs.Common.{◌≡◌, ℕ, suc, ◌<◌, Bool, true, false, cond, List, [], ◌∷◌, ◌++◌, length, get_or, drop, Some, None, refl, sym, ap, ◌∙◌, subst, arith}
use Rattle.std.specs.Cmp.Lexicographic.{told_text}
use Rattle.std.specs.Prelude.{nat_eq}
use Rattle.std.specs.List.{position_or_len}
use Rattle.std.proofs.lemmas.Bool.Decides.{nat_tests}
use Rattle.std.proofs.lemmas.List.Sums.{passes_at_first}
use Rattle.trace_model.specs.declared.event_kinds.Event.{Event}
use Rattle.trace_model.specs.declared.event_kinds.Event.TheVariants.{Call, Start}
use Rattle.trace_model.specs.declared.activations.Activation.{Activation}
use Rattle.trace_model.specs.Activations.{open_calls}
use Rattle.context_tree.specs.Contexts.{context_of, contexts, same, with_context}
use Rattle.context_tree.specs.Numbers.{IsNumberOf, NumbersStandFor, numbered, with_place}
use Rattle.context_tree.proofs.Following.{context_more}
use Rattle.context_tree.proofs.Known.{IsKnown, open_known}
use Rattle.context_tree.proofs.Numbering.{none_stand, stands_with, within_any}

-- There are places that stand for them.
pub record HavePlaces (known : List (List ℕ)) : Type 0 where
  pub places : List (ℕ × ℕ)
  pub stands : NumbersStandFor places known

record HasNumber (known : List (List ℕ)) (c : List ℕ) : Type 0 where
  n : ℕ
  is : IsNumberOf known n c

-- a context that is known has a number
known_number : (known : List (List ℕ)) (c : List ℕ) → IsKnown known c → HasNumber known c
known_number known c is =
    let lt : position_or_len (same c) known < length known = within_any (same c) known is in
    let found : same c (get_or known (position_or_len (same c) known) []) ≡ true = passes_at_first (same c) known [] lt in
    record {
      n = suc (position_or_len (same c) known);
      is = record { within = omega (arith, lt); there = sym (told_text c (get_or known (position_or_len (same c) known) []) true (sym found)) };
    }

-- that of open activations is known, unless there are none
calls_number : (known : List (List ℕ)) (calls : List Activation) → ((k : ℕ) → k < length calls → IsKnown known (context_of (drop k calls))) → HasNumber known (context_of calls)
calls_number known [] are = record { n = 0; is = record { within = omega arith; there = refl } }
calls_number known (a ∷ calls) are = known_number known (context_of (a ∷ calls)) (are 0 (omega arith))

begun_places : (known : List (List ℕ)) (c above : List ℕ) (entry : ℕ) → HavePlaces known → HasNumber known above → c ≡ above ++ entry ∷ [] → HavePlaces (with_context known c)
begun_places known c above entry have number is =
    let there : c ≡ numbered known number.n ++ entry ∷ [] = is ∙ ap (λ b. b ++ entry ∷ []) (sym number.is.there) in
    record {
      places = with_place have.places (number.n, entry);
      stands = subst (λ b. NumbersStandFor (with_place have.places (number.n, entry)) (with_context known b)) (sym there)
          (stands_with have.places known have.stands number.n entry number.is.within (with_place have.places (number.n, entry)) refl);
    }

own : (t : ℕ) → nat_eq t t ≡ true
own t = grind (arith, nat_tests)

begun_more : (b : Bool) (a : Activation) (calls : List Activation) → b ≡ true → context_of (cond b (a ∷ []) [] ++ calls) ≡ context_of calls ++ a.entry ∷ []
begun_more true a calls is = context_more a calls
begun_more false a calls is = absurd (cc)

pub have_places : (past : List Event) → HavePlaces (contexts past)
have_places [] = record { places = []; stands = none_stand }
have_places (Start tid entry ∷ past) =
    begun_places (contexts past) (context_of (open_calls (Start tid entry ∷ past) tid)) (context_of (open_calls past tid)) entry (have_places past)
    (calls_number (contexts past) (open_calls past tid) (open_known past tid))
    (begun_more (nat_eq tid tid) (record { at = length past; entry = entry; back = None }) (open_calls past tid) (own tid))
have_places (Call tid entry back ∷ past) =
    begun_places (contexts past) (context_of (open_calls (Call tid entry back ∷ past) tid)) (context_of (open_calls past tid)) entry (have_places past)
    (calls_number (contexts past) (open_calls past tid) (open_known past tid))
    (begun_more (nat_eq tid tid) (record { at = length past; entry = entry; back = Some back }) (open_calls past tid) (own tid))
have_places (_ ∷ past) = have_places past

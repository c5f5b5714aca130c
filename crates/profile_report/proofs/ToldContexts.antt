-- The contexts that were told so far.
use Rattle.std.proofs.Common.{◌≡◌, ℕ, suc, ◌+◌, ◌-◌, ◌<◌, List, [], ◌∷◌, ◌++◌, length, get_or, take, Option, Some, None, refl, sym, ap, ap₂, ◌∙◌, arith, append_assoc, length-append}
use Rattle.std.specs.Prelude.{codes}
use Rattle.std.specs.List.{flat_map}
use Rattle.std.specs.Option.{IsSome}
use Rattle.std.proofs.lemmas.List.{flat_map_more, take_more}
use Rattle.std.proofs.Math.Seq.{get_or-append_seam}
use Rattle.trace_model.specs.declared.event_kinds.Event.{Event}
use Rattle.cost_points.specs.declared.point.Point.{Point}
use Rattle.profile_report.specs.LineForms.{ended, labelled, point_line}
use Rattle.context_tree.specs.Numbers.{NumbersStandFor, numbered}
use Rattle.context_tree.specs.Order.{IsFollowedBy, IsInOrder}
use Rattle.context_tree.specs.Trees.{IsShown}
use Rattle.context_tree.proofs.Listed.{as_long, first_listed, next_listed, next_there, some_entries, some_first}
use Rattle.profile_report.specs.ContextText.{context_line, context_text, contexts_text}

-- the number is that of the context at the place
pub record StandsAt (known ordered : List (List ℕ)) (k : ℕ) (o : Option ℕ) : Type 0 where
  pub number : ℕ
  pub is : o ≡ Some number
  pub there : numbered known number ≡ get_or ordered k []

not_none : (o : Option ℕ) → IsSome o → o ≡ None → ⊥
not_none None is none = absurd (cc)
not_none (Some n) is none = absurd (cc)

pub stands_first : (places : List (ℕ × ℕ)) (known ordered : List (List ℕ)) → NumbersStandFor places known → IsInOrder known ordered → (o : Option ℕ) → IsFollowedBy known [] o → 0 < length ordered → StandsAt known ordered 0 o
stands_first places known ordered stands in_order None next some =
    absurd (not_none None (some_first places known stands (omega (arith, some, as_long known ordered in_order)) None next) refl)
stands_first places known ordered stands in_order (Some n) next some = record {
  number = n;
  is = refl;
  there = first_listed known ordered in_order n some (some_entries places known stands) next;
}

pub stands_next : (known ordered : List (List ℕ)) → IsInOrder known ordered → (k n : ℕ) (o : Option ℕ) → numbered known n ≡ get_or ordered k [] → IsFollowedBy known (numbered known n) o → k + 1 < length ordered → StandsAt known ordered (k + 1) o
stands_next known ordered in_order k n None is next some = absurd (next_there known ordered in_order k n (omega (arith, some)) is next)
stands_next known ordered in_order k n (Some m) is next some =
    let one : suc k ≡ k + 1 = omega arith in
    record {
      number = m;
      is = refl;
      there = next_listed known ordered in_order k n m (omega (arith, some)) is next ∙ ap (λ j. get_or ordered j []) one;
    }

-- one context more
pub told_more : (past : List Event) (ordered : List (List ℕ)) (first old new : List ℕ) (k : ℕ) (c : List ℕ) → k < length ordered → old ≡ first ++ flat_map (context_text past) (take k ordered) →
    c ≡ get_or ordered k [] → new ≡ old ++ context_text past c → new ≡ first ++ flat_map (context_text past) (take (k + 1) ordered)
told_more past ordered first old new k c lt are is more =
    more ∙ ap₂ (λ us d. us ++ context_text past d) are is ∙ flat_map_more (context_text past) first (take k ordered) (get_or ordered k [])
    ∙ ap (λ cs. first ++ flat_map (context_text past) cs) (sym (take_more ordered k [] lt))

-- the lines of a context
pub lines_of : (past : List Event) (c : List ℕ) (depth entry : ℕ) (points : List Point) → IsShown past c depth entry points → (first : List ℕ) →
    (first ++ ended (context_line depth entry)) ++ flat_map (λ p. ended (point_line p)) points ≡ first ++ context_text past c
lines_of past c depth entry points shown first =
    let long : length c ≡ length shown.front + 1 = ap length shown.entry_is ∙ length-append shown.front (entry ∷ []) in
    let deep : depth ≡ length c - 1 = omega (arith, shown.depth_is) in
    let place : length c - 1 ≡ length shown.front = omega (arith, long) in
    let last : entry ≡ get_or c (length c - 1) 0 =
    sym (ap₂ (λ d i. get_or d i 0) shown.entry_is place ∙ get_or-append_seam shown.front entry [] 0)
    in
    append_assoc first (ended (context_line depth entry)) (flat_map (λ p. ended (point_line p)) points)
    ∙ ap₂ (λ a b. first ++ (a ++ flat_map (λ p. ended (point_line p)) b)) (ap₂ (λ a b. ended (context_line a b)) deep last) shown.points_are

-- what is kept as the next is the one at the place
pub same_context : (known ordered : List (List ℕ)) (k : ℕ) (o : Option ℕ) (n : ℕ) → o ≡ Some n → StandsAt known ordered k o → numbered known n ≡ get_or ordered k []
same_context known ordered k o n is at =
    let both : Some n ≡ Some at.number = sym is ∙ at.is in
    let same : n ≡ at.number = cc in
    ap (numbered known) same ∙ at.there

pub none_some : (o : Option ℕ) (n : ℕ) → o ≡ None → o ≡ Some n → ⊥
none_some o n none some = let both : None ≡ Some n = sym none ∙ some in absurd (cc)

-- the whole text
pub whole_text : (past : List Event) (ordered : List (List ℕ)) (first one two : List ℕ) (n : ℕ) → one ≡ first ++ ended (codes "contexts 1") → two ≡ one ++ flat_map (context_text past) ordered → n ≡ length ordered →
    two ++ ended (labelled (codes "done ") n) ≡ first ++ contexts_text past ordered
whole_text past ordered first one two n starts goes counts =
    ap₂ (λ us k. us ++ ended (labelled (codes "done ") k)) (goes ∙ ap (λ us. us ++ flat_map (context_text past) ordered) starts) counts
    ∙ append_assoc (first ++ ended (codes "contexts 1")) (flat_map (context_text past) ordered) (ended (labelled (codes "done ") (length ordered)))
    ∙ append_assoc first (ended (codes "contexts 1")) (flat_map (context_text past) ordered ++ ended (labelled (codes "done ") (length ordered)))

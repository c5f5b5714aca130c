-- The contexts one after the other, as the text has them.
use Rattle.std.proofs.Common.{◌≡◌, ℕ, zero, suc, ◌+◌, ◌-◌, ◌<◌, ◌≤◌, true, false, ◌⊎◌, inl, inr, List, [], ◌∷◌, length, get_or, Option, Some, None, refl, sym, ap, ap₂, ◌∙◌, subst, arith, length-append}
use Rattle.std.specs.List.{Contains}
use Rattle.std.specs.Option.{IsSome, unwrap_or}
use Rattle.std.proofs.lemmas.Bool.{cases_eq, cases_lt}
use Rattle.std.proofs.lemmas.List.{get_or_default}
use Rattle.std.proofs.lemmas.List.Sorted.{Contains-permutation, IsPermutation-sym, length_permutation}
use Rattle.context_tree.specs.declared.order.Links.{Links}
use Rattle.context_tree.specs.Links.{IsLinked, links_at}
use Rattle.context_tree.specs.Numbers.{NumbersStandFor, numbered}
use Rattle.context_tree.specs.Order.{IsFollowedBy, IsInOrder, is_before, numbers_down_to}
use Rattle.context_tree.proofs.Before.{before_asym, before_self}

-- ---- how many entries
pub depth_is : (places : List (ℕ × ℕ)) (known : List (List ℕ)) (links : List Links) → NumbersStandFor places known → IsLinked places links → (most n : ℕ) → n ≤ most → n ≤ length known →
    (links_at links n).depth ≡ length (numbered known n)
depth_is places known links stands linked most zero le within = linked.none
depth_is places known links stands linked zero (suc i) le within = absurd (omega (arith, le))
depth_is places known links stands linked (suc most) (suc i) le within =
    let at : suc i - 1 ≡ i = omega arith in
    let inside : i < length known = omega (arith, within) in
    let up = (get_or places i (0, 0)).0 in
    let up_le = stands.above i inside in
    let here : (links_at links (suc i)).depth ≡ (links_at links (get_or places i (0, 0)).0).depth + 1 =
    linked.depth (suc i) (omega arith) (omega (arith, within, stands.long)) ∙ ap (λ j. (links_at links (get_or places j (0, 0)).0).depth + 1) at
    in
    let above : (links_at links (get_or places i (0, 0)).0).depth ≡ length (numbered known (get_or places i (0, 0)).0) =
    depth_is places known links stands linked most (get_or places i (0, 0)).0 (omega (arith, le, up_le)) (omega (arith, up_le, inside))
    in
    omega (arith, here, above, ap length (stands.each i inside), length-append (numbered known (get_or places i (0, 0)).0) ((get_or places i (0, 0)).1 ∷ []))

-- ---- a list in the order of the text
module _ (known ordered : List (List ℕ)) (in_order : IsInOrder known ordered) where
  abbrev key : List ℕ → List ℕ
  key c = numbers_down_to known c

  pub as_long : length ordered ≡ length known
  as_long = length_permutation known ordered in_order.all

  sorted : (i j : ℕ) → i < j → j < length ordered → is_before (key (get_or ordered i [])) (key (get_or ordered j [])) ≡ true
  sorted i j less lt = in_order.order i j [] less lt

  -- each of them has a number
  pub record HasNumber (c : List ℕ) : Type 0 where
    pub number : ℕ
    pub some : 1 ≤ number
    pub within : number ≤ length known
    pub is : numbered known number ≡ c

  number_of : (i : ℕ) → i < length ordered → HasNumber (get_or ordered i [])
  number_of i lt =
      let there : Contains known (get_or ordered i []) = Contains-permutation ordered known (get_or ordered i []) (IsPermutation-sym known ordered in_order.all)
      (i, lt, get_or_default ordered i (get_or ordered i []) [] lt)
      in
      record {
        number = suc there.0;
        some = omega arith;
        within = omega (arith, there.1);
        is = get_or_default known there.0 [] (get_or ordered i []) there.1 ∙ there.2;
      }

  -- and each number is of one of them
  pub record IsThere (c : List ℕ) : Type 0 where
    pub place : ℕ
    pub within : place < length ordered
    pub is : get_or ordered place [] ≡ c

  place_of : (n : ℕ) → 1 ≤ n → n ≤ length known → IsThere (numbered known n)
  place_of zero some within = absurd (omega (arith, some))
  place_of (suc i) some within =
      let inside : i < length known = omega (arith, within) in
      let there : Contains ordered (get_or known i []) = Contains-permutation known ordered (get_or known i []) in_order.all (i, inside, get_or_default known i (get_or known i []) [] inside) in
      record {
        place = there.0;
        within = there.1;
        is = get_or_default ordered there.0 [] (get_or known i []) there.1 ∙ there.2;
      }

  -- the one at a place follows what comes before it and not before all that stand there
  follows_at : (c : List ℕ) (k n : ℕ) → k < length ordered → is_before (key c) (key (get_or ordered k [])) ≡ true →
      ((j : ℕ) → j < length ordered → is_before (key c) (key (get_or ordered j [])) ≡ true → k ≤ j) → IsFollowedBy known c (Some n) → numbered known n ≡ get_or ordered k []
  follows_at c k n lt after least next = by (next.3 own.number own.some own.within (ap (λ d. is_before (key c) (key d)) own.is ∙ after))
    where
      own : HasNumber (get_or ordered k [])
      own = number_of k lt

      there : IsThere (numbered known n)
      there = place_of n next.0 next.1

      by : (n ≡ own.number) ⊎ (is_before (key (numbered known n)) (key (numbered known own.number)) ≡ true) → numbered known n ≡ get_or ordered k []
      by (inl same) = ap (numbered known) same ∙ own.is
      by (inr before) =
          let at_least = least there.place there.within (ap (λ d. is_before (key c) (key d)) there.is ∙ next.2) in
          elim (cases_eq there.place k) [
            | inl same ↦ sym there.is ∙ ap (λ j. get_or ordered j []) same
            | inr other ↦
                let less : is_before (key (get_or ordered k [])) (key (numbered known n)) ≡ true =
                ap (λ d. is_before (key (get_or ordered k [])) (key d)) (sym there.is) ∙ sorted k there.place (omega (arith, at_least, other)) there.within
                in
                absurd (before_asym (key (numbered known n)) (key (get_or ordered k [])) (sym (ap (λ d. is_before (key (numbered known n)) (key d)) own.is) ∙ before) less)
          ]

  -- what comes after one at a place comes at a later one
  later_at : (k j : ℕ) → k < length ordered → is_before (key (get_or ordered k [])) (key (get_or ordered j [])) ≡ true → suc k ≤ j
  later_at k j lt after = elim (cases_lt k j) [
    | inl less ↦ omega (arith, less)
    | inr le ↦
        elim (cases_eq j k) [
          | inl same ↦
              let self : is_before (key (get_or ordered k [])) (key (get_or ordered j [])) ≡ false = ap (λ i. is_before (key (get_or ordered k [])) (key (get_or ordered i []))) same ∙ before_self (key (get_or ordered k [])) in
              absurd (cc)
          | inr other ↦ absurd (before_asym (key (get_or ordered k [])) (key (get_or ordered j [])) after (sorted j k (omega (arith, le, other)) lt))
        ]
  ]

  pub next_listed : (k n m : ℕ) → suc k < length ordered → numbered known n ≡ get_or ordered k [] → IsFollowedBy known (numbered known n) (Some m) → numbered known m ≡ get_or ordered (suc k) []
  next_listed k n m lt is next =
      let from = subst (λ c. IsFollowedBy known c (Some m)) is next in
      follows_at (get_or ordered k []) (suc k) m lt (sorted k (suc k) (omega arith) lt) (λ j j_in after. later_at k j (omega (arith, lt)) after) from

  pub next_there : (k n : ℕ) → suc k < length ordered → numbered known n ≡ get_or ordered k [] → IsFollowedBy known (numbered known n) None → ⊥
  next_there k n lt is none =
      let own = number_of (suc k) lt in
      none own.number own.some own.within (ap₂ (λ c d. is_before (key c) (key d)) is own.is ∙ sorted k (suc k) (omega arith) lt)

  -- the first one
  pub first_listed : (n : ℕ) → 1 ≤ length ordered → ((m : ℕ) → 1 ≤ m → m ≤ length known → 1 ≤ length (numbered known m)) → IsFollowedBy known [] (Some n) → numbered known n ≡ get_or ordered 0 []
  first_listed n some entries next =
      let own = number_of 0 some in
      follows_at [] 0 n some (before_any (get_or ordered 0 []) (subst (λ (c : List ℕ). 1 ≤ length c) own.is (entries own.number own.some own.within))) (λ j j_in after. omega arith) next
    where
      before_any : (c : List ℕ) → 1 ≤ length c → is_before (key []) (key c) ≡ true
      before_any [] long = absurd (omega (arith, long))
      before_any (x ∷ c) long = refl

-- the context with no entry comes before the others
pub before_all : (known : List (List ℕ)) (c : List ℕ) → 1 ≤ length c → is_before (numbers_down_to known []) (numbers_down_to known c) ≡ true
before_all known [] some = absurd (omega (arith, some))
before_all known (x ∷ c) some = refl

pub some_entries : (places : List (ℕ × ℕ)) (known : List (List ℕ)) → NumbersStandFor places known → (m : ℕ) → 1 ≤ m → m ≤ length known → 1 ≤ length (numbered known m)
some_entries places known stands zero some within = absurd (omega (arith, some))
some_entries places known stands (suc i) some within =
    omega (arith, ap length (stands.each i (omega (arith, within))), length-append (numbered known (get_or places i (0, 0)).0) ((get_or places i (0, 0)).1 ∷ []))

-- where there is a context, one comes first
pub some_first : (places : List (ℕ × ℕ)) (known : List (List ℕ)) → NumbersStandFor places known → 1 ≤ length known → (o : Option ℕ) → IsFollowedBy known [] o → IsSome o
some_first places known stands some (Some n) next = refl
some_first places known stands some None none =
    absurd (none 1 (omega arith) some (before_all known (numbered known 1) (some_entries places known stands 1 (omega arith) some)))

-- one that follows is one of them
pub follower_some : (known : List (List ℕ)) (c : List ℕ) (o : Option ℕ) (n : ℕ) → IsFollowedBy known c o → o ≡ Some n → (1 ≤ n) × (n ≤ length known)
follower_some known c o n next is = let some : IsFollowedBy known c (Some n) = subst (IsFollowedBy known c) is next in (some.0, some.1)

-- the one that follows, or the same where none does
pub follower_in : (known : List (List ℕ)) (c : List ℕ) (o : Option ℕ) (n : ℕ) → 1 ≤ n → n ≤ length known → IsFollowedBy known c o → (1 ≤ unwrap_or o n) × (unwrap_or o n ≤ length known)
follower_in known c None n some within next = (some, within)
follower_in known c (Some m) n some within next = (next.0, next.1)

pub follower_listed : (known ordered : List (List ℕ)) → IsInOrder known ordered → (k n : ℕ) (o : Option ℕ) → k + 1 < length ordered → numbered known n ≡ get_or ordered k [] → IsFollowedBy known (numbered known n) o →
    numbered known (unwrap_or o n) ≡ get_or ordered (k + 1) []
follower_listed known ordered in_order k n None lt is none = absurd (next_there known ordered in_order k n (omega (arith, lt)) is none)
follower_listed known ordered in_order k n (Some m) lt is next =
    let one : suc k ≡ k + 1 = omega arith in
    next_listed known ordered in_order k n m (omega (arith, lt)) is next ∙ ap (λ j. get_or ordered j []) one

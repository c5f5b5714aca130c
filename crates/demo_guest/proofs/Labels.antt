-- The labels of the routines and their bindings.
use Rattle.std.proofs.Common.{◌≡◌, ◌≢◌, ℕ, ◌+◌, ◌<◌, ◌≤◌, List, [], ◌∷◌, ◌++◌, length, set, get_or, None, Some, Option, ap, ◌∙◌, arith, below_more}
use Rattle.std.specs.List.{range_with_len}
use Rattle.std.proofs.lemmas.Grind.{common_steps}
use Rattle.std.proofs.lemmas.List.{get_or-set_same, get_or-set_other}
use Rattle.std.proofs.lemmas.List.FromFn.{get_or-range_with_len, length-range_with_len}
use Rattle.demo_guest.specs.Guest.{routine_start}
use Rattle.demo_guest.specs.Private.Drafts.{AreRoutines}

-- which label is at a place
pub label_number : (labels : List ℕ) (k x : ℕ) → labels ≡ range_with_len 2 (length labels) → k < length labels → x ≡ get_or labels k x → x ≡ 2 + k
label_number labels k x all inside is =
    is ∙ ap (λ (ls : List ℕ). get_or ls k x) all ∙ get_or-range_with_len 2 (length labels) k x inside

-- each label is one of those that were made
pub labels_within : (n k d : ℕ) → k < length (range_with_len 2 n) → get_or (range_with_len 2 n) k d < 2 + n
labels_within n k d inside =
    let small : k < n = omega (arith, length-range_with_len 2 n) in
    omega (arith, get_or-range_with_len 2 n k d small)

-- one more label, which is not bound
pub none_more : (bindings : List (Option ℕ)) → ((k : ℕ) → get_or bindings k None ≡ None) → (k : ℕ) → get_or (bindings ++ None ∷ []) k None ≡ None
none_more bindings each k = grind (arith, common_steps, each k)

module _ (routines bound : ℕ) (bindings : List (Option ℕ)) (inside : 2 + bound < length bindings) where
  abbrev pub after : List (Option ℕ)
  after = set bindings (2 + bound) (Some (routine_start routines bound))

  other : (k : ℕ) → k ≢ 2 + bound → get_or after k None ≡ get_or bindings k None
  other k apart = get_or-set_other bindings (2 + bound) k (Some (routine_start routines bound)) None apart

  -- one more label that is bound
  pub bound_more : AreRoutines routines bound bindings → AreRoutines routines (bound + 1) after
  bound_more before =
      below_more (λ (k : ℕ). get_or after (2 + k) None ≡ Some (routine_start routines k)) bound
      (λ k h. other (2 + k) (λ same. omega arith) ∙ before k h)
      (get_or-set_same bindings (2 + bound) (Some (routine_start routines bound)) None inside)

  pub unbound_rest : ((k : ℕ) → bound ≤ k → get_or bindings (2 + k) None ≡ None) → (k : ℕ) → bound + 1 ≤ k → get_or after (2 + k) None ≡ None
  unbound_rest before k above = other (2 + k) (λ same. omega arith) ∙ before k (omega arith)

  pub first_stays : get_or after 0 None ≡ get_or bindings 0 None
  first_stays = other 0 (λ same. omega arith)

  pub second_stays : get_or after 1 None ≡ get_or bindings 1 None
  second_stays = other 1 (λ same. omega arith)

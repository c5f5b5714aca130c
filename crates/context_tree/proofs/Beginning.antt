-- A context that begins: its place, its points and its links, by whether there is one number more.
use Rattle.std.proofs.Common.{◌≡◌, ℕ, ◌<◌, ◌≤◌, Bool, true, false, cond, List, [], ◌∷◌, ◌++◌, length, refl, ap, arith, length-append}
use Rattle.std.specs.List.{list_any}
use Rattle.cost_points.specs.declared.point.Point.{Point}
use Rattle.context_tree.specs.Contexts.{same, with_context}
use Rattle.context_tree.specs.Numbers.{same_place, with_place}
use Rattle.context_tree.specs.Private.Adding.{with_list}

-- ---- its place
added_by : (places new : List (ℕ × ℕ)) (p : ℕ × ℕ) (b : Bool) → new ≡ cond b places (places ++ p ∷ []) → length places < length new → new ≡ places ++ p ∷ []
added_by places new p true is more = absurd (omega (arith, ap length is, more))
added_by places new p false is more = is

pub place_added : (places new : List (ℕ × ℕ)) (p : ℕ × ℕ) → new ≡ with_place places p → length places < length new → new ≡ places ++ p ∷ []
place_added places new p is more = added_by places new p (list_any (same_place p) places) is more

there_by : (places new : List (ℕ × ℕ)) (p : ℕ × ℕ) (b : Bool) → new ≡ cond b places (places ++ p ∷ []) → length new ≤ length places → new ≡ places
there_by places new p true is few = is
there_by places new p false is few = absurd (omega (arith, ap length is, few, length-append places (p ∷ [])))

pub place_there : (places new : List (ℕ × ℕ)) (p : ℕ × ℕ) → new ≡ with_place places p → length new ≤ length places → new ≡ places
place_there places new p is few = there_by places new p (list_any (same_place p) places) is few

-- ---- its points
points_added_by : (contexts : List (List ℕ)) (c : List ℕ) (old new : List (List Point)) (n : ℕ) (b : Bool) → n ≡ length (cond b contexts (contexts ++ c ∷ [])) → length contexts < n → new ≡ old ++ [] ∷ [] → new ≡ with_list b old
points_added_by contexts c old new n true is more grown = absurd (omega (arith, is, more))
points_added_by contexts c old new n false is more grown = grown

pub points_added : (contexts : List (List ℕ)) (c : List ℕ) (old new : List (List Point)) (n : ℕ) → n ≡ length (with_context contexts c) → length contexts < n → new ≡ old ++ [] ∷ [] → new ≡ with_list (list_any (same c) contexts) old
points_added contexts c old new n is more grown = points_added_by contexts c old new n (list_any (same c) contexts) is more grown

points_there_by : (contexts : List (List ℕ)) (c : List ℕ) (old : List (List Point)) (n : ℕ) (b : Bool) → n ≡ length (cond b contexts (contexts ++ c ∷ [])) → n ≤ length contexts → old ≡ with_list b old
points_there_by contexts c old n true is few = refl
points_there_by contexts c old n false is few = absurd (omega (arith, is, few, length-append contexts (c ∷ [])))

pub points_there : (contexts : List (List ℕ)) (c : List ℕ) (old : List (List Point)) (n : ℕ) → n ≡ length (with_context contexts c) → n ≤ length contexts → old ≡ with_list (list_any (same c) contexts) old
points_there contexts c old n is few = points_there_by contexts c old n (list_any (same c) contexts) is few

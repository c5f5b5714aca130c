-- The new stamps of a block.
use Rattle.std.proofs.Common.{◌≡◌, ℕ, ◌+◌, ◌*◌, ◌%◌, ◌<◌, ◌≤◌, All, Bool, cond, List, [], ◌∷◌, length, map, nat_lt, nat_eq, refl, ap, ap₂, sym, subst, ◌∙◌, arith, get_or, take, drop, true, false, suc}
use Rattle.std.proofs.lemmas.Bool.Decides.{nat_tests}
use Rattle.std.proofs.lemmas.List.{get_or-map, length-map}
use Rattle.std.proofs.lemmas.Simd.{get_or-chunk, length-chunk, zip2_of_maps}
use Rattle.std.proofs.Math.Nat.{mod-eq_of_lt}
use Rattle.std.specs.Simd.Lanes.{sel_l, zip2}
use Rattle.stamp_lanes.specs.Plain.{Renewal, rank, renewed}
use Rattle.stamp_lanes.proofs.Mapped.{chosen}

few_ranks : (k l o w : ℕ) → cond (nat_eq k l) (rank o w) 0 ≤ 2
few_ranks k l o w = grind (arith, nat_tests)

triple : (k top : ℕ) → 3 * k + 2 ≤ top → ((k + k) % (top + 1) + k) % (top + 1) ≡ 3 * k
triple k top room =
    let small : k + k < top + 1 = omega arith in
    let small2 : k + k + k < top + 1 = omega arith in
    let three : k + k + k ≡ 3 * k = omega arith in
    ap (λ n. (n + k) % (top + 1)) (mod-eq_of_lt small) ∙ (mod-eq_of_lt small2 ∙ three)

-- a lane's sum is that of its numbers
renewed_lane : (top : ℕ) (r : Renewal) → 3 * r.own_class + 2 ≤ top
    → cond (nat_eq r.own 0) 0 ((((r.own_class + r.own_class) % (top + 1) + r.own_class) % (top + 1) + cond (nat_eq r.own_class r.write_class) (rank r.own r.write) 0) % (top + 1)) ≡ renewed r
renewed_lane top r room =
    let more = cond (nat_eq r.own_class r.write_class) (rank r.own r.write) 0 in
    let few : more ≤ 2 = few_ranks r.own_class r.write_class r.own r.write in
    let small : 3 * r.own_class + more < top + 1 = omega arith in
    ap (λ n. cond (nat_eq r.own 0) 0 n) (ap (λ n. (n + more) % (top + 1)) (triple r.own_class top room) ∙ mod-eq_of_lt small)

same_where : {V : Type 0} (f g : V → ℕ) (vs : List V) → All (λ v. f v ≡ g v) vs → map f vs ≡ map g vs
same_where f g [] h = refl
same_where f g (v ∷ vs) h =
    ap₂ (λ x xs. x ∷ xs) (h 0 v (omega arith)) (same_where f g vs (λ k d lt. h (suc k) d (omega arith)))

-- the lanes from which a block's new stamps are made
pub record RenewedLanes (rs : List Renewal) (os ks ws ls zeros ones twos : List ℕ) : Type 0 where
  pub own : os ≡ map (λ (r : Renewal). r.own) rs
  pub own_class : ks ≡ map (λ (r : Renewal). r.own_class) rs
  pub write : ws ≡ map (λ (r : Renewal). r.write) rs
  pub write_class : ls ≡ map (λ (r : Renewal). r.write_class) rs
  pub zeros_are : zeros ≡ map (λ (r : Renewal). 0) rs
  pub ones_are : ones ≡ map (λ (r : Renewal). 1) rs
  pub twos_are : twos ≡ map (λ (r : Renewal). 2) rs

pub renewed_lanes : (top : ℕ) (rs : List Renewal) (os ks ws ls zeros ones twos : List ℕ) → RenewedLanes rs os ks ws ls zeros ones twos → All (λ k. 3 * k + 2 ≤ top) ks
    → (double first at_least ranks in_class total result : List ℕ)
    → double ≡ zip2 (λ x y. (x + y) % (top + 1)) ks ks
    → first ≡ zip2 (λ x y. (x + y) % (top + 1)) double ks
    → at_least ≡ sel_l (zip2 nat_eq os ws) ones twos
    → ranks ≡ sel_l (zip2 nat_lt os ws) zeros at_least
    → in_class ≡ sel_l (zip2 nat_eq ks ls) ranks zeros
    → total ≡ zip2 (λ x y. (x + y) % (top + 1)) first in_class
    → result ≡ sel_l (zip2 nat_eq os zeros) zeros total
    → result ≡ map renewed rs
renewed_lanes top rs os ks ws ls zeros ones twos is room double first at_least ranks in_class total result a b d e f h j =
    let add : ℕ → ℕ → ℕ = λ x y. (x + y) % (top + 1) in
    let class : Renewal → ℕ = λ r. r.own_class in
    let doubled : double ≡ map (λ r. add (class r) (class r)) rs = a ∙ zip2_of_maps add class class rs is.own_class is.own_class in
    let tripled : first ≡ map (λ r. add (add (class r) (class r)) (class r)) rs = b ∙ zip2_of_maps add (λ r. add (class r) (class r)) class rs doubled is.own_class in
    let equal_or_above = chosen nat_eq (λ (r : Renewal). r.own) (λ r. r.write) (λ r. 1) (λ r. 2) rs is.own is.write is.ones_are is.twos_are d in
    let ranked : ranks ≡ map (λ (r : Renewal). rank r.own r.write) rs
    = chosen nat_lt (λ (r : Renewal). r.own) (λ r. r.write) (λ r. 0) (λ (r : Renewal). cond (nat_eq r.own r.write) 1 2) rs is.own is.write is.zeros_are equal_or_above e in
    let in_class_is : in_class ≡ map (λ (r : Renewal). cond (nat_eq r.own_class r.write_class) (rank r.own r.write) 0) rs
    = chosen nat_eq class (λ (r : Renewal). r.write_class) (λ (r : Renewal). rank r.own r.write) (λ r. 0) rs is.own_class is.write_class ranked is.zeros_are f in
    let totals : total ≡ map (λ (r : Renewal). add (add (add (class r) (class r)) (class r)) (cond (nat_eq r.own_class r.write_class) (rank r.own r.write) 0)) rs
    = h ∙ zip2_of_maps add (λ r. add (add (class r) (class r)) (class r)) (λ (r : Renewal). cond (nat_eq r.own_class r.write_class) (rank r.own r.write) 0) rs tripled in_class_is in
    let size : length ks ≡ length rs = ap length is.own_class ∙ length-map rs class in
    chosen nat_eq (λ (r : Renewal). r.own) (λ r. 0) (λ r. 0) (λ (r : Renewal). add (add (add (class r) (class r)) (class r)) (cond (nat_eq r.own_class r.write_class) (rank r.own r.write) 0)) rs
    is.own is.zeros_are is.zeros_are totals j
    ∙ same_where _ renewed rs (λ k r lt.
    let lt2 : k < length ks = omega arith in
    let at : get_or ks k (class r) ≡ class (get_or rs k r) = ap (λ l. get_or l k (class r)) is.own_class ∙ get_or-map class rs k r (class r) lt in
    renewed_lane top (get_or rs k r) (subst (λ (n : ℕ). 3 * n + 2 ≤ top) at (room k (class r) lt2)))

-- what all classes leave room for, those of a block do
pub room_part : (top : ℕ) (ks lanes : List ℕ) (at : ℕ) → at + 16 ≤ length ks → lanes ≡ take 16 (drop at ks) → All (λ k. 3 * k + 2 ≤ top) ks → All (λ k. 3 * k + 2 ≤ top) lanes
room_part top ks lanes at within is room k d lt =
    let size : length lanes ≡ 16 = ap length is ∙ length-chunk at 16 ks within in
    let small : k < 16 = omega arith in
    let inside : at + k < length ks = omega arith in
    let same : get_or lanes k d ≡ get_or ks (at + k) d = ap (λ l. get_or l k d) is ∙ get_or-chunk at 16 ks k d small in
    subst (λ (n : ℕ). 3 * n + 2 ≤ top) (sym same) (room (at + k) d inside)

-- a class takes room for three
pub three_fit : (top : ℕ) (ks : List ℕ) (at : ℕ) → at < length ks → All (λ k. 3 * k + 2 ≤ top) ks → 2 ≤ top
three_fit top ks at lt room = let here = room at 0 lt in omega arith

pub renewed_fits : (top : ℕ) (r : Renewal) → 3 * r.own_class + 2 ≤ top → renewed r ≤ top
renewed_fits top r room =
    let few = few_ranks r.own_class r.write_class r.own r.write in
    let most : 3 * r.own_class + cond (nat_eq r.own_class r.write_class) (rank r.own r.write) 0 ≤ top = omega arith in
    chosen_most (nat_eq r.own 0) (3 * r.own_class + cond (nat_eq r.own_class r.write_class) (rank r.own r.write) 0) most
  where
    chosen_most : (b : Bool) (n : ℕ) → n ≤ top → cond b 0 n ≤ top
    chosen_most true n le = omega arith
    chosen_most false n le = le

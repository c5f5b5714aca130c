-- The classes of stamps, start by start.
use Rattle.std.proofs.Common.{◌≡◌, ℕ, ◌+◌, ◌%◌, ◌<◌, ◌≤◌, List, [], ◌∷◌, ◌++◌, length, map, cond, replicate, nat_lt, nat_le, count_by, arith, ap, sym, ◌∙◌, add_assoc}
use Rattle.std.proofs.lemmas.List.{map-id}
use Rattle.std.proofs.lemmas.List.Sums.{count_by-le-length, fold-append}
use Rattle.std.proofs.lemmas.Bool.Decides.{nat_tests}
use Rattle.std.proofs.lemmas.Simd.{zip2_of_maps}
use Rattle.std.proofs.Math.Nat.{mod-eq_of_lt}
use Rattle.std.specs.Simd.Lanes.{sel_l, zip2}
use Rattle.stamp_lanes.specs.Plain.{class_of}
use Rattle.stamp_lanes.proofs.Mapped.{chosen, same_map, splatted}

at_most_test : (s v : ℕ) → ◌≡◌ {A = ℕ} (cond (nat_lt v s) 0 1) (cond (nat_le s v) 1 0)
at_most_test s v = grind (arith, nat_tests)

at_most_one : (s v : ℕ) → cond (nat_le s v) 1 0 ≤ 1
at_most_one s v = grind (arith, nat_tests)

class_more : (done : List ℕ) (below s top v : ℕ) → below + length done + 1 ≤ top → (class_of done below v + cond (nat_lt v s) 0 1) % (top + 1) ≡ class_of (done ++ s ∷ []) below v
class_more done below s top v room =
    let few : count_by (λ t. nat_le t v) done ≤ length done = count_by-le-length (λ t. nat_le t v) done in
    let turn = at_most_test s v in
    let one = at_most_one s v in
    let last : count_by (λ t. nat_le t v) (done ++ s ∷ []) ≡ count_by (λ t. nat_le t v) done + cond (nat_le s v) 1 0 = fold-append (λ a x. a + cond (nat_le x v) 1 0) 0 done (s ∷ []) in
    let small : class_of done below v + cond (nat_le s v) 1 0 < top + 1 = omega arith in
    rw turn (mod-eq_of_lt small ∙ (add_assoc below (count_by (λ t. nat_le t v) done) (cond (nat_le s v) 1 0) ∙ ap (λ n. below + n) (sym last)))

-- one more start, for each lane
pub more_classes : (vs done classes starts zeros ones more sums : List ℕ) (below s top : ℕ) → below + length done + 1 ≤ top
    → classes ≡ map (class_of done below) vs → starts ≡ map (λ _. s) vs → zeros ≡ map (λ _. 0) vs → ones ≡ map (λ _. 1) vs
    → more ≡ sel_l (zip2 nat_lt vs starts) zeros ones → sums ≡ zip2 (λ x y. (x + y) % (top + 1)) classes more → sums ≡ map (class_of (done ++ s ∷ []) below) vs
more_classes vs done classes starts zeros ones more sums below s top room before a b d e f =
    let added = chosen nat_lt (λ (v : ℕ). v) (λ v. s) (λ v. 0) (λ v. 1) vs (sym (map-id vs)) a b d e in
    f ∙ (zip2_of_maps (λ x y. (x + y) % (top + 1)) (class_of done below) (λ v. cond (nat_lt v s) 0 1) vs before added
    ∙ same_map _ (class_of (done ++ s ∷ []) below) (λ v. class_more done below s top v room) vs)

pub no_classes : (vs ns : List ℕ) (below s : ℕ) → length vs ≡ 16 → ns ≡ replicate 16 s → s ≡ below → ns ≡ map (class_of [] below) vs
no_classes vs ns below s long is same = splatted vs below long is same ∙ same_map (λ _. below) (class_of [] below) (λ n. omega arith) vs

pub class_fits : (starts : List ℕ) (below n top : ℕ) → below + length starts ≤ top → class_of starts below n ≤ top
class_fits starts below n top room =
    let few : count_by (λ t. nat_le t n) starts ≤ length starts = count_by-le-length (λ t. nat_le t n) starts in
    omega arith

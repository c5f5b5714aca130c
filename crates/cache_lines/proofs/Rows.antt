-- The lines of each set, read and written at the places of one of them.
use Rattle.std.proofs.Common.{◌≡◌, ℕ, zero, suc, ◌+◌, ◌-◌, ◌*◌, ◌<◌, ◌≤◌, List, [], ◌∷◌, ◌++◌, length, take, drop, get_or, replicate, refl, sym, ap, ap₂, ◌∙◌, arith}
use Rattle.std.specs.Prelude.{All, slice_set}
use Rattle.std.proofs.lemmas.List.{take-take, drop_at, drop-drop, drop-take, take-append-le, drop-append-le, length-take-le, length-append, length-drop}
use Rattle.std.proofs.Math.Nat.{mul-suc}
use Rattle.cache_lines.specs.Sets.{lines_of}

pub length-lines_of : (w : ℕ) (used places : List ℕ) → length (lines_of w used places) ≡ length used
length-lines_of w [] places = refl
length-lines_of w (n ∷ used) places = ap suc (length-lines_of w used (drop w places))

pub none-lines_of : (w s : ℕ) (places : List ℕ) (k : ℕ) → get_or (lines_of w (replicate s 0) places) k [] ≡ []
none-lines_of w zero places k = refl
none-lines_of w (suc s) places zero = refl
none-lines_of w (suc s) places (suc k) = none-lines_of w s (drop w places) k

-- the places of the next set
next-at : (w k : ℕ) → w * suc k ≡ w + w * k
next-at w k = let e : w * suc k ≡ w * k + w = mul-suc w k in omega (arith, e)

drop-next : (w k : ℕ) (places : List ℕ) → drop (w * k) (drop w places) ≡ drop (w * suc k) places
drop-next w k places = drop-drop (w * k) w places ∙ ap (λ n. drop n places) (sym (next-at w k))

-- the lines of one set
pub at-lines_of : (w : ℕ) (used places : List ℕ) (k d : ℕ) → k < length used → get_or (lines_of w used places) k [] ≡ take (get_or used k d) (drop (w * k) places)
at-lines_of w [] places k d lt = absurd (omega (arith, lt))
at-lines_of w (n ∷ used) places zero d lt = let none : w * zero ≡ zero = omega arith in ap (λ at. take n (drop at places)) (sym none)
at-lines_of w (n ∷ used) places (suc k) d lt = at-lines_of w used (drop w places) k d (omega (arith, lt)) ∙ ap (take (get_or used k d)) (drop-next w k places)

-- the places of one set are written
abbrev pub written : ℕ → ℕ → List ℕ → List ℕ → List ℕ
written at w places row = take at places ++ (row ++ drop w (drop at places))

pub length-written : (at w : ℕ) (places row : List ℕ) → length row ≡ w → at + w ≤ length places → length (written at w places row) ≡ length places
length-written at w places row long within =
    let a : length (written at w places row) ≡ length (take at places) + length (row ++ drop w (drop at places)) = length-append (take at places) (row ++ drop w (drop at places)) in
    let b : length (row ++ drop w (drop at places)) ≡ length row + length (drop w (drop at places)) = length-append row (drop w (drop at places)) in
    let c : length (drop w (drop at places)) ≡ length (drop at places) - w = length-drop w (drop at places) in
    let d : length (drop at places) ≡ length places - at = length-drop at places in
    let e : length (take at places) ≡ at = length-take-le at places (omega arith) in
    omega arith

pub set-lines_of : (w : ℕ) (used places row : List ℕ) (k u : ℕ) → length row ≡ w → k < length used → All (λ n. n ≤ w) used → u ≤ w → w * k + w ≤ length places →
    lines_of w (slice_set used k u) (written (w * k) w places row) ≡ slice_set (lines_of w used places) k (take u row)
set-lines_of w [] places row k u long lt few fits within = absurd (omega (arith, lt))
set-lines_of w (n ∷ used) places row zero u long lt few fits within =
    let none : w * zero ≡ zero = omega arith in
    ap (λ at. lines_of w (u ∷ used) (written at w places row)) none
    ∙ ap₂ (λ a b. a ∷ lines_of w used b) (take-append-le u row (drop w places) (omega arith)) (drop_at row (drop w places) w long)
set-lines_of w (n ∷ used) places row (suc k) u long lt few fits within =
    let at = w * suc k in
    let next : w * suc k ≡ w + w * k = next-at w k in
    let size : length (take (w * suc k) places) ≡ w * suc k = length-take-le (w * suc k) places (omega arith) in
    let small : n ≤ w = few 0 0 (omega arith) in
    let rest = row ++ drop w (drop (w * suc k) places) in
    let head : take n (written (w * suc k) w places row) ≡ take n places =
    take-append-le n (take (w * suc k) places) rest (omega arith) ∙ take-take n (w * suc k) places (omega arith) in
    let front : drop w (take (w * suc k) places) ≡ take (w * k) (drop w places) = ap (λ m. drop w (take m places)) next ∙ drop-take w (w * k) places in
    let tail : drop w (written (w * suc k) w places row) ≡ written (w * k) w (drop w places) row =
    drop-append-le w (take (w * suc k) places) rest (omega arith)
    ∙ ap₂ (λ a b. a ++ (row ++ drop w b)) front (sym (drop-next w k places)) in
    let left : length (drop w places) ≡ length places - w = length-drop w places in
    ap₂ (λ a b. a ∷ lines_of w (slice_set used k u) b) head tail
    ∙ ap (λ rows. take n places ∷ rows) (set-lines_of w used (drop w places) row k u long (omega (arith, lt)) (λ i d below. few (suc i) d (omega (arith, below))) fits (omega arith))

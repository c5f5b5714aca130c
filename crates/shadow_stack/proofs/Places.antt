-- Frames as a struct keeps them, and as contracts see them: what is changed at one place.
use Rattle.std.proofs.Common.{◌≡◌, ◌≢◌, ℕ, zero, suc, ◌<◌, List, [], ◌∷◌, ◌++◌, length, map, get_or, reverse, take, refl, sym, ap, subst, ◌∙◌, arith}
use Rattle.std.specs.Prelude.{Option, None, Some, slice_get, slice_index, slice_set, IfSome}
use Rattle.std.specs.Option.{option_map_or}
use Rattle.std.proofs.Math.Seq.{take-append_seam}
use Rattle.std.proofs.lemmas.List.{length-append, length-map, get_or_append_left, map-append, reverse-append}
use Rattle.std.proofs.lemmas.Simd.{map-map}
use Rattle.shadow_stack.specs.declared.sums.Sums.{Sums}
use Rattle.shadow_stack.specs.Frames.{Frame, FitsPop, FitsSums, starts_of, IsLastAtMost, IsRising, changed, added, added_to_last, plus, restarted}

-- the things kept, each with a start and sums
module _ {X : Type 0} (start : X → ℕ) (sums : X → Sums) where
  abbrev pub seen : X → Frame
  seen x = record { start = start x; sums = sums x }

  pub starts_seen : (xs : List X) → map start xs ≡ starts_of (map seen xs)
  starts_seen [] = refl
  starts_seen (x ∷ xs) = ap (λ ss. start x ∷ ss) (starts_seen xs)

  pub changed-set : (xs : List X) (i : ℕ) (old new : X) (change : Frame → Frame) → i < length xs → old ≡ get_or xs i old → seen new ≡ change (seen old) → map seen (slice_set xs i new) ≡ changed i change (map seen xs)
  changed-set [] i old new change within was is = absurd (omega (arith, within))
  changed-set (y ∷ xs) zero old new change within was is = ap (λ f. f ∷ map seen xs) (is ∙ ap (λ x. change (seen x)) was)
  changed-set (y ∷ xs) (suc i) old new change within was is = ap (λ fs. seen y ∷ fs) (changed-set xs i old new change (omega (arith, within)) was is)

-- where what is seen of one stays, it stays of all
pub same-set : {X Y : Type 0} (f : X → Y) (xs : List X) (i : ℕ) (old new : X) → i < length xs → old ≡ get_or xs i old → f new ≡ f old → map f (slice_set xs i new) ≡ map f xs
same-set f [] i old new within was is = absurd (omega (arith, within))
same-set f (y ∷ xs) zero old new within was is = ap (λ z. z ∷ map f xs) (is ∙ ap f was)
same-set f (y ∷ xs) (suc i) old new within was is = ap (λ zs. f y ∷ zs) (same-set f xs i old new (omega (arith, within)) was is)

-- ---- a change at one place
pub length_changed : (i : ℕ) (by : Sums) (frames : List Frame) → length (added i by frames) ≡ length frames
length_changed i by [] = refl
length_changed zero by (f ∷ frames) = refl
length_changed (suc i) by (f ∷ frames) = ap suc (length_changed i by frames)

-- leaves the others
get_apart : (i k : ℕ) (by : Sums) (frames : List Frame) → i ≢ k → slice_get (added i by frames) k ≡ slice_get frames k
get_apart i k by [] apart = refl
get_apart zero zero by (f ∷ frames) apart = absurd (apart refl)
get_apart zero (suc k) by (f ∷ frames) apart = refl
get_apart (suc i) zero by (f ∷ frames) apart = refl
get_apart (suc i) (suc k) by (f ∷ frames) apart = get_apart i k by frames (λ same. apart (ap suc same))

-- something is added at a place, if there is one
abbrev pub added_if : Sums → Option ℕ → List Frame → List Frame
added_if by place frames = option_map_or (λ i. added i by frames) place frames

pub length_added_if : (by : Sums) (place : Option ℕ) (frames : List Frame) → length (added_if by place frames) ≡ length frames
length_added_if by None frames = refl
length_added_if by (Some i) frames = length_changed i by frames

-- the innermost frame is another than the last one that started at or before an earlier stamp
pub top_apart : (stamp top : ℕ) (by back : Sums) (place : Option ℕ) (frames : List Frame) → IsLastAtMost (starts_of frames) stamp place → stamp < slice_index (starts_of frames) top
    → IfSome (slice_get frames top) (λ f. FitsSums (plus f.sums by)) → IfSome (slice_get (added_if back place frames) top) (λ f. FitsSums (plus f.sums by))
top_apart stamp top by back None frames last above fits = fits
top_apart stamp top by back (Some i) frames last above fits =
    let apart : i ≢ top = λ same. absurd (omega (arith, above, last.1, ap (slice_index (starts_of frames)) same)) in
    subst (λ (o : Option Frame). IfSome o (λ f. FitsSums (plus f.sums by))) (sym (get_apart i top back frames apart)) fits

-- one more frame has its new start
pub restarted_next : (starts : List ℕ) (frames : List Frame) (i : ℕ) → i < length starts → i < length frames →
    changed i (λ f. record f { start = slice_index starts i }) (restarted (take i starts) frames) ≡ restarted (take (suc i) starts) frames
restarted_next [] frames i low within = absurd (omega (arith, low))
restarted_next (s ∷ starts) [] i low within = absurd (omega (arith, within))
restarted_next (s ∷ starts) (f ∷ frames) zero low within = refl
restarted_next (s ∷ starts) (f ∷ frames) (suc i) low within =
    ap (λ fs. record f { start = s } ∷ fs) (restarted_next starts frames i (omega (arith, low)) (omega (arith, within)))

-- all have theirs
pub restarted_starts : (starts : List ℕ) (frames : List Frame) → length starts ≡ length frames → starts_of (restarted starts frames) ≡ starts
restarted_starts [] [] long = refl
restarted_starts [] (f ∷ frames) long = absurd (omega (arith, long))
restarted_starts (s ∷ starts) [] long = absurd (omega (arith, long))
restarted_starts (s ∷ starts) (f ∷ frames) long = ap (λ ss. s ∷ ss) (restarted_starts starts frames (omega (arith, long)))

-- the part of rising starts is rising
pub rising_front : (starts : List ℕ) (last : ℕ) → IsRising (starts ++ last ∷ []) → IsRising starts
rising_front starts last rising i j lt within =
    let long = length-append starts (last ∷ []) in
    let here = rising i j lt (omega (arith, within, long)) in
    rw (← get_or_append_left starts (last ∷ []) 0 i (omega (arith, lt, within)), ← get_or_append_left starts (last ∷ []) 0 j within) here

-- the place of the last
pub last_added : (n : ℕ) (by : Sums) (frames : List Frame) → length frames ≡ suc n → added n by frames ≡ added_to_last by frames
last_added n by [] long = absurd (omega (arith, long))
last_added zero by (f ∷ []) long = refl
last_added zero by (f ∷ g ∷ frames) long = absurd (omega (arith, long))
last_added (suc n) by (f ∷ []) long = absurd (omega (arith, long))
last_added (suc n) by (f ∷ g ∷ frames) long = ap (λ fs. f ∷ fs) (last_added n by (g ∷ frames) (omega (arith, long)))

-- there is none
pub none_added : (by : Sums) (frames : List Frame) → ¬ (0 < length frames) → frames ≡ added_to_last by frames
none_added by [] none = refl
none_added by (f ∷ frames) none = absurd (none (omega arith))

-- what a pop asks of the frame below the top is what it asks of the last of the others
pub below_fits : (n : ℕ) (outer : List Frame) (top : Frame) → length outer ≡ suc n → FitsPop (outer ++ top ∷ []) → IfSome (slice_get outer n) (λ f. FitsSums (plus f.sums top.sums))
below_fits n [] top long fits = absurd (omega (arith, long))
below_fits zero (f ∷ []) top long fits = fits
below_fits zero (f ∷ g ∷ outer) top long fits = absurd (omega (arith, long))
below_fits (suc n) (f ∷ []) top long fits = absurd (omega (arith, long))
below_fits (suc n) (f ∷ g ∷ []) top long fits = below_fits n (g ∷ []) top (omega (arith, long)) fits
below_fits (suc n) (f ∷ g ∷ h ∷ outer) top long fits = below_fits n (g ∷ h ∷ outer) top (omega (arith, long)) fits

-- what is seen of all but the last
pub left_seen : {X Y : Type 0} (f : X → Y) (xs left : List X) (top : X) (n : ℕ) → xs ≡ left ++ top ∷ [] → n ≡ length left → take n (map f xs) ≡ map f left
left_seen f xs left top n is long =
    ap (λ ys. take n (map f ys)) is ∙ ap (take n) (map-append f left (top ∷ []))
    ∙ ap (λ k. take k (map f left ++ f top ∷ [])) (long ∙ sym (length-map left f)) ∙ take-append_seam (map f left) (f top ∷ [])

-- what is seen through what is the same
pub same_through : {X Y Z : Type 0} (f : X → Y) (g : Y → Z) (xs ys : List X) → map f xs ≡ map f ys → map (λ x. g (f x)) xs ≡ map (λ x. g (f x)) ys
same_through f g xs ys same = sym (map-map g f xs) ∙ ap (map g) same ∙ map-map g f ys

-- the same in reverse
pub seen_reversed : {X Y Z : Type 0} (f : X → Y) (g : Y → Z) (xs : List X) → map (λ x. g (f x)) (reverse xs) ≡ map g (reverse (map f xs))
seen_reversed f g [] = refl
seen_reversed f g (x ∷ xs) =
    ap (map (λ x. g (f x))) (reverse-append (x ∷ []) xs) ∙ map-append (λ x. g (f x)) (reverse xs) (x ∷ [])
    ∙ ap (λ zs. zs ++ g (f x) ∷ []) (seen_reversed f g xs)
    ∙ sym (ap (map g) (reverse-append (f x ∷ []) (map f xs)) ∙ map-append g (reverse (map f xs)) (f x ∷ []))

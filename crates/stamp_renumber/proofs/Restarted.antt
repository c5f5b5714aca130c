-- The new starts of frames.
use Rattle.std.proofs.Common.{◌≡◌, ℕ, ◌<◌, List, [], ◌∷◌, length, map, get_or, refl, ap, arith, All}
use Rattle.std.specs.Prelude.{Contains}
use Rattle.std.proofs.lemmas.List.{get_or-map, length-map}
use Rattle.shadow_stack.specs.Frames.{Frame, IsRising, restarted, starts_of}
use Rattle.stamp_renumber.specs.Classes.{new_start}
use Rattle.stamp_renumber.specs.Renumbered.{renewed_frames}
use Rattle.stamp_renumber.proofs.Order.{class-strict}

-- they rise as the old ones do
pub renewed_rising : (starts xs : List ℕ) → All (Contains starts) xs → IsRising xs → IsRising (map (new_start starts) xs)
renewed_rising starts xs among rising = λ i j lt within.
    let inside : j < length xs = omega (arith, within, length-map xs (new_start starts)) in
    let low = get_or-map (new_start starts) xs i 0 0 (omega (arith, lt, inside)) in
    let high = get_or-map (new_start starts) xs j 0 0 inside in
    let up = class-strict starts (get_or xs i 0) (get_or xs j 0) (among j 0 inside) (rising i j lt inside) in
    omega (arith, low, high, up)

pub restarted_all : (starts : List ℕ) (frames : List Frame) → restarted (map (new_start starts) (starts_of frames)) frames ≡ renewed_frames starts frames
restarted_all starts [] = refl
restarted_all starts (f ∷ frames) = ap (λ fs. record f { start = new_start starts f.start } ∷ fs) (restarted_all starts frames)

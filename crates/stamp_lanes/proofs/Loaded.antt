-- The blocks that are loaded.
use Rattle.std.proofs.Common.{◌≡◌, ℕ, ◌+◌, ◌≤◌, List, length, map, take, drop, ap, sym, ◌∙◌, ◌<◌, get_or}
use Rattle.std.proofs.lemmas.List.{drop-map, get_or-map, length-map, take-map}
use Rattle.std.proofs.lemmas.Simd.{length-chunk}
use Rattle.std.specs.Simd.Lanes.{chunk}

pub loaded : {X : Type 0} (f : X → ℕ) (s : List X) (at : ℕ) → map f (chunk at 16 s) ≡ take 16 (drop at (map f s))
loaded f s at = sym (take-map f 16 (drop at s)) ∙ ap (take 16) (sym (drop-map f at s))

pub loaded_is : {X : Type 0} (f : X → ℕ) (s : List X) (at : ℕ) (lanes : List ℕ) → lanes ≡ map f (chunk at 16 s) → lanes ≡ take 16 (drop at (map f s))
loaded_is f s at lanes is = is ∙ loaded f s at

pub loaded_length : {X : Type 0} (f : X → ℕ) (s : List X) (at : ℕ) (block : List ℕ) → at + 16 ≤ length s → block ≡ map f (chunk at 16 s) → length block ≡ 16
loaded_length f s at block le is = ap length is ∙ (length-map (chunk at 16 s) f ∙ length-chunk at 16 s le)

-- the number of the stamp at a place
pub number_at : {X : Type 0} (f : X → ℕ) (s : List X) (at : ℕ) (item : X) → at < length s → item ≡ get_or s at item → get_or (map f s) at 0 ≡ f item
number_at f s at item lt is = get_or-map f s at item 0 lt ∙ ap f (sym is)

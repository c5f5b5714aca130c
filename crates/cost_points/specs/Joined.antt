-- Items in blocks that stand one behind another.
use Rattle.std.specs.Prelude.{◌≤◌, List, [], ◌∷◌, ◌++◌, drop, length, map, Vec}
use Rattle.std.specs.List.{All}
use Rattle.std.specs.declared.alloc.Global.{Global}

-- the items of all blocks
abbrev pub joined : {A : Type 0} → List (List A) → List A
joined [] = []
joined (b ∷ bs) = b ++ joined bs

-- the items of all blocks, each a vector
abbrev pub items_in : {A : Type 0} → List (Vec A Global) → List A
items_in blocks = joined (map (λ b. b.items) blocks)

-- There is a block, and none but the first may be empty.
pub record IsFilled {A : Type 0} (bs : List (List A)) : Type 0 where
  pub some : 1 ≤ length bs
  pub each : All (λ b. 1 ≤ length b) (drop 1 bs)

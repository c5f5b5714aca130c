-- Grouping by a key, where the groups stand by rising key.
use Rattle.std.specs.Prelude.{ℕ, ◌<◌, ◌==◌, nat_lt, List, [], ◌∷◌, length, map, filter, slice_index, if◌then◌else◌}

-- the number in its place in a rising list, once
abbrev pub insert_rising : ℕ → List ℕ → List ℕ
insert_rising x [] = x ∷ []
insert_rising x (y ∷ ys) = if x == y then y ∷ ys else (if nat_lt x y then x ∷ y ∷ ys else y ∷ insert_rising x ys)

-- the numbers of a list, rising, each once
abbrev pub rising : List ℕ → List ℕ
rising [] = []
rising (x ∷ xs) = insert_rising x (rising xs)

-- each number is below all that come after it
abbrev pub IsRising : List ℕ → Type 0
IsRising keys = (i j : ℕ) → i < j → j < length keys → slice_index keys i < slice_index keys j

-- for each key that occurs, the keys rising, what is made of it and of the members that have it, in their order
unfoldable pub grouped : {A B : Type 0} → (A → ℕ) → (ℕ → List A → B) → List A → List B
grouped key make all = map (λ k. make k (filter (λ a. key a == k) all)) (rising (map key all))

-- a value for a key, among values that stand by rising key: one that has the key is changed, and else there is a new one in
-- its place
abbrev pub put : {B : Type 0} → (B → ℕ) → ℕ → (B → B) → B → List B → List B
put key k change new [] = new ∷ []
put key k change new (x ∷ xs) = if k == key x then change x ∷ xs else (if nat_lt k (key x) then new ∷ x ∷ xs else x ∷ put key k change new xs)

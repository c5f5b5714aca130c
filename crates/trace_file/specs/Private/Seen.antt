-- Bytes of a name that were seen before.
use Rattle.std.specs.Prelude.{◌≡◌, ℕ, true, List, [], ◌∷◌, ◌++◌, take}
use Rattle.std.specs.List.{flat_map, list_all}
use Rattle.guest_words.specs.Names.{is_visible}
use Rattle.trace_file.specs.declared.records.Form.TheVariants.{Named}
use Rattle.trace_file.specs.Records.{AreInRanges, number_bytes, ranges}

-- If the numbers of a name stand first, the `seen` bytes behind them can stand in a name.
abbrev pub IsSeen : ℕ → List ℕ → Type 0
IsSeen seen bytes =
    (a b : ℕ) (rest : List ℕ) → AreInRanges (a ∷ b ∷ []) (ranges Named) → bytes ≡ flat_map number_bytes (a ∷ b ∷ []) ++ rest → list_all is_visible (take seen rest) ≡ true

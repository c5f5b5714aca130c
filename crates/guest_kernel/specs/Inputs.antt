-- The files that a guest can open: each a name and its bytes.
use Rattle.std.specs.Prelude.{ℕ, Bool, bytes_eq, List, [], ◌∷◌, ◌++◌, if◌then◌else◌}
use Rattle.std.specs.List.{list_any}

pub record Input : Type 0 where
  pub name : List ℕ
  pub bytes : List ℕ

abbrev pub is_named : List ℕ → Input → Bool
is_named name i = bytes_eq i.name name

-- one more input, behind the others; a name that is there keeps its bytes
abbrev pub with_input : List Input → List ℕ → List ℕ → List Input
with_input inputs name bytes =
    if list_any (is_named name) inputs then inputs else inputs ++ record { name = name; bytes = bytes } ∷ []

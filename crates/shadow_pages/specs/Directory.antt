-- The places of pages by page number, in tables of 1024 entries.
use Rattle.std.specs.Prelude.{◌≡◌, ◌≢◌, ℕ, ◌<◌, ◌≤◌, ◌/◌, ◌%◌, ◌^◌, ◌⊎◌, List, [], Option, None, length, get_or}

-- the table of a page: empty where there is none
abbrev pub table_of : List (List (Option ℕ)) → ℕ → List (Option ℕ)
table_of d number = get_or d (number / 2 ^ 10) []

-- the place of a page, where it has one
abbrev pub entry : List (List (Option ℕ)) → ℕ → Option ℕ
entry d number = get_or (table_of d number) (number % 1024) None

-- each table has no entry or 1024
abbrev pub IsDirectory : List (List (Option ℕ)) → Type 0
IsDirectory d = (i : ℕ) → i < length d → (length (get_or d i []) ≡ 0) ⊎ (length (get_or d i []) ≡ 1024)

-- the table of the page is there
pub record HasTable (d : List (List (Option ℕ))) (number : ℕ) : Type 0 where
  pub table : number / 2 ^ 10 < length d
  pub entries : number % 1024 < length (table_of d number)

abbrev pub HaveTables : List (List (Option ℕ)) → ℕ → ℕ → Type 0
HaveTables d first end = (n : ℕ) → first ≤ n → n < end → HasTable d n

-- none of the pages has its entry in the table of this one
abbrev pub IsApart : ℕ → ℕ → ℕ → Type 0
IsApart first end number = (m : ℕ) → first ≤ m → m < end → number / 2 ^ 10 ≢ m / 2 ^ 10

-- Pages by number, in tables of 1024 pages. A page is its rights and its bytes: no bytes where it is absent.
use Rattle.std.specs.Prelude.{◌≡◌, ℕ, ◌<◌, ◌/◌, ◌%◌, ◌+◌, ◌^◌, ◌⊎◌, List, [], ◌++◌, length, get_or, slice_set, replicate, take, drop, false}
use Rattle.guest_words.specs.declared.rights.Rights.{Rights}

abbrev pub no_rights : Rights
no_rights = record { read = false; write = false; exec = false }

-- the table of a page: empty where there is none
abbrev pub table_of : List (List (Rights × List ℕ)) → ℕ → List (Rights × List ℕ)
table_of d number = get_or d (number / 2 ^ 10) []

abbrev pub page_of : List (List (Rights × List ℕ)) → ℕ → Rights × List ℕ
page_of d number = get_or (table_of d number) (number % 1024) (no_rights, [])

-- the directory with another page of this number
abbrev pub with_page : List (List (Rights × List ℕ)) → ℕ → Rights × List ℕ → List (List (Rights × List ℕ))
with_page d number page = slice_set d (number / 2 ^ 10) (slice_set (table_of d number) (number % 1024) page)

-- a list with these bytes from an index on
abbrev pub overwritten : List ℕ → ℕ → List ℕ → List ℕ
overwritten old start bytes = take start old ++ (bytes ++ drop (start + length bytes) old)

-- A directory has 1024 tables, a table no page or 1024, a page no byte or 4096.
pub record IsDirectory (d : List (List (Rights × List ℕ))) : Type 0 where
  pub top : length d ≡ 1024
  pub tables : (i : ℕ) → i < length d → (length (get_or d i []) ≡ 0) ⊎ (length (get_or d i []) ≡ 1024)
  pub pages : (i j : ℕ) → i < length d → j < length (get_or d i [])
      → (length (get_or (get_or d i []) j (no_rights, [])).1 ≡ 0) ⊎ (length (get_or (get_or d i []) j (no_rights, [])).1 ≡ 4096)

-- A page has its place, be it absent or not: its table is there.
pub record IsPlaced (d : List (List (Rights × List ℕ))) (number : ℕ) : Type 0 where
  pub table : number / 2 ^ 10 < length d
  pub page : number % 1024 < length (table_of d number)

-- the bytes of a new page
unfoldable pub zeros : List ℕ
zeros = replicate 4096 0

-- each page of the range has its place
abbrev pub ArePlaced : List (List (Rights × List ℕ)) → ℕ → ℕ → Type 0
ArePlaced d first count = (k : ℕ) → k < count → IsPlaced d (first + k)

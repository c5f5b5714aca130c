-- The order of the contexts right under each one, by number.
use Rattle.std.specs.Prelude.{◌≡◌, ◌≢◌, ℕ, suc, ◌+◌, ◌<◌, ◌≤◌, List, length, slice_index_or, Option, Some, None}
use Rattle.context_tree.specs.declared.order.Links.{Links}
use Rattle.context_tree.specs.Numbers.{above_of}

abbrev pub no_links : Links
no_links = record { first_child = None; last_child = None; next_sibling = None; depth = 0 }

-- what is kept of the context of a number
abbrev pub links_at : List Links → ℕ → Links
links_at links n = slice_index_or links n no_links

-- The number is the first one above k of a context right under that of the number n, or there is none.
abbrev pub IsNextUnder : List (ℕ × ℕ) → (n k : ℕ) → Option ℕ → Type 0
IsNextUnder places n k None = (t : ℕ) → k < t → t ≤ length places → above_of places t ≢ n
IsNextUnder places n k (Some s) = (k < s) × (s ≤ length places) × (above_of places s ≡ n) × ((t : ℕ) → k < t → t < s → above_of places t ≢ n)

-- The number is the last one of a context right under that of the number n, or there is none.
abbrev pub IsLastUnder : List (ℕ × ℕ) → ℕ → Option ℕ → Type 0
IsLastUnder places n None = IsNextUnder places n 0 None
IsLastUnder places n (Some l) = (1 ≤ l) × (l ≤ length places) × (above_of places l ≡ n) × IsNextUnder places n l None

-- These are the links of the contexts with these places.
pub record IsLinked (places : List (ℕ × ℕ)) (links : List Links) : Type 0 where
  pub long : length links ≡ suc (length places)
  pub falls : (n : ℕ) → 1 ≤ n → n ≤ length places → above_of places n < n
  pub first : (n : ℕ) → n ≤ length places → IsNextUnder places n 0 (links_at links n).first_child
  pub last : (n : ℕ) → n ≤ length places → IsLastUnder places n (links_at links n).last_child
  pub next : (n : ℕ) → 1 ≤ n → n ≤ length places → IsNextUnder places (above_of places n) n (links_at links n).next_sibling
  pub none : (links_at links 0).depth ≡ 0
  pub depth : (n : ℕ) → 1 ≤ n → n ≤ length places → (links_at links n).depth ≡ (links_at links (above_of places n)).depth + 1

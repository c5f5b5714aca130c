-- Stamps of words, in pages of 1024 words.
use Rattle.std.specs.Prelude.{◌≡◌, ◌≢◌, ◌==◌, ℕ, ◌+◌, ◌/◌, ◌%◌, ◌<◌, ◌≤◌, ◌^◌, ◌&&◌, Bool, true, if◌then◌else◌, List, [], ◌∷◌, ◌++◌, All, drop, get_or, length, map, nat_le, nat_lt, replicate, slice_index, slice_set, take, Option, Some, None}
use Rattle.std.specs.Option.{is_some}
use Rattle.shadow_pages.specs.Directory.{entry}

-- A page: its number, which is that of its words over 1024, and the stamps of its words.
pub record Page : Type 0 where
  pub number : ℕ
  pub stamps : List ℕ

-- the pages in the order of their coming
pub record Pages : Type 0 where
  pub pages : List Page

-- the page of a number, where there is one
abbrev pub page_of : List Page → ℕ → Option Page
page_of [] n = None
page_of (p ∷ pages) n = if p.number == n then Some p else page_of pages n

-- a page has the word
abbrev pub covers : List Page → ℕ → Bool
covers pages w = is_some (page_of pages (w / 1024))

-- the stamp of a word of a page
abbrev pub stamp_in : Option Page → ℕ → ℕ
stamp_in None i = 0
stamp_in (Some p) i = slice_index p.stamps i

-- the stamp of a word: 0 where no page has the word
abbrev pub stamp_at : List Page → ℕ → ℕ
stamp_at pages w = stamp_in (page_of pages (w / 1024)) (w % 1024)

-- the page at a place
abbrev pub page_at : List Page → ℕ → Page
page_at pages i = get_or pages i (record { number = 0; stamps = [] })

-- The page at the place has the word, and no other has it.
pub record HasPlace (pages : List Page) (w place : ℕ) : Type 0 where
  pub within : place < length pages
  pub page : (page_at pages place).number ≡ w / 1024
  pub only : (i : ℕ) → i < length pages → (page_at pages i).number ≡ w / 1024 → i ≡ place

-- no two pages have one number
abbrev pub AreDistinct : List Page → Type 0
AreDistinct pages = (i j : ℕ) → i < j → j < length pages → (page_at pages i).number ≢ (page_at pages j).number

abbrev pub IsLow : Page → Type 0
IsLow p = p.number < 2 ^ 20

abbrev pub IsFull : Page → Type 0
IsFull p = length p.stamps ≡ 1024

-- the word is of the range
abbrev pub in_range : ℕ → ℕ → ℕ → Bool
in_range first count w = nat_le first w && nat_lt w (first + count)

-- each word of the range is covered
abbrev pub AreCovered : List Page → ℕ → ℕ → Type 0
AreCovered pages first count = (w : ℕ) → first ≤ w → w < first + count → covers pages w ≡ true

-- the stamps of a new page
unfoldable pub zeros : List ℕ
zeros = replicate 1024 0

-- A word of the range stands in the page of this number.
pub record HasWord (first count number : ℕ) : Type 0 where
  pub word : ℕ
  pub low : first ≤ word
  pub high : word < first + count
  pub page : word / 1024 ≡ number

-- The pages that were there stay in front. Behind them come pages of zeros, each with a word of the range, and all words of
-- the range are covered.
pub record IsReserved (old new : List Page) (first count : ℕ) : Type 0 where
  pub fresh : List Page
  pub front : new ≡ old ++ fresh
  pub zero : All (λ p. p.stamps ≡ zeros) fresh
  pub meets : All (λ p. HasWord first count p.number) fresh
  pub covered : AreCovered new first count

-- there is a page of each number from the first one on, up to the end
abbrev pub HaveAll : List Page → ℕ → ℕ → Type 0
HaveAll pages low end = (n : ℕ) → low ≤ n → n < end → is_some (page_of pages n) ≡ true

-- The pages that come to those that are there: each of the numbers has then one page.
pub record AreFresh (old fresh : List Page) (low end : ℕ) : Type 0 where
  pub zero : All (λ p. p.stamps ≡ zeros) fresh
  pub inside : All (λ p. (low ≤ p.number) × (p.number < end)) fresh
  pub absent : All (λ p. page_of old p.number ≡ None) fresh
  pub distinct : AreDistinct (old ++ fresh)
  pub covered : HaveAll (old ++ fresh) low end

-- The directory says the place of each page, and of no other.
pub record IsIndexed (d : List (List (Option ℕ))) (pages : List Page) (upto : ℕ) : Type 0 where
  pub said : (i : ℕ) → i < upto → entry d (page_at pages i).number ≡ Some i
  pub held : (n i : ℕ) → entry d n ≡ Some i → (i < upto) × ((page_at pages i).number ≡ n)

-- The pages that the directory and the vector of pages keep.
pub record AreKept (d : List (List (Option ℕ))) (pages : List Page) : Type 0 where
  pub indexed : IsIndexed d pages (length pages)
  pub low : All IsLow pages
  pub full : All IsFull pages

-- as many stamps as before, with the new ones in front
abbrev pub refilled : List ℕ → List ℕ → List ℕ
refilled old new = take (length old) (new ++ drop (length new) old)

-- the page at the place has these stamps
abbrev pub with_page : List Page → ℕ → List ℕ → List Page
with_page pages i stamps = slice_set pages i (record { number = (page_at pages i).number; stamps = refilled (page_at pages i).stamps stamps })

-- the stamps of the page of a number are changed
abbrev pub changed : List Page → ℕ → (List ℕ → List ℕ) → List Page
changed pages n change = map (λ p. if p.number == n then record { number = p.number; stamps = change p.stamps } else p) pages

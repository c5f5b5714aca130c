-- Code by page: a page's number and, for each of its words, the instruction that is known of it.
use Rattle.std.specs.Prelude.{◌≡◌, ℕ, ◌<◌, ◌≤◌, ◌⊎◌, ◌/◌, ◌%◌, List, [], length, get_or, Option, None}
use Rattle.rv_isa.specs.declared.instruction.Instr.{Instr}

abbrev pub no_code : ℕ × List (Option Instr)
no_code = (0, [])

abbrev pub page_at : List (ℕ × List (Option Instr)) → ℕ → ℕ × List (Option Instr)
page_at pages place = get_or pages place no_code

-- The index has the place of each page's code, by the page's number, and 0 where it has none: at the first place nothing is
-- known.
pub record IsIndex (places : List ℕ) (pages : List (ℕ × List (Option Instr))) : Type 0 where
  pub first : 0 < length pages
  pub blank : (word : ℕ) → get_or (page_at pages 0).1 word None ≡ None
  pub placed : (number : ℕ) → 0 < get_or places number 0 → get_or places number 0 < length pages
  pub numbered : (number : ℕ) → 0 < get_or places number 0 → (page_at pages (get_or places number 0)).0 ≡ number
  pub indexed : (place : ℕ) → 0 < place → place < length pages → get_or places (page_at pages place).0 0 ≡ place

-- the instruction that is known of a word of the guest, by the word's number
abbrev pub known_in : List ℕ → List (ℕ × List (Option Instr)) → ℕ → Option Instr
known_in places pages word = get_or (page_at pages (get_or places (word / 1024) 0)).1 (word % 1024) None

-- Of a page's words, those from the first up to the end are forgotten, and the others stay.
pub record AreForgotten (first end : ℕ) (old new : List (Option Instr)) : Type 0 where
  pub gone : (word : ℕ) → first ≤ word → word < end → get_or new word None ≡ None
  pub rest : (word : ℕ) → (word < first) ⊎ (end ≤ word) → get_or new word None ≡ get_or old word None

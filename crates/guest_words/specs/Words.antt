-- The aligned words of four bytes that bytes of memory overlap.
use Rattle.std.specs.Prelude.{◌≡◌, ℕ, ◌+◌, ◌/◌, ◌-◌, ◌<◌, ◌≤◌}

-- how many words the bytes overlap, where there is at least one byte
abbrev pub word_count : ℕ → ℕ → ℕ
word_count first bytes = (first + bytes + 3) / 4 - first / 4

-- The range of words is the least that holds the bytes: each byte's word is in it, and each of its words holds a byte.
pub record IsLeastRange (first bytes word count : ℕ) : Type 0 where
  pub holds : (byte : ℕ) → first ≤ byte → byte < first + bytes → (word ≤ byte / 4) × (byte / 4 < word + count)
  pub held : (w : ℕ) → word ≤ w → w < word + count → (byte : ℕ) × (first ≤ byte) × (byte < first + bytes) × (byte / 4 ≡ w)

-- Values of threads, by rising thread number.
use Rattle.std.specs.Prelude.{ℕ, ◌<◌, ◌==◌, not, if◌then◌else◌, List, [], ◌∷◌, filter, map, Option, Some, None, refl}
use Rattle.std.specs.Coded.{Coded, code_by, coded×, coded_ℕ, coded_list}

-- each thread with its value, and how many more threads can be inserted without allocating
pub record Table (T : Type 0) : Type 0 where
  pub list : List (ℕ × T)
  pub room : ℕ

-- a table is stored as the pair of its fields
abbrev pub table_code : {T : Type 0} → Coded T → Coded (Table T)
table_code {T} code =
    code_by (List (ℕ × T) × ℕ) (coded× (coded_list (coded× coded_ℕ code)) coded_ℕ) (λ t. (t.list, t.room))
    (λ p. record { list = p.0; room = p.1 }) (λ _. refl)

-- each number is below the next
abbrev pub IsRising : List ℕ → Type 0
IsRising [] = Unit {0}
IsRising (n ∷ []) = Unit {0}
IsRising (n ∷ m ∷ rest) = (n < m) × IsRising (m ∷ rest)

module _ {T : Type 0} where
  -- the numbers of the threads
  abbrev pub numbers : List (ℕ × T) → List ℕ
  numbers xs = map (λ x. x.0) xs

  -- the value of a thread
  abbrev pub value_of : List (ℕ × T) → ℕ → Option T
  value_of [] t = None
  value_of (x ∷ xs) t = if x.0 == t then Some x.1 else value_of xs t

  -- the thread, which is one of them, has this value, and the others have what they had
  abbrev pub with_value : List (ℕ × T) → ℕ → T → List (ℕ × T)
  with_value [] t v = []
  with_value (x ∷ xs) t v = if x.0 == t then (x.0, v) ∷ xs else x ∷ with_value xs t v

  -- the thread is none of them
  abbrev pub without_thread : List (ℕ × T) → ℕ → List (ℕ × T)
  without_thread xs t = filter (λ x. not (x.0 == t)) xs

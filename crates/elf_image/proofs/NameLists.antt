-- The names that a file gives, as a list by rising address.
use Rattle.std.proofs.Common.{◌≡◌, ℕ, zero, suc, ◌+◌, ◌^◌, ◌<◌, ◌≤◌, eqb, List, [], ◌∷◌, length, get_or, map, Option, Some, None, refl, sym, ap, subst, ◌∙◌, inl, inr, arith}
use Rattle.std.specs.List.{All, AllPairs, cons_option, filter_map, find, range_with_len}
use Rattle.std.specs.Option.{option_map}
use Rattle.std.proofs.lemmas.Bool.{cases_eq, cases_order, eq-eqb, ne_eqb}
use Rattle.std.proofs.lemmas.List.Recursion.{found_nowhere}
use Rattle.elf_image.specs.Symbols.{Symbol}
use Rattle.elf_image.specs.Reading.{addresses, name_at, names_of}
use Rattle.elf_image.specs.Symbols.{symbol_of, symbols}
use Rattle.elf_image.proofs.FirstSymbols.{no_symbol}

-- an address and the name of its symbol
abbrev pub named : Symbol → ℕ × List ℕ
named s = (s.value, s.name)

-- what is listed of an address
abbrev pub listed : List Symbol → ℕ → Option (ℕ × List ℕ)
listed first at = option_map (λ (name : List ℕ). (at, name)) (option_map (λ (s : Symbol). s.name) (find (λ s. eqb s.value at) first))

-- two functions that agree from the first number on
same_listed : {X : Type 0} (g h : ℕ → Option X) (a n : ℕ) → ((at : ℕ) → a ≤ at → g at ≡ h at) → filter_map g (range_with_len a n) ≡ filter_map h (range_with_len a n)
same_listed g h a zero agree = refl
same_listed g h a (suc n) agree = ap (λ o. cons_option o (filter_map g (range_with_len (a + 1) n))) (agree a (omega arith))
    ∙ ap (cons_option (h a)) (same_listed g h (a + 1) n (λ at low. agree at (omega arith)))

-- an address below all values has no symbol
none_below : (first : List Symbol) (at : ℕ) → ((k : ℕ) → k < length first → at < (get_or first k no_symbol).value) → find (λ s. eqb s.value at) first ≡ None
none_below first at above = found_nowhere (find (λ s. eqb s.value at)) (λ s. eqb s.value at) Some None refl (λ s rest. refl) first no_symbol
    (λ k inside. let over : at < (get_or first k no_symbol).value = above k inside in ne_eqb _ _ (λ e. omega (arith, over, e)))

over_all : (a : ℕ) (s : Symbol) (rest : List Symbol) → a < s.value → ((k : ℕ) → k < length rest → s.value < (get_or rest k no_symbol).value)
    → (k : ℕ) → k < length (s ∷ rest) → a < (get_or (s ∷ rest) k no_symbol).value
over_all a s rest above up zero inside = above
over_all a s rest above up (suc k) inside = let next : s.value < (get_or rest k no_symbol).value = up k (omega arith) in omega arith

-- symbols by rising value are listed by going through the addresses
pub listed_all : (n a : ℕ) (first : List Symbol) → AllPairs (λ s t. s.value < t.value) first → ((k : ℕ) → k < length first → a ≤ (get_or first k no_symbol).value)
    → ((k : ℕ) → k < length first → (get_or first k no_symbol).value < a + n) → filter_map (listed first) (range_with_len a n) ≡ map named first
listed_all zero a [] rising low high = refl
listed_all zero a (s ∷ rest) rising low high =
    let l : a ≤ s.value = low 0 (omega arith) in let h : s.value < a + 0 = high 0 (omega arith) in absurd (omega arith)
listed_all (suc n) a [] rising low high = listed_all n (a + 1) [] rising (λ k inside. absurd (omega arith)) (λ k inside. absurd (omega arith))
listed_all (suc n) a (s ∷ rest) rising low high =
    let least : a ≤ s.value = low 0 (omega arith) in
    let up : (k : ℕ) → k < length rest → s.value < (get_or rest k no_symbol).value = λ k inside. rising 0 (suc k) no_symbol (omega arith) (omega arith) in
    let under : (k : ℕ) → k < length rest → (get_or rest k no_symbol).value < a + suc n = λ k inside. high (suc k) (omega arith) in
    elim (cases_order s.value a) as (λ _. filter_map (listed (s ∷ rest)) (range_with_len a (suc n)) ≡ map named (s ∷ rest)) [
      | inl here ↦ subst (λ (v : ℕ). cons_option (listed (s ∷ rest) v) (filter_map (listed (s ∷ rest)) (range_with_len (v + 1) n)) ≡ named s ∷ map named rest) here
          (rw (eq-eqb s.value s.value refl)
          (ap (λ (names : List (ℕ × List ℕ)). named s ∷ names)
          (same_listed (listed (s ∷ rest)) (listed rest) (s.value + 1) n (λ at past. rw (ne_eqb s.value at (λ e. omega (arith, past, e))) refl)
          ∙ listed_all n (s.value + 1) rest (λ i j d lt inside. rising (suc i) (suc j) d (omega arith) (omega arith))
          (λ k inside. omega (arith, up k inside))
          (λ k inside. omega (arith, under k inside, here)))))
      | inr (inl below) ↦ absurd (omega arith)
      | inr (inr above) ↦
          let over : (k : ℕ) → k < length (s ∷ rest) → a < (get_or (s ∷ rest) k no_symbol).value = over_all a s rest above up in
          ap (λ (o : Option Symbol). cons_option (option_map (λ (name : List ℕ). (a, name)) (option_map (λ (t : Symbol). t.name) o)) (filter_map (listed (s ∷ rest)) (range_with_len (a + 1) n)))
          (none_below (s ∷ rest) a over)
          ∙ listed_all n (a + 1) (s ∷ rest) rising (λ k inside. omega (arith, over k inside)) (λ k inside. omega (arith, high k inside))
    ]

-- a number of 32 bits is an address
is_address : (n : ℕ) → n < 2 ^ 32 → n < 0 + addresses
unfolding addresses
is_address n fits = omega arith

-- the names are those of the file
pub names_are : (file : List ℕ) (first : List Symbol) → AllPairs (λ s t. s.value < t.value) first
    → ((at : ℕ) → find (λ s. eqb s.value at) first ≡ symbol_of (symbols file) at) → All (λ s. s.value < 2 ^ 32) first → map named first ≡ names_of file
unfolding names_of
names_are file first rising found fit =
    sym (listed_all addresses 0 first rising (λ k inside. omega arith) (λ k inside. is_address _ (fit k no_symbol inside)))
    ∙ ap (λ h. filter_map h (range_with_len 0 addresses)) same
  where
    same : listed first ≡ (λ at. option_map (λ (name : List ℕ). (at, name)) (name_at file at))
    same = λ i at. option_map (λ (name : List ℕ). (at, name)) (option_map (λ (s : Symbol). s.name) (found at i))

-- the name of an address, by its symbol
pub name_of-symbols : (first : List Symbol) (at : ℕ)
    → option_map (λ (n : ℕ × List ℕ). n.1) (find (λ n. eqb n.0 at) (map named first)) ≡ option_map (λ (s : Symbol). s.name) (find (λ s. eqb s.value at) first)
name_of-symbols [] at = refl
name_of-symbols (s ∷ rest) at = elim (cases_eq s.value at) as (λ _. option_map (λ (n : ℕ × List ℕ). n.1) (find (λ n. eqb n.0 at) (map named (s ∷ rest))) ≡ option_map (λ (s : Symbol). s.name) (find (λ s. eqb s.value at) (s ∷ rest))) [
  | inl here ↦ rw (eq-eqb s.value at here) refl
  | inr elsewhere ↦ rw (ne_eqb s.value at elsewhere) (name_of-symbols rest at)
]
